-- Paths whose components all stand for themselves are names below the root.
use Rattle.std.proofs.Common.{◌≡◌, ◌<◌, ℕ, Bool, true, false, ◌||◌, not, eqb, List, [], ◌∷◌, ◌++◌, codes, length, fold, Some, None, sym, ap, ◌∙◌, append_assoc, refl, arith}
use Rattle.std.specs.Cmp.Lexicographic.{pointwise, nat_list_eq_equiv}
use Rattle.std.specs.List.{join_with_byte, list_all}
use Rattle.std.proofs.lemmas.Bool.{and_parts, cond-true, cond-false, not-true, false≢true}
use Rattle.std.proofs.lemmas.List.{append-nil}
use Rattle.std.proofs.lemmas.List.Sums.{fold-append}
use Rattle.std.proofs.lemmas.List.Splits.{join_with_byte-slice_split, length-slice_split, slice_split-cons_yes}
use Rattle.mk_text.proofs.Reduced.{one_more-plain, plain_from_tests}
use Rattle.mk_text.specs.Spelling.{IsPlain, below, components, full, is_absolute, is_plain, name_of, one_more, plain_name, reduced, spelled}

from_test : (part : List ℕ) → is_plain part ≡ true → IsPlain part
from_test part is =
    let parts = and_parts (not (eqb (length part) 0 || pointwise eqb part (codes "."))) (not (pointwise eqb part (codes ".."))) is in
    plain_from_tests part (not-true _ parts.0) (not-true _ parts.1)

-- plain components follow what is reduced
fold-plain : (parts kept : List (List ℕ)) → list_all is_plain parts ≡ true → fold one_more kept parts ≡ kept ++ parts
fold-plain [] kept all = sym (append-nil kept)
fold-plain (part ∷ parts) kept all =
    let both = and_parts (is_plain part) (list_all is_plain parts) all in
    fold-plain parts (one_more kept part) both.1 ∙ ap (λ ks. ks ++ parts) (one_more-plain kept part (from_test part both.0)) ∙ append_assoc kept (part ∷ []) parts

below-append : (root parts : List (List ℕ)) → below root (root ++ parts) ≡ Some parts
below-append [] parts = refl
below-append (first ∷ more) parts = cond-true (pointwise eqb first first) (below more (more ++ parts)) None (nat_list_eq_equiv.refl first) ∙ below-append more parts

spelled-some : (all parts : List (List ℕ)) → 0 < length parts → spelled all (Some parts) ≡ join_with_byte 47 parts
spelled-some all [] some = absurd (omega arith)
spelled-some all (part ∷ parts) some = refl

relative : (path : List ℕ) → list_all is_plain (components path) ≡ true → is_absolute path ≡ false
relative [] all = refl
relative (b ∷ bs) all = by (eqb b 47) refl
  where
    by : (t : Bool) → eqb b 47 ≡ t → t ≡ false
    by false e = refl
    by true e = absurd (false≢true (sym (ap (list_all is_plain) (slice_split-cons_yes (λ x. eqb x 47) b bs e)) ∙ all))

-- the plain name of such a path is the path
pub plain_name-plain : (root path : List ℕ) → list_all is_plain (components path) ≡ true → plain_name root path ≡ path
plain_name-plain root path all =
    let R = reduced (components root) in
    let P = components path in
    let whole : reduced (full root path) ≡ R ++ P = ap reduced (cond-false (is_absolute path) P (components root ++ P) (relative path all)) ∙ fold-append one_more [] (components root) P ∙ fold-plain P R all in
    let some : 0 < length P = omega (arith, length-slice_split (λ b. eqb b 47) path) in
    ap (name_of R) whole ∙ ap (spelled (R ++ P)) (below-append R P) ∙ spelled-some (R ++ P) P some ∙ join_with_byte-slice_split 47 path
