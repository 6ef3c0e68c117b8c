-- The folders that a text spells, cut by cut.
use Rattle.std.proofs.Common.{◌≡◌, ◌<◌, ◌-◌, ◌++◌, ℕ, suc, zero, Bool, true, false, eqb, cond, List, [], ◌∷◌, length, map, take, get_or, ap, ◌∙◌, refl, arith}
use Rattle.std.specs.List.{list_any}
use Rattle.std.proofs.lemmas.Bool.{cond-true, cond_both, eq-eqb, eqb-true, or_from, or_left, or_right}
use Rattle.std.proofs.lemmas.List.{length-append, take-append-le, take_all}
use Rattle.mk_name.specs.Names.{Name}
use Rattle.mk_path.specs.Paths.{cuts}
use Rattle.mk_path.specs.Covering.{inner_folders, own_folders, proper_cuts}
use Rattle.mk_path.proofs.Tests.{any_map, map_append}
use Rattle.mk_text.specs.Spelling.{without_last}

-- the cuts of a text are those before a slash, and the text
pub cuts_end : (x : Name) → cuts x ≡ proper_cuts x ++ x ∷ []
cuts_end [] = refl
cuts_end (b ∷ bs) = by (eqb b 47) (ap (map (λ t. b ∷ t)) (cuts_end bs) ∙ map_append (λ t. b ∷ t) (proper_cuts bs) (bs ∷ []))
  where
    by : (t : Bool) → map (λ u. b ∷ u) (cuts bs) ≡ map (λ u. b ∷ u) (proper_cuts bs) ++ (b ∷ bs) ∷ []
        → cond t ([] ∷ map (λ u. b ∷ u) (cuts bs)) (map (λ u. b ∷ u) (cuts bs))
        ≡ cond t ([] ∷ map (λ u. b ∷ u) (proper_cuts bs)) (map (λ u. b ∷ u) (proper_cuts bs)) ++ (b ∷ bs) ∷ []
    by true e = ap (λ ts. [] ∷ ts) e
    by false e = e

pub own_end : (x : Name) → own_folders x ≡ inner_folders x ++ x ∷ []
own_end [] = refl
own_end (b ∷ bs) = ap (map (λ t. b ∷ t)) (cuts_end bs) ∙ map_append (λ t. b ∷ t) (proper_cuts bs) (bs ∷ [])

pub without_end : (xs : List Name) (x : Name) → without_last (xs ++ x ∷ []) ≡ xs
without_end xs x =
    let n : length (xs ++ x ∷ []) - 1 ≡ length xs = omega (arith, length-append xs (x ∷ [])) in
    ap (λ k. take k (xs ++ x ∷ [])) n ∙ take-append-le (length xs) xs (x ∷ []) (omega arith) ∙ take_all (length xs) xs (omega arith)

-- a proper cut stands before a slash
any_proper_found : (f : Name → Bool) (bs : Name) (k : ℕ) → k < length bs → get_or bs k 0 ≡ 47 → f (take k bs) ≡ true → list_any f (proper_cuts bs) ≡ true
any_proper_found f [] k less slash here = absurd (omega arith)
any_proper_found f (b ∷ bs) zero less slash here =
    let later = map (λ t. b ∷ t) (proper_cuts bs) in
    ap (list_any f) (cond-true (eqb b 47) ([] ∷ later) later (eq-eqb b 47 slash)) ∙ or_left (f []) (list_any f later) here
any_proper_found f (b ∷ bs) (suc k) less slash here =
    let cuts = map (λ t. b ∷ t) (proper_cuts bs) in
    let later : list_any f cuts ≡ true = any_map f (λ t. b ∷ t) (proper_cuts bs) ∙ any_proper_found (λ t. f (b ∷ t)) bs k (omega arith) slash here in
    cond_both (eqb b 47) ([] ∷ cuts) cuts (λ ts. list_any f ts ≡ true) (λ _. or_right (f []) (list_any f cuts) later) (λ _. later)

any_proper_none : (f : Name → Bool) (bs : Name) → ((k : ℕ) → k < length bs → get_or bs k 0 ≡ 47 → f (take k bs) ≡ false) → list_any f (proper_cuts bs) ≡ false
any_proper_none f [] none = refl
any_proper_none f (b ∷ bs) none =
    let cuts = map (λ t. b ∷ t) (proper_cuts bs) in
    let later : list_any f cuts ≡ false = any_map f (λ t. b ∷ t) (proper_cuts bs) ∙ any_proper_none (λ t. f (b ∷ t)) bs (λ k less slash. none (suc k) (omega arith) slash) in
    cond_both (eqb b 47) ([] ∷ cuts) cuts (λ ts. list_any f ts ≡ false) (λ slash. or_from (f []) (list_any f cuts) (none 0 (omega arith) (eqb-true b 47 slash)) later) (λ _. later)

-- and so does an inner folder, but not before the first byte
pub any_inner_found : (f : Name → Bool) (x : Name) (k : ℕ) → 0 < k → k < length x → get_or x k 0 ≡ 47 → f (take k x) ≡ true → list_any f (inner_folders x) ≡ true
any_inner_found f [] k some less slash here = absurd (omega arith)
any_inner_found f (b ∷ bs) zero some less slash here = absurd (omega arith)
any_inner_found f (b ∷ bs) (suc k) some less slash here =
    any_map f (λ t. b ∷ t) (proper_cuts bs) ∙ any_proper_found (λ t. f (b ∷ t)) bs k (omega arith) slash here

pub any_inner_none : (f : Name → Bool) (x : Name) → ((k : ℕ) → 0 < k → k < length x → get_or x k 0 ≡ 47 → f (take k x) ≡ false)
    → list_any f (inner_folders x) ≡ false
any_inner_none f [] none = refl
any_inner_none f (b ∷ bs) none =
    any_map f (λ t. b ∷ t) (proper_cuts bs) ∙ any_proper_none (λ t. f (b ∷ t)) bs (λ k less slash. none (suc k) (omega arith) (omega arith) slash)
