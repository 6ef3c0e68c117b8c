-- The order of paths.
use Rattle.std.proofs.Common.{◌≡◌, ◌&&◌, Bool, true, false, not, if◌then◌else◌, refl, ap, ◌∙◌}
use Rattle.std.specs.Cmp.{IsTotalOrder, bool_cmp_total, tied_then}
use Rattle.std.specs.Cmp.Lexicographic.{on_texts, slice_cmp, texts_ties}
use Rattle.std.specs.Ordering.{bool_cmp, is_eq, nat_cmp}
use Rattle.std.proofs.lemmas.Cmp.{on_total, then_total}
use Rattle.mk_path.specs.declared.path.Path.{Path}
use Rattle.mk_path.specs.Paths.{path_cmp, same_path}

pub path_cmp_total : IsTotalOrder path_cmp
path_cmp_total = then_total (on_texts (λ (p : Path). p.name)) (on_total (λ (p : Path). p.tree) bool_cmp_total)

kinds_tie : (a b : Bool) → (if a then b else not b) ≡ is_eq (bool_cmp a b)
kinds_tie false false = refl
kinds_tie false true = refl
kinds_tie true false = refl
kinds_tie true true = refl

-- two paths are the same where the order has neither before the other
pub path_ties : (p q : Path) → same_path p q ≡ is_eq (path_cmp p q)
path_ties p q =
    let n = slice_cmp nat_cmp p.name q.name in
    let t = bool_cmp p.tree q.tree in
    ap (λ b. b && (if p.tree then q.tree else not q.tree)) (texts_ties p.name q.name)
    ∙ ap (λ b. is_eq n && b) (kinds_tie p.tree q.tree) ∙ tied_then n t
