use Rattle.std.proofs.Common.{rules, false, get_or, length, not, ℕ, List, ap, arith}
use Rattle.std.proofs.lemmas.Fn.{filter_same}
use Rattle.mk_missing.proofs.Filters.{both_parts}
use Rattle.mk_missing.proofs.unlisted.drop_unlisted.Goals as goal

pub returns-clause-kept : goal.returns-clause-kept
returns-clause-kept c = filter_same _ (λ (pair : ℕ × ℕ). not (get_or c.args.marks.now pair.0 false)) _ (λ x b f h. search rules) _ _ c.retain.ensures.filtered

pub returns-clause-dropped : goal.returns-clause-dropped
returns-clause-dropped c =
    let kept = filter_same _ (λ (pair : ℕ × ℕ). not (get_or c.args.marks.now pair.0 false)) _ (λ x b f h. search rules) _ _ c.retain.ensures.filtered in
    let parts = both_parts (λ (pair : ℕ × ℕ). get_or c.args.marks.now pair.0 false) c.args.pairs.now.items in
    let long = ap (λ (ps : List (ℕ × ℕ)). length ps) kept in
    omega (arith, parts, long, c.len-all.ensures, c.len.ensures)
