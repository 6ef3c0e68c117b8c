use Rattle.std.proofs.Common.{◌-◌, false, [], ap, sym, ◌∙◌, arith}
use Rattle.std.proofs.lemmas.List.{get_or_default}
use Rattle.mk_path.specs.declared.path.Path.{Path}
use Rattle.mk_path.specs.Covering.{tree_at}
use Rattle.mk_path.specs.Paths.{path_cmp}
use Rattle.mk_path.proofs.Leaps.{before_too}
use Rattle.mk_path.proofs.RangePlaces.{less_from}
use Rattle.mk_path.proofs.covering.leap_back.Goals as goal

pub returns-else-not-is_lt-clause-before : goal.returns-else-not-is_lt-clause-before
returns-else-not-is_lt-clause-before c =
    let paths = c.args.paths.now in
    let low = c.loop-low.low in
    let asked = tree_at c.args.name.now in
    let nothing : Path = record { name = []; tree = false } in
    let within = c.loop-low.invariant.within in
    let at = get_or_default paths (low - 1) nothing c.index-paths-low.result (omega (arith, within, c.loop-low-test.true)) ∙ sym c.index-paths-low.is in
    let less = ap (λ (p : Path). path_cmp p asked) at ∙ sym c.order.ensures ∙ less_from c.order.result (sym c.is_lt.ensures ∙ c.if-not-is_lt.false) in
    λ j below. before_too paths asked low j c.requires below within less
