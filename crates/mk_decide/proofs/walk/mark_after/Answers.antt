use Rattle.std.proofs.Common.{arith, All, Bool, true, ◌≡◌, ◌<◌, ◌↔◌, ◌∙◌, length, sym, ap, subst}
use Rattle.std.specs.List.{list_any}
use Rattle.mk_jobs.specs.Jobs.{Before}
use Rattle.mk_decide.proofs.Edges.{all_below}
use Rattle.mk_decide.proofs.Marking.{is_from, has_from, marked_more}
use Rattle.mk_decide.proofs.walk.mark_after.Goals as goal

pub has_marked-marked-requires : goal.has_marked-marked-requires
has_marked-marked-requires c =
    subst (All (λ p. p < length c.loop-x.marks)) (sym c.prerequisites.ensures)
    (all_below c.args.jobs.now c.loop-x.x (length c.loop-x.marks) c.count-x-end.ensures.valid (omega (arith, c.count-x-end.ensures.count)))

pub loop-x-preserved : goal.loop-x-preserved
loop-x-preserved c =
    let jobs = c.args.jobs.now in
    let marks = c.loop-x.marks in
    let is = c.has_marked-marked.ensures ∙ ap (list_any (is_from c.args.a marks)) c.prerequisites.ensures in
    marked_more jobs c.args.a c.loop-x.x marks c.has_marked-marked.result (omega (arith, c.count-x-end.ensures.count)) c.loop-x.invariant
    (subst (λ (m : Bool). (m ≡ true) ↔ Before jobs c.args.a c.loop-x.x) (sym is) (has_from jobs c.args.a c.loop-x.x marks c.count-x-end.ensures.valid c.loop-x.invariant))
