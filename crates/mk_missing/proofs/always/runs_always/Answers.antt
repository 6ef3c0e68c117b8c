use Rattle.std.proofs.Common.{◌∙◌, ◌<◌, All, arith, subst, sym}
use Rattle.mk_decide.proofs.Edges.{all_smaller}
use Rattle.mk_missing.specs.Watching.{itself}
use Rattle.mk_missing.proofs.Awake.{runs_if_woken}
use Rattle.mk_missing.proofs.always.runs_always.Goals as goal

pub is_woken-requires-clause-nodes : goal.is_woken-requires-clause-nodes
is_woken-requires-clause-nodes c =
    let all : All (λ p. p < c.args.n) c.prerequisites.result.now =
    subst (All (λ p. p < c.args.n)) (sym c.prerequisites.ensures) (all_smaller c.args.jobs.now c.args.n c.requires.valid) in
    λ k d at. omega (arith, all k d at, c.requires.marks.count)

pub returns-then-is_restless : goal.returns-then-is_restless
returns-then-is_restless c = (λ _. itself (sym c.is_live.ensures ∙ c.if-is_live.true) (sym c.is_restless.ensures ∙ c.if-is_restless.true), λ _. c.if-is_restless.true)

pub returns-else-is_restless : goal.returns-else-is_restless
returns-else-is_restless c =
    runs_if_woken c.args.jobs.now c.args.marks.now c.args.n c.is_woken.result c.prerequisites.result.now c.requires.valid c.requires.marks (sym c.is_live.ensures ∙ c.if-is_live.true)
    (sym c.is_restless.ensures ∙ c.if-is_restless.false) c.prerequisites.ensures c.is_woken.ensures
