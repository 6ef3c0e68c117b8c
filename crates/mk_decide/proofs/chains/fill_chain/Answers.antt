use Rattle.std.proofs.Common.{◌∙◌, sym, subst}
use Rattle.mk_jobs.specs.Jobs.{Jobs, Before}
use Rattle.mk_decide.specs.Chosen.{IsChosen}
use Rattle.mk_decide.proofs.Choosing.{IsBuilt, built_all, built_more, built_one}
use Rattle.mk_decide.proofs.chains.fill_chain.Goals as goal

pub loop-p-init : goal.loop-p-init
loop-p-init g c =
    let jobs = c.args.jobs.now in
    let before = subst (λ (j : Jobs). Before j c.args.a c.args.b) c.requires.same (c.before-2.ensures.exact.0 c.if-not-before.false) in
    (subst (IsBuilt jobs c.args.a c.args.b c.args.b) (sym c.in_ok-restart.ensures) (built_one jobs c.args.a c.args.b before c.requires.last), c.before-2.ensures.keeps ∙ c.requires.same)

pub loop-p-smaller : goal.loop-p-smaller
loop-p-smaller g c = c.count-count.ensures.valid.smaller c.loop-p.front c.in-Some.p c.in-Some.ensures.some.edge

pub loop-p-preserved : goal.loop-p-preserved
loop-p-preserved g c =
    let jobs = c.args.jobs.now in
    let built = built_more jobs c.args.a c.args.b c.loop-p.front c.in-Some.p c.loop-p.nodes.items c.count-count.ensures.valid c.loop-p.invariant.0 c.in-Some.ensures.some in
    (subst (IsBuilt jobs c.args.a c.args.b c.in-Some.p) (sym c.in_ok-push.ensures.items) built, c.in-Some.ensures.keeps ∙ c.loop-p.invariant.1)

pub returns-clause-chosen : goal.returns-clause-chosen
returns-clause-chosen g c =
    let jobs = c.args.jobs.now in
    let before = subst (λ (j : Jobs). Before j c.args.a c.args.b) c.requires.same (c.before-2.ensures.exact.0 c.if-not-before.false) in
    λ _. subst (IsChosen jobs c.args.a c.args.b) (sym c.reverse.ensures.items)
    (built_all jobs c.args.a c.args.b c.loop-p.front c.loop-p.nodes.items c.count-count.ensures.valid before c.loop-p.invariant.0 c.in_default.ensures.none)
