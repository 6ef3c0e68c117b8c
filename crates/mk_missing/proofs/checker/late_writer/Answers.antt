use Rattle.std.proofs.Common.{◌∙◌, ℕ, All, List, get_or, subst}
use Rattle.std.proofs.lemmas.List.{take_all}
use Rattle.std.proofs.lemmas.List.Elements.{All-more}
use Rattle.mk_jobs.specs.Jobs.{Before, Jobs}
use Rattle.mk_missing.proofs.checker.late_writer.Goals as goal

pub loop-m-preserved : goal.loop-m-preserved
loop-m-preserved c =
    let jobs = c.args.before.now in
    let nodes = c.args.nodes.now in
    let i = c.loop-m.m-index in
    let n = c.args.n in
    let here = subst (λ (jobs : Jobs). Before jobs (get_or nodes i 0) n) c.loop-m.invariant.same (c.before-in-loop-m.ensures.exact.0 c.if-not-before.false) in
    record {
      before = All-more (λ m. Before jobs m n) nodes i 0 c.loop-m-test.true c.loop-m.invariant.before here;
      same = c.before-in-loop-m.ensures.keeps ∙ c.loop-m.invariant.same;
    }

pub returns-clause-all : goal.returns-clause-all
returns-clause-all c = subst (λ (ns : List ℕ). All (λ m. Before c.args.before.now m c.args.n) ns) (take_all c.loop-m.m-index c.args.nodes.now c.loop-m-test.false) c.loop-m.invariant.before
