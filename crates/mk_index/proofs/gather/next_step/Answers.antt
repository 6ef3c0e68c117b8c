use Rattle.mk_index.proofs.Uniting.{step_behind}
use Rattle.mk_index.proofs.gather.next_step.Goals as goal

pub returns-then-j-second-clause-some : goal.returns-then-j-second-clause-some
returns-then-j-second-clause-some c =
    step_behind c.args.first.now c.args.second.now c.args.i c.args.j c.index-first-i.result c.index-second-j.result c.cmp.result c.if-i-first.true c.if-j-second.true
    c.index-first-i.is c.index-second-j.is c.cmp.ensures
