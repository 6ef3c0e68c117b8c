use Rattle.std.proofs.Common.{arith, sym}
use Rattle.mk_program.proofs.NoNode.{no_name}
use Rattle.mk_program.proofs.change_lines.name_of.Goals as goal

pub returns-then-n-count : goal.returns-then-n-count
returns-then-n-count c = sym (no_name c.args.jobs.now c.args.n (omega (arith, c.if-n-count.true, c.count.ensures.count)))
