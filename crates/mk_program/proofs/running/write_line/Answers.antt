use Rattle.std.proofs.KnownBytes.{Appends-trans}
use Rattle.mk_program.proofs.running.write_line.Goals as goal

pub returns-clause-written : goal.returns-clause-written
returns-clause-written g c = Appends-trans _ _ _ _ _ c.in_ok-write_all.ensures.all c.in_ok-write_all-2.ensures.all
