use Rattle.std.specs.Io.KnownBytes.{Keeps}
use Rattle.mk_device.proofs.sink.write_some.Given as goal

-- writes that were interrupted wrote nothing
abbrev pub invariant-tries : goal.invariant-tries
invariant-tries g l = Keeps (g.W.Write.contents l.fn.writer) (g.W.Write.contents l.writer)
