use Rattle.std.proofs.Common.{◌∙◌, ◌++◌}
use Rattle.std.proofs.KnownBytes.{Consumes-trans}
use Rattle.mk_read.proofs.devices.read_past.Goals as goal

pub reads-preserved : goal.reads-preserved
reads-preserved g c =
    let before = c.reads.invariant.bytes in
    record {
      works = c.in_ok-n.ensures.failed;
      same = c.in_ok-n.ensures.same ∙ c.reads.invariant.same;
      bytes = (before.0 ++ _, Consumes-trans _ _ _ _ _ before.1 c.in_ok-n.ensures.bytes);
    }
