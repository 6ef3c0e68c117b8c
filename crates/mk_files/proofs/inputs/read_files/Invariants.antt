use Rattle.std.specs.Vec.Iter.{into_iter_items}
use Rattle.mk_files.proofs.Reading.{AreReadSoFar}
use Rattle.mk_files.proofs.inputs.read_files.Given as goal

abbrev pub invariant-loop-file : goal.invariant-loop-file
invariant-loop-file g l =
    (goal.iterator-loop-file g).can_next l.file-iterator ×
    (goal.iterator-loop-file g).is_finite l.file-iterator ×
    AreReadSoFar g.F.Intake.has_failed g.F.Intake.left g.F.Intake.readable l.fn.files.items (into_iter_items l.file-iterator) l.texts.items
