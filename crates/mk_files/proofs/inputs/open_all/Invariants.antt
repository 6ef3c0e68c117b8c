use Rattle.mk_files.proofs.Reading.{FirstAreOpen}
use Rattle.mk_files.proofs.inputs.open_all.Given as goal

abbrev pub invariant-loop-known : goal.invariant-loop-known
invariant-loop-known g l =
    FirstAreOpen g.P.File.Intake.has_failed g.P.File.Intake.left g.P.File.Intake.readable l.inputs (g.P.Opener.files l.initial.opener) (g.P.Opener.files l.opener) l.files.items l.known-index
