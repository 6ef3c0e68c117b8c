use Rattle.std.proofs.Common.{◌≢◌}
use Rattle.std.specs.List.{AllWithin}
use Rattle.mk_files.proofs.inputs.text_of.Given as goal

-- the input is not among the first
abbrev pub invariant-loop-known : goal.invariant-loop-known
invariant-loop-known l = AllWithin (λ known. known.input ≢ l.input) l.texts 0 l.known-index
