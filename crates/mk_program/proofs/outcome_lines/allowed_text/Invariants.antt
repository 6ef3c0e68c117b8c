use Rattle.std.proofs.Common.{◌≡◌, ◌++◌}
use Rattle.mk_program.specs.OutcomeText.{allowed_text, file_lines}
use Rattle.mk_program.proofs.outcome_lines.allowed_text.Given as goal

-- what is there, and then the lines of the files that are left
abbrev pub invariant-loop-name : goal.invariant-loop-name
invariant-loop-name l = l.out.items ++ file_lines l.name-iterator ≡ allowed_text l.replayed
