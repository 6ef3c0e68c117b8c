use Rattle.std.proofs.Common.{◌≡◌, ◌+◌, ◌++◌, [], length, map}
use Rattle.std.specs.Option.{option_map_or}
use Rattle.mk_text.specs.Lexical.{physical_lines}
use Rattle.mk_text.proofs.lexical.physical_lines.Given as goal

-- the lines found and those of the rest are the text's
abbrev pub invariant-lines : goal.invariant-lines
invariant-lines l = physical_lines l.fn.text ≡ map (λ line. line.now) l.lines.items ++ option_map_or (λ rest. physical_lines rest.now) l.rest []

abbrev pub decreases-lines : goal.decreases-lines
decreases-lines l = option_map_or (λ rest. length rest.now + 1) l.rest 0
