use Rattle.std.proofs.Common.{◌≡◌, map, string_bytes, take}
use Rattle.race.proofs.arguments.texts.Given as goal

-- the first words are lent
abbrev pub invariant-loop-argument : goal.invariant-loop-argument
invariant-loop-argument l = map (λ text. text.now) l.texts.items ≡ map string_bytes (take l.argument-index l.arguments)
