use Rattle.std.proofs.Common.{◌≡◌, map, take}
use Rattle.mk_program.proofs.answers.bytes_of.Given as goal

abbrev pub invariant-loop-text : goal.invariant-loop-text
invariant-loop-text l = map (λ bytes. bytes.now) l.list.items ≡ map (λ text. text.now) (take l.text-index l.texts)
