use Rattle.std.proofs.Common.{◌≡◌, map, take}
use Rattle.mk_text.proofs.components.copies.Given as goal

-- the components so far are copied
abbrev pub invariant-loop-part : goal.invariant-loop-part
invariant-loop-part l = map (λ part. part.items) l.all.items ≡ map (λ x. x.now) (take l.part-index l.parts)
