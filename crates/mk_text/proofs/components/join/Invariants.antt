use Rattle.std.proofs.Common.{◌≡◌, ◌∷◌, ◌++◌, drop}
use Rattle.std.specs.List.{flat_map}
use Rattle.mk_text.proofs.components.join.Given as goal

-- the bytes so far and those of the other components are all of them
abbrev pub invariant-loop-part : goal.invariant-loop-part
invariant-loop-part l = l.bytes.items ++ flat_map (λ x. 47 ∷ x.now) (drop l.part-index l.others) ≡ l.initial.bytes.items ++ flat_map (λ x. 47 ∷ x.now) l.others
