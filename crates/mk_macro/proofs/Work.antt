-- What is left to do behind open references.
use Rattle.std.proofs.Common.{◌≡◌, ℕ, ◌+◌, List, [], ◌∷◌, ◌++◌, length, arith}
use Rattle.mk_macro.specs.declared.open.Open.{Open}

abbrev pub work : List Open → ℕ
work [] = 0
work (o ∷ opens) = length o.rest.now + 1 + work opens

pub work_push : (opens : List Open) (o : Open) → work (opens ++ o ∷ []) ≡ work opens + (length o.rest.now + 1)
work_push [] o = omega arith
work_push (p ∷ opens) o = let more = work_push opens o in omega arith
