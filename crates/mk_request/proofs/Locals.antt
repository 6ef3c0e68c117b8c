-- Commands that stay local.
use Rattle.std.proofs.Common.{◌≡◌, ◌∙◌, ◌||◌, Bool, true, false, IfOk, Ok, Result, subst}

-- what holds of what was made holds of what came of it
pub was_made : {X E : Type 0} (made : Result X E) (holds : X → Type 0) (x : X) → IfOk made holds → made ≡ Ok x → holds x
was_made made holds x h is = subst (λ (r : Result _ _). IfOk r holds) is h

-- an argument that is not global leaves a command local
pub stays : (new old global : Bool) → new ≡ (old || global) → global ≡ false → new ≡ old
stays new true global added is_local = added
stays new false global added is_local = added ∙ is_local
