-- The tests of the code against what they test.
use Rattle.std.proofs.Common.{◌≡◌, Bool, true, false, sym, ◌∙◌}
use Rattle.std.proofs.lemmas.Bool.{false≢true}

-- what a test refuses does not hold
pub no : (r b : Bool) → r ≡ b → r ≡ false → b ≡ true → ⊥
no r b is fails holds = false≢true (sym fails ∙ is ∙ holds)

-- nor does the contrary of what it grants
pub yes : (r b : Bool) → r ≡ b → r ≡ true → b ≡ false → ⊥
yes r b is passes fails = false≢true (sym fails ∙ sym is ∙ passes)
