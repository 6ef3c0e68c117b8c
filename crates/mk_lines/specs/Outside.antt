-- Bytes outside of macro references (POSIX.1-2024 XCU make, "Macros").
use Rattle.std.specs.Prelude.{ℕ, ◌+◌, Bool, true, false, List, [], ◌∷◌, Option, None, Some, ◌==◌, ◌&&◌, if◌then◌else◌}
use Rattle.std.specs.Option.{option_map}

abbrev pub dollar : ℕ
dollar = 36

-- where a byte stands: outside of references, behind the dollar sign that begins one, or in one that this byte closes
pub data Standing : Type 0 where
  Outside : Standing
  Opening : Standing
  Within : ℕ → Standing

-- where the next byte stands: `$(` goes to the next `)`, `${` to the next `}`, and `$` before another byte is two bytes long
abbrev pub behind : Standing → ℕ → Standing
behind Outside b = if b == dollar then Opening else Outside
behind Opening b = if b == 40 then Within 41 else (if b == 123 then Within 125 else Outside)
behind (Within closing) b = if b == closing then Outside else Within closing

abbrev pub is_outside : Standing → Bool
is_outside Outside = true
is_outside Opening = false
is_outside (Within closing) = false

-- the place of the first byte outside of references that passes the test, where the text begins so
abbrev pub place_from : (ℕ → Bool) → Standing → List ℕ → Option ℕ
place_from test standing [] = None
place_from test standing (b ∷ bs) =
    if is_outside standing && test b then Some 0
    else option_map (λ n. n + 1) (place_from test (behind standing b) bs)

-- the place of the first byte outside of references that passes the test
abbrev pub place_outside : (ℕ → Bool) → List ℕ → Option ℕ
place_outside test text = place_from test Outside text
