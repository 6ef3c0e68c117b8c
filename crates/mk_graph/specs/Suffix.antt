-- The suffix of a name ("Inference Rules").
use Rattle.std.specs.Prelude.{ℕ, Bool, not, ◌&&◌, ◌==◌, List, [], ◌∷◌, drop, if◌then◌else◌}
use Rattle.std.specs.List.{list_any}
use Rattle.mk_name.specs.Names.{Name}

abbrev pub is_slash : ℕ → Bool
is_slash b = b == 47

abbrev pub is_period : ℕ → Bool
is_period b = b == 46

-- what stands behind the last slash
abbrev pub last_component : Name → List ℕ
last_component [] = []
last_component (b ∷ bs) = if list_any is_slash (b ∷ bs) then last_component bs else b ∷ bs

-- the text from the last period on; nothing where there is none
abbrev pub from_last_period : List ℕ → List ℕ
from_last_period [] = []
from_last_period (b ∷ bs) = if not (list_any is_period bs) && is_period b then b ∷ bs else from_last_period bs

-- the suffix: behind the first byte of the last component, all from the last period on; nothing where no period stands there
abbrev pub suffix_of : Name → List ℕ
suffix_of t = from_last_period (drop 1 (last_component t))
