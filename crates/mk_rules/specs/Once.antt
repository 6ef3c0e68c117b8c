-- A law of reading makefiles.
use Rattle.std.specs.Prelude.{ℕ, ◌≡◌, List, Result}
use Rattle.mk_name.specs.Reported.{Reported}
use Rattle.mk_include.specs.Includes.{IncludeTexts}
use Rattle.mk_macro.specs.Macros.{Macros}
use Rattle.mk_rules.specs.Book.{Book}
use Rattle.mk_rules.specs.Placed.{Placed}
use Rattle.mk_rules.specs.Reading.{MakefilesSay}

-- makefiles say one thing: two answers that their lines may have are equal, and so are the macros behind them
abbrev pub SayOnce : Type 0
SayOnce =
    (root : List ℕ) (texts : IncludeTexts) (macros : Macros) (lines : List Placed) (one other : Result Book Reported) (after left : Macros)
    → MakefilesSay root texts macros lines one after → MakefilesSay root texts macros lines other left → (one ≡ other) × (after ≡ left)
