-- The report of all races. Every line ends in a newline.
use Rattle.std.specs.Prelude.{ℕ, ◌≡◌, List, [], ◌∷◌, ◌++◌, codes, length}
use Rattle.mk_name.specs.Shown.{line, shown}
use Rattle.mk_path.specs.declared.path.Path.{Path}
use Rattle.mk_path.specs.Texts.{text_of}
use Rattle.mk_index.specs.Uses.{IsLeastOverlap}
use Rattle.mk_jobs.specs.Jobs.{Clash, Jobs}
use Rattle.mk_jobs.specs.Reaching.{uses_of}
use Rattle.mk_report.specs.ReportText.{counts_text, name_text, number_line, verb_text}

-- a node's name behind a space, and what it does with a path
abbrev pub doing_text : Jobs → ℕ → Path → List ℕ
doing_text jobs n path = name_text jobs n ++ codes " " ++ verb_text jobs n path

-- the line of a race: a path on which its nodes clash, and what each of the two does with it
abbrev pub race_line : Jobs → Path → ℕ × ℕ → List ℕ
race_line jobs path race = line (codes "race " ++ shown (text_of path) ++ codes " :" ++ doing_text jobs race.0 path ++ doing_text jobs race.1 path)

-- what is reported of two nodes: the line of the least path on which they clash; and nothing where they do not clash
pub record IsRaceLine (jobs : Jobs) (race : ℕ × ℕ) (text : List ℕ) : Type 0 where
  pub listed : Clash jobs race.0 race.1 → (path : Path) × IsLeastOverlap (uses_of jobs) race.0 race.1 path × (text ≡ race_line jobs path race)
  pub left_out : (Clash jobs race.0 race.1 → ⊥) → text ≡ []

-- what is reported of the races, in their order
abbrev pub AreRaceLines : Jobs → List (ℕ × ℕ) → List ℕ → Type 0
AreRaceLines jobs [] text = text ≡ []
AreRaceLines jobs (race ∷ races) text = (own : List ℕ) × (rest : List ℕ)
    × IsRaceLine jobs race own × AreRaceLines jobs races rest × (text ≡ own ++ rest)

-- what stands before the lines of races: how many races there are, the counts, and how many pairs of nodes clash
abbrev pub races_head : Jobs → ℕ → ℕ → List ℕ
races_head jobs pairs races = number_line (codes "races") races ++ counts_text jobs ++ number_line (codes "pairs") pairs

-- the report of the races of jobs, of which so many pairs of nodes clash
abbrev pub IsRacesText : Jobs → ℕ → List (ℕ × ℕ) → List ℕ → Type 0
IsRacesText jobs pairs races text = (lines : List ℕ) × AreRaceLines jobs races lines × (text ≡ races_head jobs pairs (length races) ++ lines)
