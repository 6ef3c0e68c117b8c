-- The lines of races.
use Rattle.std.proofs.Common.{◌≡◌, ◌∙◌, ℕ, List, [], ◌∷◌, ◌++◌, append_assoc, refl, sym, ap}
use Rattle.std.proofs.lemmas.List.{append-nil}
use Rattle.mk_path.specs.declared.path.Path.{Path}
use Rattle.mk_index.specs.Uses.{IsLeastOverlap}
use Rattle.mk_jobs.specs.Jobs.{Clash, Jobs}
use Rattle.mk_jobs.specs.Reaching.{uses_of}
use Rattle.mk_report.specs.RacesText.{AreRaceLines, IsRaceLine, race_line}

-- the lines of one race more
pub race_lines_more : (jobs : Jobs) (races : List (ℕ × ℕ)) (text : List ℕ) (race : ℕ × ℕ) (own : List ℕ)
    → AreRaceLines jobs races text → IsRaceLine jobs race own
    → AreRaceLines jobs (races ++ race ∷ []) (text ++ own)
race_lines_more jobs [] text race own are is =
    (own, [], is, refl, ap (λ (t : List ℕ). t ++ own) are ∙ sym (append-nil own))
race_lines_more jobs (first ∷ races) text race own are is = (
  are.0,
  are.1 ++ own,
  are.2,
  race_lines_more jobs races are.1 race own are.3 is,
  ap (λ (t : List ℕ). t ++ own) are.4 ∙ append_assoc are.0 are.1 own,
)

-- what is reported of two nodes that clash, least on this path
pub race_listed : (jobs : Jobs) (race : ℕ × ℕ) (text : List ℕ) (path : Path) → Clash jobs race.0 race.1 → IsLeastOverlap (uses_of jobs) race.0 race.1 path
    → text ≡ race_line jobs path race → IsRaceLine jobs race text
race_listed jobs race text path clash least is = record { listed = λ _. (path, least, is); left_out = λ no. absurd (no clash) }

-- and of two that do not
pub race_left_out : (jobs : Jobs) (race : ℕ × ℕ) (text : List ℕ) → (Clash jobs race.0 race.1 → ⊥) → text ≡ [] → IsRaceLine jobs race text
race_left_out jobs race text apart is = record { listed = λ clash. absurd (apart clash); left_out = λ _. is }
