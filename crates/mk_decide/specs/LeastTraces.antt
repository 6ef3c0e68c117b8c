-- The trace of the least race.
use Rattle.std.specs.Prelude.{ℕ, ◌≡◌, List}
use Rattle.mk_path.specs.declared.path.Path.{Path}
use Rattle.mk_path.specs.Texts.{text_of}
use Rattle.mk_index.specs.Uses.{IsLeastOverlap}
use Rattle.mk_jobs.specs.Jobs.{Jobs}
use Rattle.mk_jobs.specs.Reaching.{uses_of}
use Rattle.mk_proof.specs.Shapes.{Trace}
use Rattle.mk_cert.specs.Races.{IsOfRace}
use Rattle.mk_decide.specs.Races.{IsLeastRace}

-- a text spells the least path on which two nodes clash
pub record SpellsLeast (jobs : Jobs) (a b : ℕ) (text : List ℕ) : Type 0 where
  pub path : Path
  pub least : IsLeastOverlap (uses_of jobs) a b path
  pub spells : text ≡ text_of path

-- the nodes of a trace
pub record HasNodes (first second : ℕ) (trace : Trace) : Type 0 where
  pub first_is : trace.first ≡ first
  pub second_is : trace.second ≡ second

-- the trace of the least race: no race precedes that of its nodes, its path is the least on which they clash, and its times
-- and steps are those of a race
pub record IsOfLeastRace (jobs : Jobs) (trace : Trace) : Type 0 where
  pub nodes : IsLeastRace jobs trace.first trace.second
  pub path : SpellsLeast jobs trace.first trace.second trace.path
  pub race : IsOfRace jobs trace
