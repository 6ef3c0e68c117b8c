-- Footprints that come in pieces: what was taken in of their lines.
use Rattle.std.specs.Prelude.{◌≡◌, ◌≤◌, ℕ, List, None}
use Rattle.mk_foot.specs.Footprints.{AreFootprints, Footprints, first_fault, lines_of, path_count, path_limit}

-- the footprints of the lines so far, and how many paths these have
pub record United : Type 0 where
  pub footprints : Footprints
  pub paths : ℕ

-- these lines are good, and their paths are within the limit
pub record HasUnited (root : List ℕ) (sink : United) (lines : List (List ℕ)) : Type 0 where
  pub good : first_fault root lines ≡ None
  pub united : AreFootprints root sink.footprints (lines_of root lines)
  pub count : sink.paths ≡ path_count (lines_of root lines)
  pub few : sink.paths ≤ path_limit
