-- A law of reading footprints.
use Rattle.std.specs.Prelude.{ℕ, ◌≡◌, List, Result}
use Rattle.mk_name.specs.Reported.{Reported}
use Rattle.mk_foot.specs.Footprints.{AreFootprintsRead, Footprints}

-- a text has one answer: two that it may have are equal
abbrev pub ReadOnce : Type 0
ReadOnce = (root text : List ℕ) (one other : Result Footprints Reported) → AreFootprintsRead root text one → AreFootprintsRead root text other → one ≡ other
