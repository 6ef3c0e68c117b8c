-- Laws of builds: texts mean one build, and what the listing says, and what the jobs say of it.
use Rattle.std.specs.Prelude.{ℕ, ◌≡◌, List, Result, Ok}
use Rattle.mk_name.specs.Names.{has, same_name}
use Rattle.mk_name.specs.Reported.{Reported}
use Rattle.mk_graph.specs.Once.{Agree}
use Rattle.mk_sched.specs.Stores.{AgreesWith, AgreesWithListing, Store}
use Rattle.mk_race.specs.Stages.{AreListed, IsPrepared, Texts}
use Rattle.mk_race.specs.declared.preparing.Prepared.{Prepared}

-- the jobs of a build are listed exactly where its listing has their names
abbrev pub JobsAreListed : Type 0
JobsAreListed =
    (texts : Texts) (footprints : List ℕ) (prepared : Prepared) → IsPrepared texts footprints (Ok prepared) → AreListed prepared

-- so a store that agrees with the listing agrees with the jobs
abbrev pub StoreAgrees : Type 0
StoreAgrees =
    (texts : Texts) (footprints : List ℕ) (prepared : Prepared) (store : Store)
    → IsPrepared texts footprints (Ok prepared) → AgreesWithListing (has same_name prepared.listing) store
    → AgreesWith prepared.jobs store

-- the texts of a build mean one build: the same root, the same listing and the same jobs
abbrev pub BuildIsOne : Type 0
BuildIsOne =
    (texts : Texts) (footprints : List ℕ) (one other : Prepared)
    → IsPrepared texts footprints (Ok one) → IsPrepared texts footprints (Ok other) → one ≡ other

-- no texts mean both a build and a fault, and they have one first fault, except for the choice among several cycles
abbrev pub FirstFaultIsOne : Type 0
FirstFaultIsOne =
    (texts : Texts) (footprints : List ℕ) (one other : Result Prepared Reported)
    → IsPrepared texts footprints one → IsPrepared texts footprints other → Agree one other
