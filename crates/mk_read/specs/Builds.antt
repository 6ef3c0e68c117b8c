-- What was read of the devices of a build, and which of them failed.
use Rattle.std.specs.Prelude.{◌≡◌, ◌≢◌, ◌⊎◌, ℕ, Bool, true, false, List, Option, Some, Result}
use Rattle.mk_name.specs.Names.{Name}
use Rattle.mk_name.specs.Reported.{Reported}
use Rattle.mk_text.specs.Listing.{listing_of}
use Rattle.mk_device.specs.declared.device.ReadStop.{ReadStop}
use Rattle.mk_device.specs.declared.device.ReadStop.TheVariants as stops
use Rattle.mk_foot.specs.Footprints.{AreFootprintsRead, Footprints}
use Rattle.mk_read.specs.Read.{IsReadBelow}
use Rattle.mk_read.specs.declared.builds.BuildStop.{BuildStop}
use Rattle.mk_read.specs.declared.builds.BuildStop.TheVariants.{Broken, Memory}
use Rattle.mk_read.specs.declared.builds.BuildText.{BuildText}
use Rattle.mk_read.specs.declared.builds.BuildText.TheVariants as texts

-- what was read of a listing and of footprints, if the root is good
abbrev pub IsListingRead : List ℕ → List ℕ → Result (List Name) Reported → Type 0
IsListingRead = IsReadBelow (λ below text listed. listing_of below text ≡ listed)

abbrev pub IsFootprinted : List ℕ → List ℕ → Result Footprints Reported → Type 0
IsFootprinted = IsReadBelow AreFootprintsRead

-- why the device of a text was not read
abbrev pub stopped : BuildText → ReadStop → BuildStop
stopped text stops.Broken = Broken text
stopped text stops.Memory = Memory

-- the device of a text was not read: it failed, which nothing states that it cannot, and is named; or memory ran out
abbrev pub IsStopped : BuildText → BuildStop → Bool → Option Bool → Type 0
IsStopped text stop failed readable =
    ((stop ≡ Broken text) × (failed ≡ true) × (readable ≢ Some true)) ⊎ ((stop ≡ Memory) × (failed ≡ false))

-- which devices have failed
pub record FailedTexts : Type 0 where
  pub base : Bool
  pub makefile : Bool
  pub listing : Bool
  pub footprints : Bool

abbrev pub none_failed : FailedTexts
none_failed = record { base = false; makefile = false; listing = false; footprints = false }

-- a stop names the device that failed, and no other has; where it says out of memory, none has
abbrev pub HasBuildStopped : BuildStop → FailedTexts → Type 0
HasBuildStopped (Broken texts.Base) failed = failed ≡ record none_failed { base = true }
HasBuildStopped (Broken texts.Makefile) failed = failed ≡ record none_failed { makefile = true }
HasBuildStopped (Broken texts.Listing) failed = failed ≡ record none_failed { listing = true }
HasBuildStopped (Broken texts.Footprints) failed = failed ≡ record none_failed { footprints = true }
HasBuildStopped Memory failed = failed ≡ none_failed

-- whether each device can be read to its end, where that is stated
pub record Readable : Type 0 where
  pub base : Option Bool
  pub makefile : Option Bool
  pub listing : Option Bool
  pub footprints : Option Bool

-- of none it is stated that it cannot
pub record AreReadable (all : Readable) : Type 0 where
  pub base : all.base ≢ Some false
  pub makefile : all.makefile ≢ Some false
  pub listing : all.listing ≢ Some false
  pub footprints : all.footprints ≢ Some false

-- these devices may stop so: of none before the one that is named it is stated that it cannot be read, nor of that one that it can
abbrev pub MayStop : BuildStop → Readable → Type 0
MayStop (Broken texts.Base) all = all.base ≢ Some true
MayStop (Broken texts.Makefile) all = (all.base ≢ Some false) × (all.makefile ≢ Some true)
MayStop (Broken texts.Listing) all = (all.base ≢ Some false) × (all.makefile ≢ Some false) × (all.listing ≢ Some true)
MayStop (Broken texts.Footprints) all =
    (all.base ≢ Some false) × (all.makefile ≢ Some false) × (all.listing ≢ Some false) × (all.footprints ≢ Some true)
MayStop Memory all = Unit {0}
