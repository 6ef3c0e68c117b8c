-- A build whose listing and footprints were read, each as its fault or what it says.
use Rattle.std.specs.Prelude.{ℕ, ◌≡◌, List, Result, Ok}
use Rattle.mk_name.specs.Names.{Name}
use Rattle.mk_name.specs.Reported.{Reported}
use Rattle.mk_text.specs.Listing.{listing_of}
use Rattle.mk_text.specs.Spelling.{root_of}
use Rattle.mk_foot.specs.Footprints.{AreFootprintsRead}
use Rattle.mk_read.specs.declared.input.Build.{Build}
use Rattle.mk_race.specs.Stages.{IsPlannedBelow, Texts, Then, texts_with}
use Rattle.mk_race.specs.declared.planning.Planned.{Planned}

-- a listing that was read is what these texts say below the root
abbrev pub IsListedFrom : Texts → Result (List Name) Reported → Type 0
IsListedFrom texts listed = (root : List ℕ) → root_of texts.root ≡ Ok root → listing_of root texts.listing ≡ listed

-- a build was read from these texts and footprints
pub record IsReadFrom (build : Build) (texts : Texts) (lines : List ℕ) : Type 0 where
  pub texts_are : texts ≡ texts_with build.input texts.listing
  pub listing : IsListedFrom texts build.listing
  pub footprints : (root : List ℕ) → root_of texts.root ≡ Ok root → AreFootprintsRead root lines build.footprints

-- what is so of all texts and footprints from which a build was read
abbrev pub ForAllRead : Build → (Texts → List ℕ → Type 0) → Type 0
ForAllRead build Holds = (texts : Texts) (lines : List ℕ) → IsReadFrom build texts lines → Holds texts lines

-- the root, and then what is planned below it with the listing that was read
abbrev pub IsPlannedWith : Texts → Result (List Name) Reported → Result Planned Reported → Type 0
IsPlannedWith texts listed = Then (root_of texts.root) (λ root. IsPlannedBelow texts root listed)
