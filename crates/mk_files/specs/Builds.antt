-- What is opened and read of a build that is asked about, whose listing and footprints are read in pieces.
use Rattle.std.specs.Prelude.{◌≡◌, ℕ, Bool, false, List, [], ◌∷◌, ◌++◌, Option, None, Some, IfSome, Result, option_map}
use Rattle.std.specs.Borrow.{Bor}
use Rattle.std.specs.Option.{option_to_list}
use Rattle.mk_foot.specs.Footprints.{Footprints}
use Rattle.mk_name.specs.Names.{Name}
use Rattle.mk_name.specs.Reported.{Reported}
use Rattle.mk_device.specs.Device.{has_failed_if}
use Rattle.mk_read.specs.Builds.{IsFootprinted, IsListingRead}
use Rattle.mk_read.specs.declared.builds.ReadPlan.{ReadPlan}
use Rattle.mk_request.specs.declared.inputs.InputFile.{InputFile}
use Rattle.mk_request.specs.declared.inputs.InputFile.TheVariants as inputs
use Rattle.mk_request.specs.declared.inputs.InputPath.{InputPath}
use Rattle.mk_request.specs.declared.requests.BuildArgs.{BuildArgs}
use Rattle.mk_files.specs.Inputs.{Mark}
use Rattle.mk_files.specs.declared.builds.OpenBuild.{OpenBuild}
use Rattle.mk_files.specs.declared.builds.OpenPlan.{OpenPlan}
use Rattle.mk_files.specs.declared.builds.ReadJob.{ReadJob}
use Rattle.mk_files.specs.declared.inputs.OpenInput.{OpenInput}

-- the marks of what a build is planned from: of the base, if it has one, of the makefile and of the listing
abbrev pub plan_marks : Option Mark → Mark → Mark → List Mark
plan_marks base makefile listing = option_to_list base ++ makefile ∷ listing ∷ []

-- those of a build: behind these that of the footprints, and of one more input, if there is one
abbrev pub all_marks : List Mark → Mark → Option Mark → List Mark
all_marks plan footprints other = plan ++ footprints ∷ option_to_list other

-- an open input, with what is stated of reading it
abbrev pub mark_of : {F : Type 0} → (F → Option Bool) → OpenInput F → Mark
mark_of reads file = (file.input, reads file.file)

-- an input, with what is stated of its file
abbrev pub path_mark : (List ℕ → Option Bool) → InputPath → Mark
path_mark works known = (known.input, works known.path.now)

-- the base, with what is stated of its file
abbrev pub base_mark : {X : Type 0} → (X → Option Bool) → X → Mark
base_mark works file = (inputs.Base, works file)

-- the marks of open files
abbrev pub open_plan_marks : {F : Type 0} → (F → Option Bool) → OpenPlan F → List Mark
open_plan_marks reads files =
    plan_marks (option_map (base_mark reads) files.base) (inputs.Makefile, reads files.makefile) (inputs.Listing, reads files.listing)

abbrev pub open_marks : {F : Type 0} → (F → Option Bool) → OpenBuild F → List Mark
open_marks reads files =
    all_marks (open_plan_marks reads files.plan) (inputs.Footprints, reads files.footprints) (option_map (mark_of reads) files.other)

-- open files have not failed
abbrev pub PlanWorks : {F : Type 0} → (F → Bool) → OpenPlan F → Type 0
PlanWorks has_failed files =
    (has_failed_if has_failed files.base ≡ false) × (has_failed files.makefile ≡ false) × (has_failed files.listing ≡ false)

abbrev pub AllWork : {F : Type 0} → (F → Bool) → OpenBuild F → Type 0
AllWork has_failed files =
    PlanWorks has_failed files.plan × (has_failed files.footprints ≡ false) × IfSome files.other (λ file. has_failed file.file ≡ false)

-- the marks of the files that are to be opened
abbrev pub plan_path_marks : (List ℕ → Option Bool) → BuildArgs → List Mark
plan_path_marks works build =
    plan_marks (option_map (λ path. base_mark works path.now) build.base) (inputs.Makefile, works build.makefile.now)
    (inputs.Listing, works build.listing.now)

abbrev pub path_marks : (List ℕ → Option Bool) → BuildArgs → Bor (List ℕ) → Option InputPath → List Mark
path_marks works build footprints other =
    all_marks (plan_path_marks works build) (inputs.Footprints, works footprints.now) (option_map (path_mark works) other)

-- the bytes of the files that a build is planned from, where they are stated: of the base, where it is given
pub record PlanStated : Type 0 where
  pub base : Option (Option (List ℕ))
  pub makefile : Option (List ℕ)
  pub listing : Option (List ℕ)

-- those of a build: of the footprints too, and of one more, where it is given
pub record Stated : Type 0 where
  pub plan : PlanStated
  pub footprints : Option (List ℕ)
  pub other : Option (Option (List ℕ))

-- those of the files of these paths
abbrev pub plan_stated_at : (List ℕ → Option (List ℕ)) → BuildArgs → PlanStated
plan_stated_at files build = record {
  base = option_map (λ path. files path.now) build.base;
  makefile = files build.makefile.now;
  listing = files build.listing.now;
}

abbrev pub stated_at : (List ℕ → Option (List ℕ)) → BuildArgs → Bor (List ℕ) → Option InputPath → Stated
stated_at files build footprints other = record {
  plan = plan_stated_at files build;
  footprints = files footprints.now;
  other = option_map (λ known. files known.path.now) other;
}

-- those of open files
abbrev pub plan_stated_in : {F : Type 0} → (F → Option (List ℕ)) → OpenPlan F → PlanStated
plan_stated_in text files = record {
  base = option_map text files.base;
  makefile = text files.makefile;
  listing = text files.listing;
}

abbrev pub stated_in : {F : Type 0} → (F → Option (List ℕ)) → OpenBuild F → Stated
stated_in text files = record {
  plan = plan_stated_in text files.plan;
  footprints = text files.footprints;
  other = option_map (λ file. text file.file) files.other;
}

-- a text was read of a file, where its bytes are stated; without a file it is empty
abbrev pub IsGiven : Option (Option (List ℕ)) → List ℕ → Type 0
IsGiven None text = text ≡ []
IsGiven (Some file) text = IfSome file (λ bytes. text ≡ bytes)

-- what was read of the files that a build is planned from: texts, and what a listing says below the root
pub record IsPlanRead (stated : PlanStated) (root : List ℕ) (read : ReadPlan) : Type 0 where
  pub base : IsGiven stated.base read.base.items
  pub makefile : IsGiven (Some stated.makefile) read.makefile.items
  pub listing : (text : List ℕ) → stated.listing ≡ Some text → IsListingRead root text read.listing

-- what was read of a build's files: what footprints say below the root too, and one more text
pub record AreRead (stated : Stated) (root : List ℕ) (read : ReadJob) : Type 0 where
  pub plan : IsPlanRead stated.plan root read.build.plan
  pub footprints : (text : List ℕ) → stated.footprints ≡ Some text → IsFootprinted root text read.build.footprints
  pub other : IsGiven stated.other read.other.items

-- the text of one more input, which is empty where there is none
abbrev pub other_text : Option InputPath → (InputFile → List ℕ) → List ℕ
other_text None text = []
other_text (Some known) text = text known.input

-- a listing is what its text says below the root, if that is good
abbrev pub IsListedBelow : List ℕ → (InputFile → List ℕ) → Result (List Name) Reported → Type 0
IsListedBelow root text listed = IsListingRead root (text inputs.Listing) listed

-- and so are footprints
abbrev pub AreFoundBelow : List ℕ → (InputFile → List ℕ) → Result Footprints Reported → Type 0
AreFoundBelow root text found = IsFootprinted root (text inputs.Footprints) found

-- what was read to plan a build is what these texts say
pub record IsPlanReadAs (root : List ℕ) (text : InputFile → List ℕ) (read : ReadPlan) : Type 0 where
  pub base : read.base.items ≡ text inputs.Base
  pub makefile : read.makefile.items ≡ text inputs.Makefile
  pub listing : IsListedBelow root text read.listing

-- what was read of a build is what these texts say
pub record IsJobReadAs (root : List ℕ) (known : Option InputPath) (text : InputFile → List ℕ) (read : ReadJob) : Type 0 where
  pub plan : IsPlanReadAs root text read.build.plan
  pub footprints : AreFoundBelow root text read.build.footprints
  pub other : read.other.items ≡ other_text known text
