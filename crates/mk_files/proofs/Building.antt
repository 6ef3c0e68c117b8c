-- Lemmas on the inputs of a build that are opened and read one after another.
use Rattle.std.proofs.Common.{◌≡◌, ◌≢◌, ◌⊎◌, inl, inr, ◌∙◌, ℕ, Bool, true, false, List, [], ◌∷◌, ◌++◌, Option, Some, None, ap, append_assoc, option_map, refl, subst, sym}
use Rattle.std.proofs.lemmas.List.Elements.{All-append, All-cons, All-head, All-nil, All-tail}
use Rattle.std.specs.List.{All}
use Rattle.std.specs.Prelude.{IfSome}
use Rattle.std.specs.Option.{option_to_list}
use Rattle.std.specs.Borrow.{Bor}
use Rattle.mk_device.specs.Device.{left_if, readable_if}
use Rattle.mk_read.proofs.Gave.{all_given, all_left}
use Rattle.mk_read.specs.Builds.{AreReadable, IsListingRead, MayStop}
use Rattle.mk_read.specs.Read.{GaveAll}
use Rattle.mk_read.specs.declared.builds.BuildStop.{BuildStop}
use Rattle.mk_read.specs.declared.builds.BuildStop.TheVariants.{Broken, Memory}
use Rattle.mk_read.specs.declared.builds.BuildText.TheVariants as texts
use Rattle.mk_read.specs.declared.builds.ReadPlan.{ReadPlan}
use Rattle.mk_files.specs.Builds.{AreRead, IsGiven, IsJobReadAs, IsPlanRead, IsPlanReadAs, all_marks, base_mark, other_text, path_mark, path_marks, plan_marks, plan_path_marks, plan_stated_at, stated_at}
use Rattle.mk_files.specs.Files.{Files}
use Rattle.mk_files.specs.Inputs.{Hold, IsFirstToFail, IsLeftOut, IsShortOr, Mark, MayWork, marks}
use Rattle.mk_files.specs.declared.builds.ReadJob.{ReadJob}
use Rattle.mk_files.specs.Failures.{unread}
use Rattle.mk_files.specs.declared.failures.Failure.{Failure}
use Rattle.mk_files.specs.declared.failures.Failure.TheVariants as failures
use Rattle.mk_request.specs.Requests.{base_input, build_inputs, input_at, job_inputs}
use Rattle.mk_request.specs.declared.inputs.InputFile.{InputFile}
use Rattle.mk_request.specs.declared.inputs.InputFile.TheVariants as inputs
use Rattle.mk_request.specs.declared.inputs.InputPath.{InputPath}
use Rattle.mk_request.specs.declared.requests.BuildArgs.{BuildArgs}

-- the first of some inputs fails
pub first : (input : InputFile) (works : Option Bool) (rest : List Mark) → works ≢ Some true → IsFirstToFail ((input, works) ∷ rest) input
first input works rest fails = record { before = []; works = works; rest = rest; parts = refl; worked = All-nil MayWork; fails = fails }

-- the first that fails of some inputs is the first of them and of others behind them
pub earlier : (all rest : List Mark) (input : InputFile) → IsFirstToFail all input → IsFirstToFail (all ++ rest) input
earlier all rest input fails = record {
  before = fails.before;
  works = fails.works;
  rest = fails.rest ++ rest;
  parts = ap (λ (l : List Mark). l ++ rest) fails.parts ∙ append_assoc fails.before ((input, fails.works) ∷ fails.rest) rest;
  worked = fails.worked;
  fails = fails.fails;
}

-- and of others before them, where these work
pub later : (before all : List Mark) (input : InputFile) → All MayWork before → IsFirstToFail all input → IsFirstToFail (before ++ all) input
later before all input worked fails = record {
  before = before ++ fails.before;
  works = fails.works;
  rest = fails.rest;
  parts = ap (λ (l : List Mark). before ++ l) fails.parts ∙ sym (append_assoc before fails.before ((input, fails.works) ∷ fails.rest));
  worked = All-append MayWork before fails.before worked fails.worked;
  fails = fails.fails;
}

-- one input works
pub one : (mark : Mark) → MayWork mark → All MayWork (mark ∷ [])
one mark may = All-cons MayWork mark [] may (All-nil MayWork)

-- an input that fails alone
pub alone : (input : InputFile) (works : Option Bool) (failure : Failure) → (failure ≡ failures.Read input) × (works ≢ Some true)
    → IsShortOr (IsFirstToFail ((input, works) ∷ [])) failure
alone input works failure fails = inr (input, fails.0, first input works [] fails.1)

-- or memory is short
pub short_or_alone : (input : InputFile) (works : Option Bool) (failure : Failure)
    → (failure ≡ failures.Memory) ⊎ ((failure ≡ failures.Read input) × (works ≢ Some true))
    → IsShortOr (IsFirstToFail ((input, works) ∷ [])) failure
short_or_alone input works failure (inl memory) = inl memory
short_or_alone input works failure (inr fails) = alone input works failure fails

-- an input is not the base
abbrev not_base : InputPath → Type 0
not_base known = known.input ≢ inputs.Base

-- an opener that states what it stated before
pub still_shut : (files now : Files) (path : List ℕ) (input : InputFile) (failure : Failure) → now ≡ files
    → (failure ≡ failures.Read input) × (now.opens path ≢ Some true)
    → (failure ≡ failures.Memory) ⊎ ((failure ≡ failures.Read input) × (files.opens path ≢ Some true))
still_shut files now path input failure same shut = inr (shut.0, λ is. shut.1 (ap (λ (f : Files). f.opens path) same ∙ is))

pub still_opens : (files now : Files) (path : List ℕ) → now ≡ files → now.opens path ≢ Some false → files.opens path ≢ Some false
still_opens files now path same opens = λ is. opens (ap (λ (f : Files). f.opens path) same ∙ is)

last_no_base : (other : Option InputPath) → IfSome other (λ known. known.input ≢ inputs.Base) → All not_base (option_to_list other)
last_no_base None none = All-nil not_base
last_no_base (Some known) none = All-cons not_base known [] none (All-nil not_base)

-- an input whose file has this path
abbrev at : InputFile → Bor (List ℕ) → InputPath
at input path = record { input = input; path = path }

-- no input behind the base is the base
no_base : (makefile listing : Bor (List ℕ)) (more : List InputPath) → All not_base more
    → IsLeftOut (at inputs.Makefile makefile ∷ at inputs.Listing listing ∷ more) inputs.Base
no_base makefile listing more none =
    All-cons not_base (at inputs.Makefile makefile) (at inputs.Listing listing ∷ more) (λ (is : inputs.Makefile ≡ inputs.Base). cc)
    (All-cons not_base (at inputs.Listing listing) more (λ (is : inputs.Listing ≡ inputs.Base). cc) none)

no_base_behind : (footprints : Bor (List ℕ)) (other : Option InputPath) → IfSome other (λ known. known.input ≢ inputs.Base)
    → All not_base (at inputs.Footprints footprints ∷ option_to_list other)
no_base_behind footprints other none =
    All-cons not_base (at inputs.Footprints footprints) (option_to_list other) (λ (is : inputs.Footprints ≡ inputs.Base). cc) (last_no_base other none)

-- the inputs of a build, one behind another
inputs_of_plan : (base : Option (Bor (List ℕ))) (makefile listing : Bor (List ℕ))
    → base_input base ++ input_at inputs.Makefile makefile ++ input_at inputs.Listing listing
    ≡ base_input base ++ at inputs.Makefile makefile ∷ at inputs.Listing listing ∷ []
inputs_of_plan None makefile listing = refl
inputs_of_plan (Some base) makefile listing = refl

inputs_of_all : (base : Option (Bor (List ℕ))) (makefile listing footprints : Bor (List ℕ)) (other : Option InputPath)
    → (base_input base ++ input_at inputs.Makefile makefile ++ input_at inputs.Listing listing)
    ++ input_at inputs.Footprints footprints ++ option_to_list other
    ≡ base_input base ++ at inputs.Makefile makefile ∷ at inputs.Listing listing ∷ at inputs.Footprints footprints ∷ option_to_list other
inputs_of_all None makefile listing footprints other = refl
inputs_of_all (Some base) makefile listing footprints other = refl

-- the marks of a build's inputs are those of the files that are opened
marks_of_plan : (works : List ℕ → Option Bool) (base : Option (Bor (List ℕ))) (makefile listing : Bor (List ℕ))
    → marks works (base_input base ++ input_at inputs.Makefile makefile ++ input_at inputs.Listing listing)
    ≡ plan_marks (option_map (λ path. base_mark works path.now) base) (inputs.Makefile, works makefile.now) (inputs.Listing, works listing.now)
marks_of_plan works None makefile listing = refl
marks_of_plan works (Some base) makefile listing = refl

pub plan_marks_are : (works : List ℕ → Option Bool) (build : BuildArgs) → marks works (build_inputs build) ≡ plan_path_marks works build
plan_marks_are works build = marks_of_plan works build.base build.makefile build.listing

marks_of_each : (works : List ℕ → Option Bool) (base : Option (Bor (List ℕ))) (makefile listing footprints : Bor (List ℕ)) (other : Option InputPath)
    → marks works ((base_input base ++ input_at inputs.Makefile makefile ++ input_at inputs.Listing listing)
    ++ input_at inputs.Footprints footprints ++ option_to_list other)
    ≡ all_marks (plan_marks (option_map (λ path. base_mark works path.now) base) (inputs.Makefile, works makefile.now)
    (inputs.Listing, works listing.now)) (inputs.Footprints, works footprints.now) (option_map (path_mark works) other)
marks_of_each works None makefile listing footprints None = refl
marks_of_each works None makefile listing footprints (Some known) = refl
marks_of_each works (Some base) makefile listing footprints None = refl
marks_of_each works (Some base) makefile listing footprints (Some known) = refl

pub marks_are : (works : List ℕ → Option Bool) (build : BuildArgs) (footprints : Bor (List ℕ)) (other : Option InputPath)
    → marks works (job_inputs build footprints other) ≡ path_marks works build footprints other
marks_are works build footprints other = marks_of_each works build.base build.makefile build.listing footprints other

module _ (base : Option Mark) (makefile listing : Mark) where
  abbrev planned : List Mark
  planned = plan_marks base makefile listing

  -- the first that fails among those of a plan, where those before it work
  pub base_fails : (failure : Failure) → IsShortOr (IsFirstToFail (option_to_list base)) failure → IsShortOr (IsFirstToFail planned) failure
  base_fails failure (inl memory) = inl memory
  base_fails failure (inr fails) = inr (fails.0, fails.1, earlier (option_to_list base) (makefile ∷ listing ∷ []) fails.0 fails.2)

  pub makefile_fails : (failure : Failure) → All MayWork (option_to_list base)
      → (failure ≡ failures.Memory) ⊎ ((failure ≡ failures.Read makefile.0) × (makefile.1 ≢ Some true)) → IsShortOr (IsFirstToFail planned) failure
  makefile_fails failure worked (inl memory) = inl memory
  makefile_fails failure worked (inr fails) =
      inr (makefile.0, fails.0, later (option_to_list base) _ makefile.0 worked (first makefile.0 makefile.1 (listing ∷ []) fails.1))

  pub listing_fails : (failure : Failure) → All MayWork (option_to_list base) → MayWork makefile
      → (failure ≡ failures.Memory) ⊎ ((failure ≡ failures.Read listing.0) × (listing.1 ≢ Some true)) → IsShortOr (IsFirstToFail planned) failure
  listing_fails failure worked makes (inl memory) = inl memory
  listing_fails failure worked makes (inr fails) =
      inr (
        listing.0,
        fails.0,
        later (option_to_list base) _ listing.0 worked
            (later (makefile ∷ []) _ listing.0 (one makefile makes) (first listing.0 listing.1 [] fails.1)),
      )

  -- all of a plan work
  pub plan_works : All MayWork (option_to_list base) → MayWork makefile → MayWork listing → All MayWork planned
  plan_works worked makes lists =
      All-append MayWork (option_to_list base) (makefile ∷ listing ∷ []) worked (All-cons MayWork makefile (listing ∷ []) makes (one listing lists))

module _ (plan : List Mark) (footprints : Mark) (other : Option Mark) where
  abbrev all : List Mark
  all = all_marks plan footprints other

  -- the first that fails among all, where those before it work
  pub plan_fails : (failure : Failure) → IsShortOr (IsFirstToFail plan) failure → IsShortOr (IsFirstToFail all) failure
  plan_fails failure (inl memory) = inl memory
  plan_fails failure (inr fails) = inr (fails.0, fails.1, earlier plan (footprints ∷ option_to_list other) fails.0 fails.2)

  pub footprints_fail : (failure : Failure) → All MayWork plan
      → (failure ≡ failures.Memory) ⊎ ((failure ≡ failures.Read footprints.0) × (footprints.1 ≢ Some true)) → IsShortOr (IsFirstToFail all) failure
  footprints_fail failure worked (inl memory) = inl memory
  footprints_fail failure worked (inr fails) =
      inr (footprints.0, fails.0, later plan _ footprints.0 worked (first footprints.0 footprints.1 (option_to_list other) fails.1))

  pub other_fails : (failure : Failure) → All MayWork plan → MayWork footprints
      → IsShortOr (IsFirstToFail (option_to_list other)) failure → IsShortOr (IsFirstToFail all) failure
  other_fails failure worked foots (inl memory) = inl memory
  other_fails failure worked foots (inr fails) =
      inr (
        fails.0,
        fails.1,
        later plan _ fails.0 worked (later (footprints ∷ []) (option_to_list other) fails.0 (one footprints foots) fails.2),
      )

  -- all work
  pub all_work : All MayWork plan → MayWork footprints → All MayWork (option_to_list other) → All MayWork all
  all_work worked foots others =
      All-append MayWork plan (footprints ∷ option_to_list other) worked (All-cons MayWork footprints (option_to_list other) foots others)

module _ {F : Type 0} (reads : F → Option Bool) (base : Option F) (makefile listing : F) where
  abbrev marked : List Mark
  marked = plan_marks (option_map (base_mark reads) base) (inputs.Makefile, reads makefile) (inputs.Listing, reads listing)

  -- a base that may be read
  base_works : (given : Option F) → readable_if reads given ≢ Some false → All MayWork (option_to_list (option_map (base_mark reads) given))
  base_works None can = All-nil MayWork
  base_works (Some file) can = one (inputs.Base, reads file) can

  -- or may fail
  base_alone : (given : Option F) → readable_if reads given ≢ Some true
      → IsShortOr (IsFirstToFail (option_to_list (option_map (base_mark reads) given))) (failures.Read inputs.Base)
  base_alone None fails = absurd (fails refl)
  base_alone (Some file) fails = alone inputs.Base (reads file) (failures.Read inputs.Base) (refl, fails)

  -- what stops the reading of a plan's files is the first of them that fails
  pub plan_stops : (stop : BuildStop)
      → MayStop stop (record { base = readable_if reads base; makefile = reads makefile; listing = reads listing; footprints = Some true })
      → IsShortOr (IsFirstToFail marked) (unread stop)
  plan_stops (Broken texts.Base) may =
      base_fails (option_map (base_mark reads) base) (inputs.Makefile, reads makefile) (inputs.Listing, reads listing) _ (base_alone base may)
  plan_stops (Broken texts.Makefile) may =
      makefile_fails (option_map (base_mark reads) base) (inputs.Makefile, reads makefile) (inputs.Listing, reads listing) _
      (base_works base may.0) (inr (refl, may.1))
  plan_stops (Broken texts.Listing) may =
      listing_fails (option_map (base_mark reads) base) (inputs.Makefile, reads makefile) (inputs.Listing, reads listing) _
      (base_works base may.0) may.1 (inr (refl, may.2))
  plan_stops (Broken texts.Footprints) may = absurd (may.3 refl)
  plan_stops Memory may = inl refl

  -- where nothing stops the reading all files of the plan may be read
  pub plan_goes : (mark : Option Bool)
      → AreReadable (record { base = readable_if reads base; makefile = reads makefile; listing = reads listing; footprints = mark })
      → All MayWork marked
  plan_goes mark can =
      plan_works (option_map (base_mark reads) base) (inputs.Makefile, reads makefile) (inputs.Listing, reads listing)
      (base_works base can.base) can.makefile can.listing

  module _ (footprints : F) (other : Option Mark) where
    -- the same of a build's files
    pub build_stops : (stop : BuildStop)
        → MayStop stop (record { base = readable_if reads base; makefile = reads makefile; listing = reads listing; footprints = reads footprints })
        → IsShortOr (IsFirstToFail (all_marks marked (inputs.Footprints, reads footprints) other)) (unread stop)
    build_stops (Broken texts.Base) may = plan_fails marked (inputs.Footprints, reads footprints) other _ (plan_stops (Broken texts.Base) may)
    build_stops (Broken texts.Makefile) may = plan_fails marked (inputs.Footprints, reads footprints) other _ (plan_stops (Broken texts.Makefile) may)
    build_stops (Broken texts.Listing) may = plan_fails marked (inputs.Footprints, reads footprints) other _ (plan_stops (Broken texts.Listing) may)
    build_stops (Broken texts.Footprints) may =
        footprints_fail marked (inputs.Footprints, reads footprints) other _
        (plan_works (option_map (base_mark reads) base) (inputs.Makefile, reads makefile) (inputs.Listing, reads listing)
        (base_works base may.0) may.1 may.2) (inr (refl, may.3))
    build_stops Memory may = inl refl

module _ {F : Type 0} (left : F → Option (List ℕ)) where
  -- the text of a base is what its file states
  base_given : (base : Option F) (new : Option (List ℕ)) (text : List ℕ) → GaveAll (left_if left base) new text → IsGiven (option_map left base) text
  base_given None new text all = all_left (Some []) new text all
  base_given (Some file) new text all = all_left (left file) new text all

  -- what devices gave of a plan is what their files state
  pub plan_given : (base : Option F) (makefile listing : F) (root : List ℕ) (read : ReadPlan) (b m l : Option (List ℕ))
      → GaveAll (left_if left base) b read.base.items → GaveAll (left makefile) m read.makefile.items
      → (text : List ℕ) × GaveAll (left listing) l text × IsListingRead root text read.listing
      → IsPlanRead (record { base = option_map left base; makefile = left makefile; listing = left listing }) root read
  plan_given base makefile listing root read b m l base_all makefile_all listed = record {
    base = base_given base b read.base.items base_all;
    makefile = all_left (left makefile) m read.makefile.items makefile_all;
    listing = λ text is. subst (λ (t : List ℕ). IsListingRead root t read.listing) (all_given (left listing) l listed.0 text listed.1 is) listed.2;
  }

module _ (files : List ℕ → Option (List ℕ)) (text : InputFile → List ℕ) where
  abbrev holds : InputPath → Type 0
  holds known = files known.path.now ≡ Some (text known.input)

  -- what the last file holds
  held_last : (other : Option InputPath) → All holds (option_to_list other)
      → IfSome other (λ known. files known.path.now ≡ Some (text known.input))
  held_last None each = tt
  held_last (Some known) each = All-head holds known [] each

  -- the text that was read of a file is the one that it holds
  read_is : (file : Option (List ℕ)) (bytes read : List ℕ) → file ≡ Some bytes → IsGiven (Some file) read → read ≡ bytes
  read_is file bytes read holds given = subst (λ (o : Option (List ℕ)). IfSome o (λ (b : List ℕ). read ≡ b)) holds given

  base_is : (base : Option (Bor (List ℕ))) (makefile listing : Bor (List ℕ)) (more : List InputPath) (read : List ℕ) → All not_base more
      → Hold files (base_input base ++ at inputs.Makefile makefile ∷ at inputs.Listing listing ∷ more) text
      → IsGiven (option_map (λ path. files path.now) base) read
      → (read ≡ text inputs.Base) × All holds (at inputs.Makefile makefile ∷ at inputs.Listing listing ∷ more)
  base_is None makefile listing more read none hold given =
      (given ∙ sym (hold.others inputs.Base (no_base makefile listing more none)), hold.each)
  base_is (Some path) makefile listing more read none hold given =
      let rest : List InputPath = at inputs.Makefile makefile ∷ at inputs.Listing listing ∷ more in (
        read_is (files path.now) (text inputs.Base) read (All-head holds (at inputs.Base path) rest hold.each) given,
        All-tail holds (at inputs.Base path) rest hold.each,
      )

  other_is : (other : Option InputPath) (read : List ℕ) → IfSome other (λ known. files known.path.now ≡ Some (text known.input))
      → IsGiven (option_map (λ known. files known.path.now) other) read → read ≡ other_text other text
  other_is None read holds given = given
  other_is (Some known) read holds given = read_is (files known.path.now) (text known.input) read holds given

  -- what was read to plan a build is what its files hold, and so do the files behind them
  plan_is : (build : BuildArgs) (more : List InputPath) (root : List ℕ) (read : ReadPlan) → All not_base more
      → Hold files (base_input build.base ++ at inputs.Makefile build.makefile ∷ at inputs.Listing build.listing ∷ more) text
      → IsPlanRead (plan_stated_at files build) root read → IsPlanReadAs root text read × All holds more
  plan_is build more root read none hold are =
      let base = base_is build.base build.makefile build.listing more read.base.items none hold are.base in
      let behind = All-tail holds (at inputs.Makefile build.makefile) (at inputs.Listing build.listing ∷ more) base.1 in
      let makefile = All-head holds (at inputs.Makefile build.makefile) (at inputs.Listing build.listing ∷ more) base.1 in (
        record {
          base = base.0;
          makefile = read_is (files build.makefile.now) (text inputs.Makefile) read.makefile.items makefile are.makefile;
          listing = are.listing (text inputs.Listing) (All-head holds (at inputs.Listing build.listing) more behind);
        },
        All-tail holds (at inputs.Listing build.listing) more behind,
      )

  pub plan_read_as : (build : BuildArgs) (root : List ℕ) (read : ReadPlan) → Hold files (build_inputs build) text
      → IsPlanRead (plan_stated_at files build) root read → IsPlanReadAs root text read
  plan_read_as build root read hold are =
      (plan_is build [] root read (All-nil not_base)
      (subst (λ (l : List InputPath). Hold files l text) (inputs_of_plan build.base build.makefile build.listing) hold) are).0

  -- what was read of a build is what its files hold
  pub read_as : (build : BuildArgs) (footprints : Bor (List ℕ)) (other : Option InputPath) (root : List ℕ) (read : ReadJob)
      → IfSome other (λ known. known.input ≢ inputs.Base) → Hold files (job_inputs build footprints other) text
      → AreRead (stated_at files build footprints other) root read → IsJobReadAs root other text read
  read_as build footprints other root read none hold are =
      let rest : List InputPath = at inputs.Footprints footprints ∷ option_to_list other in
      let plan = plan_is build rest root read.build.plan (no_base_behind footprints other none)
      (subst (λ (l : List InputPath). Hold files l text) (inputs_of_all build.base build.makefile build.listing footprints other) hold) are.plan in
      record {
        plan = plan.0;
        footprints = are.footprints (text inputs.Footprints) (All-head holds (at inputs.Footprints footprints) (option_to_list other) plan.1);
        other = other_is other read.other.items (held_last other (All-tail holds (at inputs.Footprints footprints) (option_to_list other) plan.1)) are.other;
      }
