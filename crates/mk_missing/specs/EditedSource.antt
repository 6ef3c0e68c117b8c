-- A worked case, computed: after an edit of a source a recipe looks where it was not seen to look.
use Rattle.std.specs.Prelude.{ℕ, ◌≡◌, true, false, List, [], ◌∷◌, reverse, Option, Some, None, if◌then◌else◌}
use Rattle.mk_name.specs.Names.{Name, same_name}
use Rattle.mk_jobs.specs.Jobs.{IsValid, IsRaceFree}
use Rattle.mk_sched.specs.Stores.{Store}
use Rattle.mk_sched.specs.Events.{Skip, Start, Look, Put, Finish, Event, Looked, Wrote, store_after}
use Rattle.mk_sched.specs.Programs.{Program, ToLook, ToWrite, WantedStep}
use Rattle.mk_sched.specs.Schedules.{stays}
use Rattle.mk_sched.specs.MissingHeader.{by}
use Rattle.mk_missing.specs.Watching.{IsDeclared}
use Rattle.mk_missing.specs.Incremental.{IsBuild, IsClean, IsKept}
use Rattle.mk_missing.specs.Unpacking.{archive, packed, target, unpacking}

-- the bytes of `h`, which no recipe may read
abbrev pub header : Name
header = 104 ∷ []

-- what a recipe does when it has seen `t`: of the byte 0 it writes its target, of any other it looks at `h` first
abbrev pub after_source : Option (List ℕ) → WantedStep
after_source (Some (ℕ.zero ∷ bytes)) = ToWrite target (Some [])
after_source (Some (ℕ.suc n ∷ bytes)) = ToLook header
after_source (Some []) = ToLook header
after_source None = ToLook header

-- the program looks at `t`, and goes by that
abbrev pub includes : Program
includes [] = Some (ToLook archive)
includes (Looked path seen ∷ []) = Some (after_source seen)
includes (Looked path seen ∷ Looked x found ∷ []) = Some (ToWrite target (Some []))
includes (Looked path seen ∷ Looked x found ∷ three ∷ more) = None
includes (Looked path seen ∷ Wrote x left ∷ more) = None
includes (Wrote path left ∷ more) = None

-- a build in which it does so, in the order of time
abbrev pub plain_build : List Event
plain_build = reverse (by 0 Skip ∷ by 1 Start ∷ by 1 (Look archive (Some (0 ∷ []))) ∷ by 1 (Put target [] 2) ∷ by 1 Finish ∷ [])

-- what it leaves, with another source
abbrev pub edited_source : Store
edited_source x = if same_name archive x then Some (record { bytes = 1 ∷ []; time = 3 }) else store_after (packed 0 1) plain_build x

-- the build of that tree
abbrev pub including_build : List Event
including_build =
    reverse (by 0 Skip ∷ by 1 Start ∷ by 1 (Look archive (Some (1 ∷ []))) ∷ by 1 (Look header None) ∷ by 1 (Put target [] 4) ∷ by 1 Finish ∷ [])

-- every premise is met but one: no build of a clean tree with the edited source was seen to stay; and the build leaves the footprints
pub record EditsLeave : Type 0 where
  pub valid : IsValid unpacking
  pub race_free : IsRaceFree unpacking
  pub declared : IsDeclared unpacking (λ x. false)
  pub clean : IsClean unpacking (packed 0 1)
  pub seen : IsBuild unpacking (λ n. includes) (packed 0 1) plain_build
  pub seen_stays : stays unpacking plain_build ≡ true
  pub kept : IsKept unpacking (λ n. includes) (λ x. false) edited_source
  pub build : IsBuild unpacking (λ n. includes) edited_source including_build
  pub leaves : stays unpacking including_build ≡ false
