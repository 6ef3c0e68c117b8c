-- A worked case, computed: a recipe that empties a folder and unpacks an archive there, which then loses a member.
use Rattle.std.specs.Prelude.{ℕ, ◌≡◌, true, false, List, [], ◌∷◌, reverse, codes, Option, Some, None, if◌then◌else◌}
use Rattle.mk_name.specs.Names.{Name, same_name}
use Rattle.mk_jobs.specs.Jobs.{Jobs, IsValid, IsRaceFree}
use Rattle.mk_sched.specs.Stores.{Bytes, Store, bytes_of}
use Rattle.mk_sched.specs.Events.{Skip, Start, Look, Put, Erase, Finish, Event, Looked, Wrote, store_after}
use Rattle.mk_sched.specs.Programs.{Program, ToLook, ToWrite}
use Rattle.mk_sched.specs.Schedules.{stays}
use Rattle.mk_sched.specs.MissingHeader.{by, file, made, source}
use Rattle.mk_missing.specs.Watching.{IsDeclared}
use Rattle.mk_missing.specs.Incremental.{IsBuild, IsClean, IsKept, SameSources}

-- the bytes of `t`, the archive
abbrev pub archive : Name
archive = 116 ∷ []

-- of `o`, the target
abbrev pub target : Name
target = 111 ∷ []

-- of `u/a` and `u/b`, two members
abbrev pub member_a : Name
member_a = 117 ∷ 47 ∷ 97 ∷ []

abbrev pub member_b : Name
member_b = 117 ∷ 47 ∷ 98 ∷ []

-- `o` is made of `t`; its recipe reads `t`, and writes `o` and the tree `u/`
abbrev pub unpacking : Jobs
unpacking = record {
  plan = record { nodes = source archive ∷ made target (0 ∷ []) ∷ []; wait_uses = 0 };
  root = codes "/";
  reads = [] ∷ (file archive ∷ []) ∷ [];
  writes = [] ∷ (file target ∷ record { name = 117 ∷ []; tree = true } ∷ []) ∷ [];
}

-- an archive of the byte 0 has the member `u/a`, any other has `u/b`
abbrev pub member_of : Option Bytes → Name
member_of (Some (ℕ.zero ∷ bytes)) = member_a
member_of (Some (ℕ.suc n ∷ bytes)) = member_b
member_of (Some []) = member_b
member_of None = member_b

-- the program removes both members, looks at the archive, writes the one that it has, and then the target
abbrev pub unpacks : Program
unpacks [] = Some (ToWrite member_a None)
unpacks (one ∷ []) = Some (ToWrite member_b None)
unpacks (one ∷ two ∷ []) = Some (ToLook archive)
unpacks (one ∷ two ∷ Looked path seen ∷ []) = Some (ToWrite (member_of seen) seen)
unpacks (one ∷ two ∷ Wrote path left ∷ []) = None
unpacks (one ∷ two ∷ three ∷ four ∷ []) = Some (ToWrite target (Some []))
unpacks (one ∷ two ∷ three ∷ four ∷ five ∷ more) = None

-- a tree with the archive alone, of this byte and time
abbrev pub packed : ℕ → ℕ → Store
packed byte time x = if same_name archive x then Some (record { bytes = byte ∷ []; time = time }) else None

-- a build of it that unpacks this member, in the order of time
abbrev pub unpacked : ℕ → Name → ℕ → List Event
unpacked byte member time =
    by 0 Skip ∷ by 1 Start ∷ by 1 (Erase member_a) ∷ by 1 (Erase member_b) ∷ by 1 (Look archive (Some (byte ∷ [])))
    ∷ by 1 (Put member (byte ∷ []) time) ∷ by 1 (Put target [] (ℕ.suc time)) ∷ by 1 Finish ∷ []

-- the first build has `u/a`
abbrev pub first_build : List Event
first_build = reverse (unpacked 0 member_a 2)

-- what it leaves, with an archive that has `u/b` in its place
abbrev pub repacked : Store
repacked x = if same_name archive x then Some (record { bytes = 1 ∷ []; time = 4 }) else store_after (packed 0 1) first_build x

-- the second build
abbrev pub second_build : List Event
second_build = reverse (unpacked 1 member_b 5)

-- all premises of the second headline hold, though the recipe may write names without end; so the second build leaves what one of a
-- clean tree leaves, and the member that the archive lost is gone
pub record UnpacksAfresh : Type 0 where
  pub valid : IsValid unpacking
  pub race_free : IsRaceFree unpacking
  pub declared : IsDeclared unpacking (λ x. false)
  pub kept : IsKept unpacking (λ n. unpacks) (λ x. false) repacked
  pub clean : IsClean unpacking (packed 1 4)
  pub sources : SameSources unpacking repacked (packed 1 4)
  pub first : IsBuild unpacking (λ n. unpacks) (packed 0 1) first_build
  pub first_stays : stays unpacking first_build ≡ true
  pub second : IsBuild unpacking (λ n. unpacks) repacked second_build
  pub other : IsBuild unpacking (λ n. unpacks) (packed 1 4) second_build
  pub other_stays : stays unpacking second_build ≡ true
  pub alike : (x : Name) → bytes_of (store_after repacked second_build x) ≡ bytes_of (store_after (packed 1 4) second_build x)
  pub was_there : bytes_of (repacked member_a) ≡ Some (0 ∷ [])
  pub is_gone : bytes_of (store_after repacked second_build member_a) ≡ None
