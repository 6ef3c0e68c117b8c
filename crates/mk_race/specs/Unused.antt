-- Footprints that lie unused, since nothing makes their target though the build has it; and the jobs of a build with them.
use Rattle.std.specs.Prelude.{◌≡◌, ◌&&◌, ℕ, not, Bool, List, [], ◌∷◌, Result, Ok, Err, Option, None, Some, is_some, length, slice_get, if◌then◌else◌}
use Rattle.std.specs.List.{enumerate_from, filter_map}
use Rattle.mk_name.specs.Names.{Name}
use Rattle.mk_name.specs.Reported.{Reported}
use Rattle.mk_name.specs.declared.fault.Kind.TheVariants.{UnusedFootprint}
use Rattle.mk_name.specs.declared.fault.Source.TheVariants as sources
use Rattle.mk_jobs.specs.Jobs.{Jobs, has_commands}
use Rattle.mk_jobs.specs.Plan.{Node, Plan, node_at}
use Rattle.mk_rules.specs.Book.{Book}
use Rattle.mk_foot.specs.Footprints.{AreFootprintsRead, Footprints, footprint_at}
use Rattle.mk_race.specs.Parts.{IsPlannedWith}
use Rattle.mk_race.specs.Stages.{AreJobs, IsPrepared, Texts, Then, ThenAny, with_jobs}
use Rattle.mk_race.specs.declared.planning.Planned.{Planned}
use Rattle.mk_race.specs.declared.preparing.Prepared.{Prepared}
use Rattle.mk_race.specs.declared.unused.Noted.{Noted}
use Rattle.mk_race.specs.declared.unused.Unused.{Unused}

-- nothing makes the node, though its name is a footprint's target
abbrev pub is_unused : Footprints → Node → Bool
is_unused footprints node = not (has_commands node.maker) && is_some (footprint_at footprints node.name)

-- the number of such a node
abbrev pub unused_number : Footprints → ℕ × Node → Option ℕ
unused_number footprints placed = if is_unused footprints placed.1 then Some placed.0 else None

-- the numbers of all such nodes, in the order of nodes
abbrev pub unused_in : Footprints → List Node → List ℕ
unused_in footprints nodes = filter_map (unused_number footprints) (enumerate_from 0 nodes)

-- what is said of the nodes with these numbers: the first of them, its name, and how many they are
abbrev pub AreSaidBy : List Node → List ℕ → Option Unused → Type 0
AreSaidBy nodes numbers None = numbers ≡ []
AreSaidBy nodes numbers (Some unused) =
    (slice_get numbers 0 ≡ Some unused.node) × (unused.name ≡ (node_at nodes unused.node).name) × (unused.count ≡ length numbers)

-- the jobs of a plan, whose book this is, and what is said of these footprints that lie unused; or the first fault of the jobs
abbrev pub AreNotedOf : Book → Plan → Footprints → Result (Jobs × Option Unused) Reported → Type 0
AreNotedOf book plan read (Ok noted) =
    AreJobs plan book read (Ok noted.0) × AreSaidBy noted.0.plan.nodes (unused_in read noted.0.plan.nodes) noted.1
AreNotedOf book plan read (Err reported) = AreJobs plan book read (Err reported)

-- that of the nodes of a build whose footprints, which this text says, lie unused
abbrev pub IsUnused : Prepared → List ℕ → Option Unused → Type 0
IsUnused prepared text unused =
    (read : Footprints) × AreFootprintsRead prepared.root text (Ok read) × AreSaidBy prepared.jobs.plan.nodes (unused_in read prepared.jobs.plan.nodes) unused

-- the jobs of a build with that; or its first fault
abbrev pub IsNoted : Texts → List ℕ → Result Noted Reported → Type 0
IsNoted texts footprints (Ok noted) = IsPrepared texts footprints (Ok noted.prepared) × IsUnused noted.prepared footprints noted.unused
IsNoted texts footprints (Err reported) = IsPrepared texts footprints (Err reported)

-- the jobs of what was planned, with footprints that were read ahead, and what is said of those that lie unused
abbrev pub AreNotedOn : Planned → Result Footprints Reported → Result Noted Reported → Type 0
AreNotedOn planned read =
    ThenAny (Then read (AreNotedOf planned.book planned.plan)) (λ found answer.
    answer ≡ Ok (record { prepared = with_jobs planned found.0; unused = found.1 }))

-- the same of a build whose listing and footprints were read ahead
abbrev pub IsNotedWith : Texts → Result (List Name) Reported → Result Footprints Reported → Result Noted Reported → Type 0
IsNotedWith texts listed read = ThenAny (IsPlannedWith texts listed) (λ planned. AreNotedOn planned read)

-- both were read without a fault, and the jobs were prepared with that listing
abbrev pub WereRead : Result (List Name) Reported → Result Footprints Reported → Prepared → Type 0
WereRead listed read prepared = (listed ≡ Ok prepared.listing) × ((found : Footprints) × (read ≡ Ok found))

-- the fault of footprints that lie unused names the first of their targets
abbrev pub unused_fault : Unused → Reported
unused_fault unused = record { kind = UnusedFootprint; source = sources.Jobs; place = unused.node; names = unused.name ∷ [] }

-- a strict build is refused where footprints lie unused
abbrev pub strictly : Noted → Option Unused → Result Noted Reported
strictly noted None = Ok noted
strictly noted (Some unused) = Err (unused_fault unused)

-- the jobs of a build with its footprints that lie unused, which are refused where it is strict
abbrev pub IsNotedBy : Bool → Texts → List ℕ → Result Noted Reported → Type 0
IsNotedBy strict texts footprints =
    ThenAny (IsNoted texts footprints) (λ noted answer. answer ≡ (if strict then strictly noted noted.unused else Ok noted))
