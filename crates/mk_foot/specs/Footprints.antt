-- The footprints of targets: what their lines say together, or the first line at fault.
use Rattle.std.specs.Prelude.{◌≡◌, ℕ, ◌+◌, ◌-◌, ◌^◌, List, [], ◌∷◌, ◌++◌, Option, None, Some, Result, Ok, Err, false, filter, fold, length, min, nat_lt, slice_get, take, unwrap_or, if◌then◌else◌}
use Rattle.std.specs.List.{enumerate_from, filter_map, flat_map, sum_by}
use Rattle.std.specs.BTreeSet.{insert_key}
use Rattle.std.specs.Cmp.Lexicographic.{slice_cmp}
use Rattle.std.specs.Ordering.{is_eq, nat_cmp}
use Rattle.std.specs.List.Sorted.{IsStrictlySortedBy}
use Rattle.std.specs.Map.{keys_of, lookup}
use Rattle.mk_name.specs.Names.{Name, same_name}
use Rattle.mk_name.specs.Reported.{Reported}
use Rattle.mk_name.specs.declared.fault.Kind.{Kind}
use Rattle.mk_name.specs.declared.fault.Kind.TheVariants.{BadFootprint, FootprintsTooLarge}
use Rattle.mk_name.specs.declared.fault.Source.TheVariants as sources
use Rattle.mk_text.specs.Listing.{lines}
use Rattle.mk_path.specs.Paths.{path_cmp}
use Rattle.mk_path.specs.declared.path.Path.{Path}
use Rattle.mk_foot.specs.Lines.{FootprintLine, lines_in}

-- all that the recipe of a target reads and writes, each path once, rising
pub record Footprint : Type 0 where
  pub reads : List Path
  pub writes : List Path

-- that of a recipe that neither reads nor writes
abbrev pub no_footprint : Footprint
no_footprint = record { reads = []; writes = [] }

-- paths in their order, each once
abbrev pub in_order : List Path → List Path
in_order paths = fold (insert_key path_cmp) [] paths

-- the union of what some lines say
abbrev pub union_of : List FootprintLine → Footprint
union_of lines = record {
  reads = in_order (flat_map (λ (line : FootprintLine). line.reads) lines);
  writes = in_order (flat_map (λ (line : FootprintLine). line.writes) lines);
}

-- the lines that name a target
abbrev pub lines_on : Name → List FootprintLine → List FootprintLine
lines_on target lines = filter (λ (line : FootprintLine). same_name line.target target) lines

-- what some lines say together, if there are any
abbrev pub together : List FootprintLine → Option Footprint
together [] = None
together (line ∷ lines) = Some (union_of (line ∷ lines))

-- what the lines on a target say together
abbrev pub footprint_on : List FootprintLine → Name → Option Footprint
footprint_on lines target = together (lines_on target lines)

-- targets with their footprints, and what stands there for a target
abbrev pub ByTarget : Type 0
ByTarget = List (Name × Footprint)

abbrev pub footprint_in : ByTarget → Name → Option Footprint
footprint_in entries target = lookup (λ name. is_eq (slice_cmp nat_cmp target name)) entries

-- footprints: the text of the root that their paths were read below, and the footprint of each target
pub record Footprints : Type 0 where
  pub root : List ℕ
  pub by_target : ByTarget

abbrev pub footprint_at : Footprints → Name → Option Footprint
footprint_at footprints target = footprint_in footprints.by_target target

-- other footprints have the same root, and what these have for each name but one
abbrev pub LeavesOthers : Footprints → Name → Footprints → Type 0
LeavesOthers these name others =
    (others.root ≡ these.root) × ((other : Name) → same_name name other ≡ false → footprint_at others other ≡ footprint_at these other)

-- each target stands once, in the byte order of their names
abbrev pub HasTargetsInOrder : ByTarget → Type 0
HasTargetsInOrder entries = IsStrictlySortedBy (slice_cmp nat_cmp) (keys_of entries)

-- for each target they have what the lines on it say together, and targets stand in order
pub record Unites (entries : ByTarget) (lines : List FootprintLine) : Type 0 where
  pub united : (target : Name) → footprint_in entries target ≡ footprint_on lines target
  pub rising : HasTargetsInOrder entries

-- the footprints below a root of what some lines say
pub record AreFootprints (root : List ℕ) (footprints : Footprints) (lines : List FootprintLine) : Type 0 where
  pub root_is : footprints.root ≡ root
  pub unites : Unites footprints.by_target lines

-- the lines that physical lines say; a bad one says nothing
abbrev pub lines_of : List ℕ → List (List ℕ) → List FootprintLine
lines_of root texts = flat_map (λ text. unwrap_or (lines_in root text) []) texts

-- how many paths are read and written, with repeats
abbrev pub path_count : List FootprintLine → ℕ
path_count lines = sum_by (λ (line : FootprintLine). length line.reads + length line.writes) lines

abbrev pub path_limit : ℕ
path_limit = 1000000

-- a fault of the footprints at a place, without names
abbrev pub reported_at : Kind → ℕ → Reported
reported_at kind place = record { kind = kind; source = sources.Footprints; place = place; names = [] }

-- the greatest place: what would pass it stays there
abbrev pub greatest_place : ℕ
greatest_place = 2 ^ 64 - 1

abbrev pub reported : Kind → ℕ → Reported
reported kind place = reported_at kind (min place greatest_place)

-- the fault of a physical line, given what it says and how many paths there are with its own
abbrev pub fault_by : Option (List FootprintLine) → ℕ → ℕ → Option Reported
fault_by None count place = Some (reported BadFootprint place)
fault_by (Some said) count place = if nat_lt path_limit count then Some (reported FootprintsTooLarge place) else None

-- the fault of the physical line at a place from 1: it is bad, or with it there are too many paths
abbrev pub fault_at : List ℕ → List (List ℕ) → ℕ × List ℕ → Option Reported
fault_at root texts placed = fault_by (lines_in root placed.1) (path_count (lines_of root (take placed.0 texts))) placed.0

-- the first of these faults
abbrev pub first_fault : List ℕ → List (List ℕ) → Option Reported
first_fault root texts = slice_get (filter_map (fault_at root texts) (enumerate_from 1 texts)) 0

-- what physical lines say: the footprints of all of them, or the first fault
abbrev pub AreRead : List ℕ → List (List ℕ) → Result Footprints Reported → Type 0
AreRead root texts (Ok footprints) = (first_fault root texts ≡ None) × AreFootprints root footprints (lines_of root texts)
AreRead root texts (Err fault) = first_fault root texts ≡ Some fault

-- what `read_footprints` answers
abbrev pub AreFootprintsRead : List ℕ → List ℕ → Result Footprints Reported → Type 0
AreFootprintsRead root text answer = AreRead root (lines text) answer

-- the footprints of some lines become those of the same lines and one more
abbrev pub AddsLine : Footprints → FootprintLine → Footprints → Type 0
AddsLine old line new = (root : List ℕ) (lines : List FootprintLine) → AreFootprints root old lines → AreFootprints root new (lines ++ line ∷ [])
