-- Stores: what stands at each name, and which nodes are out of date.
use Rattle.std.specs.Prelude.{ℕ, ◌≡◌, ◌<◌, ◌&&◌, ◌||◌, ◌==◌, nat_lt, Bool, true, List, Option, Some, None, is_some, is_none}
use Rattle.std.specs.List.{list_any}
use Rattle.mk_name.specs.Names.{Name}
use Rattle.mk_jobs.specs.Jobs.{Jobs, node_count, name_of, prerequisites_of, has_recipe, is_phony, is_listed}

-- what a file holds
abbrev pub Bytes : Type 0
Bytes = List ℕ

-- a file: what it holds, and when it was written
pub record File : Type 0 where
  pub bytes : Bytes
  pub time : ℕ

-- a store: the file at each name, if there is one
abbrev pub Store : Type 0
Store = Name → Option File

-- what the file holds, or that there is none
abbrev pub bytes_of : Option File → Option Bytes
bytes_of None = None
bytes_of (Some file) = Some file.bytes

-- the store agrees with a listing: a name is present exactly where it is listed
abbrev pub AgreesWithListing : (Name → Bool) → Store → Type 0
AgreesWithListing listed store = (x : Name) → is_some (store x) ≡ listed x

-- the store agrees with the jobs: of the nodes just the listed ones are there
abbrev pub AgreesWith : Jobs → Store → Type 0
AgreesWith jobs store = (n : ℕ) → n < node_count jobs → is_some (store (name_of jobs n)) ≡ is_listed jobs n

-- the second file makes the first out of date: it is absent, or newer, or with `tie` as old; an absent first one always is
abbrev pub outdates : Bool → Option File → Option File → Bool
outdates tie own None = true
outdates tie None (Some other) = true
outdates tie (Some own) (Some other) = nat_lt own.time other.time || (tie && (own.time == other.time))

-- n is stale: phony or absent, or one of its prerequisites is phony or makes it out of date
abbrev pub is_stale : Jobs → Bool → Store → ℕ → Bool
is_stale jobs tie store n =
    is_phony jobs n || is_none (store (name_of jobs n))
    || list_any (λ p. is_phony jobs p || outdates tie (store (name_of jobs n)) (store (name_of jobs p))) (prerequisites_of jobs n)

-- n must run: it has a recipe and is stale
abbrev pub must_run : Jobs → Bool → Store → ℕ → Bool
must_run jobs tie store n = has_recipe jobs n && is_stale jobs tie store n
