-- A worked case, computed: a header that the makefile forgets, and the same with the header named.
use Rattle.std.specs.Prelude.{ℕ, ◌≡◌, true, false, List, [], ◌∷◌, reverse, codes, Some, None, if◌then◌else◌}
use Rattle.mk_name.specs.Names.{Name, same_name}
use Rattle.mk_path.specs.declared.path.Path.{Path}
use Rattle.mk_jobs.specs.Plan.{Node}
use Rattle.mk_jobs.specs.declared.maker.Maker.TheVariants.{Rule, Nothing}
use Rattle.mk_jobs.specs.Jobs.{Jobs, Before, Clash, IsValid, IsRaceFree}
use Rattle.mk_sched.specs.Stores.{Store, AgreesWith, bytes_of}
use Rattle.mk_sched.specs.Events.{Act, Skip, Start, Look, Put, Finish, Event, store_after}
use Rattle.mk_sched.specs.Runs.{IsRun, IsComplete, RecipesAgree}
use Rattle.mk_sched.specs.Laws.{IsDeterminate}

-- the bytes of `gen.sh`
abbrev pub gen_sh : Name
gen_sh = 103 ∷ 101 ∷ 110 ∷ 46 ∷ 115 ∷ 104 ∷ []

-- of `gen.h`
abbrev pub gen_h : Name
gen_h = 103 ∷ 101 ∷ 110 ∷ 46 ∷ 104 ∷ []

-- of `a.c`
abbrev pub a_c : Name
a_c = 97 ∷ 46 ∷ 99 ∷ []

-- of `a.o`
abbrev pub a_o : Name
a_o = 97 ∷ 46 ∷ 111 ∷ []

-- of `all`
abbrev pub all : Name
all = 97 ∷ 108 ∷ 108 ∷ []

-- a file that is there
abbrev pub source : Name → Node
source name = record { name = name; prerequisites = []; maker = Nothing; phony = false; listed = true }

-- a target with a recipe, which is not there
abbrev pub made : Name → List ℕ → Node
made name prerequisites = record { name = name; prerequisites = prerequisites; maker = Rule; phony = false; listed = false }

-- a target without a recipe, which is not there
abbrev pub gathered : Name → List ℕ → Node
gathered name prerequisites = record { name = name; prerequisites = prerequisites; maker = Nothing; phony = false; listed = false }

-- the path that is this name alone
abbrev pub file : Name → Path
file x = record { name = x; tree = false }

-- `gen.h` is made of `gen.sh`, and `a.o` of these prerequisites; the recipe of `a.o` reads these paths
abbrev pub header_jobs : List ℕ → List Path → Jobs
header_jobs prerequisites reads = record {
  plan = record {
    nodes = source gen_sh ∷ made gen_h (0 ∷ []) ∷ source a_c ∷ made a_o prerequisites ∷ gathered all (1 ∷ 3 ∷ []) ∷ [];
    wait_uses = 0;
  };
  root = codes "/";
  reads = [] ∷ (file gen_sh ∷ []) ∷ [] ∷ reads ∷ [] ∷ [];
  writes = [] ∷ (file gen_h ∷ []) ∷ [] ∷ (file a_o ∷ []) ∷ [] ∷ [];
}

-- the recipe of `a.o` reads `a.c` and `gen.h`, and the makefile forgets that `a.o` needs `gen.h`
abbrev pub missing_header : Jobs
missing_header = header_jobs (2 ∷ []) (file a_c ∷ file gen_h ∷ [])

-- the makefile says it
abbrev pub header_named : Jobs
header_named = header_jobs (2 ∷ 1 ∷ []) (file a_c ∷ file gen_h ∷ [])

-- the opening: `gen.sh` and `a.c`, both of the time 1
abbrev pub two_sources : Store
two_sources x =
    if same_name gen_sh x then Some (record { bytes = 115 ∷ []; time = 1 })
    else if same_name a_c x then Some (record { bytes = 97 ∷ []; time = 1 }) else None

-- the event of n
abbrev pub by : ℕ → Act → Event
by n a = record { node = n; act = a }

-- the header is made first, in the order of time
abbrev pub header_first : List Event
header_first =
    by 0 Skip ∷ by 2 Skip ∷ by 1 Start ∷ by 1 (Put gen_h (103 ∷ []) 2) ∷ by 1 Finish
    ∷ by 3 Start ∷ by 3 (Look gen_h (Some (103 ∷ []))) ∷ by 3 (Put a_o (111 ∷ 103 ∷ []) 3) ∷ by 3 Finish ∷ by 4 Skip ∷ []

-- the object is made first, and finds no header
abbrev pub object_first : List Event
object_first =
    by 0 Skip ∷ by 2 Skip ∷ by 3 Start ∷ by 3 (Look gen_h None) ∷ by 3 (Put a_o (111 ∷ []) 2) ∷ by 3 Finish
    ∷ by 1 Start ∷ by 1 (Put gen_h (103 ∷ []) 3) ∷ by 1 Finish ∷ by 4 Skip ∷ []

-- both orders are complete runs of the jobs without the header, from one store, with recipes that agree; they end with
-- different bytes at `a.o`
pub record BothOrders : Type 0 where
  pub agrees : AgreesWith missing_header two_sources
  pub header_run : IsRun missing_header false 1 two_sources (reverse header_first)
  pub header_complete : IsComplete missing_header (reverse header_first)
  pub header_leaves : bytes_of (store_after two_sources (reverse header_first) a_o) ≡ Some (111 ∷ 103 ∷ [])
  pub object_run : IsRun missing_header false 1 two_sources (reverse object_first)
  pub object_complete : IsComplete missing_header (reverse object_first)
  pub object_leaves : bytes_of (store_after two_sources (reverse object_first) a_o) ≡ Some (111 ∷ [])
  pub recipes_agree : RecipesAgree (reverse header_first) (reverse object_first)

-- so those jobs are not determinate; `gen.h` and `a.o` clash, and neither is before the other
pub record MissingHeaderRaces : Type 0 where
  pub clash : Clash missing_header 1 3
  pub not_before : Before missing_header 1 3 → ⊥
  pub not_after : Before missing_header 3 1 → ⊥
  pub not_determinate : IsDeterminate missing_header → ⊥

-- with the header named the jobs are valid, race-free and determinate
pub record HeaderNamedIsSafe : Type 0 where
  pub valid : IsValid header_named
  pub race_free : IsRaceFree header_named
  pub determinate : IsDeterminate header_named
