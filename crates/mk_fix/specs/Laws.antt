-- Laws of fixes.
use Rattle.std.specs.Prelude.{ℕ, ◌≡◌, ◌≤◌, ◌↔◌, Bool, true, List, [], Contains}
use Rattle.mk_jobs.specs.Plan.{edge_count, edge_limit}
use Rattle.mk_jobs.specs.Jobs.{Jobs, Before, Clash, IsRaceFree, IsValid, is_listed, is_live, is_phony}
use Rattle.mk_jobs.specs.Shape.{IsWellFormed}
use Rattle.mk_sched.specs.Events.{Event}
use Rattle.mk_sched.specs.Laws.{IsDeterminate}
use Rattle.mk_sched.specs.Runs.{IsRun}
use Rattle.mk_sched.specs.Stores.{AgreesWith, Store}
use Rattle.mk_decide.specs.Pairs.{ArePairs}
use Rattle.mk_fix.specs.Added.{AreRisingToLive, with_edges}
use Rattle.mk_fix.specs.Fixes.{IsFix}
use Rattle.mk_fix.specs.Musts.{AreDirect, Must}

-- added edges keep all order that there is
abbrev pub BeforeGrows : Type 0
BeforeGrows = (jobs : Jobs) (edges : List (ℕ × ℕ)) (a b : ℕ) → AreRisingToLive jobs edges → Before jobs a b → Before (with_edges jobs edges) a b

-- edges to live nodes change no node's liveness
abbrev pub LiveStays : Type 0
LiveStays = (jobs : Jobs) (edges : List (ℕ × ℕ)) (n : ℕ) → AreRisingToLive jobs edges → is_live (with_edges jobs edges) n ≡ is_live jobs n

-- so they change no conflict
abbrev pub ClashStays : Type 0
ClashStays = (jobs : Jobs) (edges : List (ℕ × ℕ)) (a b : ℕ) → AreRisingToLive jobs edges → Clash (with_edges jobs edges) a b ↔ Clash jobs a b

-- well-formed jobs stay well-formed, up to the limit of edges
abbrev pub ShapeStays : Type 0
ShapeStays =
    (jobs : Jobs) (edges : List (ℕ × ℕ)) → IsWellFormed jobs → AreRisingToLive jobs edges
    → edge_count (with_edges jobs edges).plan.nodes ≤ edge_limit → IsWellFormed (with_edges jobs edges)

-- a fix makes jobs determinate, however many edges it has
abbrev pub FixIsDeterminate : Type 0
FixIsDeterminate = (jobs : Jobs) (edges : List (ℕ × ℕ)) → IsValid jobs → IsFix jobs edges → IsDeterminate (with_edges jobs edges)

-- the fix is empty just where the jobs are race-free
abbrev pub NothingToFix : Type 0
NothingToFix = (jobs : Jobs) (edges : List (ℕ × ℕ)) → IsFix jobs edges → (edges ≡ []) ↔ IsRaceFree jobs

-- the fix is the weakest: any rising edges to live nodes that make the jobs race-free put in order all that the fix does
abbrev pub FixIsWeakest : Type 0
FixIsWeakest =
    (jobs : Jobs) (edges other : List (ℕ × ℕ)) (a b : ℕ) → IsValid jobs → IsFix jobs edges → AreRisingToLive jobs other
    → IsRaceFree (with_edges jobs other) → Before (with_edges jobs edges) a b → Before (with_edges jobs other) a b

-- the fix is the only one: two fixes have the same edges
abbrev pub FixIsOne : Type 0
FixIsOne =
    (jobs : Jobs) (first second : List (ℕ × ℕ)) (a b : ℕ) → IsValid jobs → IsFix jobs first → IsFix jobs second
    → Contains first (a, b) → Contains second (a, b)

-- the direct races are a fix
abbrev pub DirectIsFix : Type 0
DirectIsFix = (jobs : Jobs) (edges : List (ℕ × ℕ)) → IsValid jobs → AreDirect jobs edges → IsFix jobs edges

-- what must be in order is what is in order where each conflict is an edge
abbrev pub MustIsBefore : Type 0
MustIsBefore = (jobs : Jobs) (pairs : List (ℕ × ℕ)) (a b : ℕ) → ArePairs jobs pairs → Must jobs a b ↔ Before (with_edges jobs pairs) a b

-- a clean tree lists no live node, except phony ones
abbrev pub IsClean : Jobs → Type 0
IsClean jobs = (n : ℕ) → is_live jobs n ≡ true → is_listed jobs n ≡ true → is_phony jobs n ≡ true

-- on a clean tree each run with added edges is a run without them
abbrev pub CleanRunsStay : Type 0
CleanRunsStay =
    (jobs : Jobs) (edges : List (ℕ × ℕ)) (tie : Bool) (limit : ℕ) (opening : Store) (past : List Event)
    → IsValid jobs → AreRisingToLive jobs edges → IsClean jobs → AgreesWith jobs opening
    → IsRun (with_edges jobs edges) tie limit opening past → IsRun jobs tie limit opening past
