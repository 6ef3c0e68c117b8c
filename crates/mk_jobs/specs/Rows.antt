-- Jobs whose paths stand in rows, one for each node.
use Rattle.std.specs.Prelude.{ℕ, List, Vec, map}
use Rattle.std.specs.Global.{Global}
use Rattle.mk_path.specs.declared.path.Path.{Path}
use Rattle.mk_jobs.specs.Plan.{Plan}
use Rattle.mk_jobs.specs.Jobs.{Jobs}

abbrev pub with_rows : Plan → List ℕ → List (Vec Path Global) → List (Vec Path Global) → Jobs
with_rows plan root reads writes = record {
  plan = plan;
  root = root;
  reads = map (λ (row : Vec Path Global). row.items) reads;
  writes = map (λ (row : Vec Path Global). row.items) writes;
}
