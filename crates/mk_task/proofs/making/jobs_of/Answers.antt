use Rattle.std.proofs.Common.{◌≡◌, ◌∙◌, List, All, map, subst, sym}
use Rattle.mk_name.specs.Names.{IsDistinct, same_name}
use Rattle.mk_foot.specs.Footprints.{in_order}
use Rattle.mk_jobs.specs.Plan.{NeedsStandBefore, Node, names_of}
use Rattle.mk_jobs.specs.Shape.{IsRising, IsWellFormed}
use Rattle.mk_task.specs.JobsOf.{node_of}
use Rattle.mk_task.specs.Tasks.{Task}
use Rattle.mk_task.proofs.Shaped.{names_differ, needs_before, shape}
use Rattle.mk_task.proofs.making.jobs_of.Goals as goal

pub new-requires-clause-distinct : goal.new-requires-clause-distinct
new-requires-clause-distinct c =
    subst (λ (ns : List Node). IsDistinct same_name (names_of ns)) (sym c.in_ok-nodes.ensures.nodes) (names_differ c.args.tasks.items c.requires.distinct)

pub new-requires-clause-rising : goal.new-requires-clause-rising
new-requires-clause-rising c = subst NeedsStandBefore (sym c.in_ok-nodes.ensures.nodes) (needs_before c.args.tasks.items c.requires.behind)

pub new-requires-2 : goal.new-requires-2
new-requires-2 c =
    let tasks = c.args.tasks.items in
    let rows = c.in_ok-nodes.ensures in
    let plan : c.in_ok-plan.plan ≡ record { nodes = map node_of tasks; wait_uses = 0 } =
    c.in_ok-plan.ensures ∙ λ i. record { nodes = rows.nodes i; wait_uses = 0 } in
    let reads_rise : All IsRising (map (λ (t : Task). in_order t.reads) tasks) = subst (All IsRising) rows.reads rows.reads_rise in
    let writes_rise : All IsRising (map (λ (t : Task). in_order t.writes) tasks) = subst (All IsRising) rows.writes rows.writes_rise in
    subst IsWellFormed (λ i. record {
      plan = (sym plan) i;
      root = (sym c.in_ok-copy.ensures) i;
      reads = (sym rows.reads) i;
      writes = (sym rows.writes) i;
    }) (shape c.args.root.now tasks c.requires reads_rise writes_rise)
