use Rattle.std.proofs.Common.{◌≡◌, ◌≤◌, ◌∙◌, List, length, subst, sym}
use Rattle.mk_name.specs.Names.{IsDistinct, same_name}
use Rattle.mk_jobs.specs.Plan.{NeedsStandBefore, Node, names_of, node_limit}
use Rattle.mk_jobs.specs.Shape.{IsWellFormed}
use Rattle.mk_fix.specs.Added.{more_needs, with_edges}
use Rattle.mk_fix.proofs.Made.{jobs_before, jobs_distinct, jobs_few, made_shape}
use Rattle.mk_fix.proofs.added.with_edges.Goals as goal

pub new-requires-clause-few : goal.new-requires-clause-few
new-requires-clause-few c =
    let jobs = c.args.jobs.now in
    let edges = c.args.edges.now in
    let shape = made_shape jobs edges c.in_ok-nodes.nodes.items c.deref.result.now c.has_many_edges.result c.requires c.count-count.ensures.shape c.in_ok-nodes.ensures c.deref.ensures.value c.has_many_edges.ensures c.if-has_many_edges.false in
    subst (λ (ns : List Node). length ns ≤ node_limit) (sym c.in_ok-nodes.ensures) (jobs_few (with_edges jobs edges) shape)

pub new-requires-clause-distinct : goal.new-requires-clause-distinct
new-requires-clause-distinct c =
    let jobs = c.args.jobs.now in
    let edges = c.args.edges.now in
    let shape = made_shape jobs edges c.in_ok-nodes.nodes.items c.deref.result.now c.has_many_edges.result c.requires c.count-count.ensures.shape c.in_ok-nodes.ensures c.deref.ensures.value c.has_many_edges.ensures c.if-has_many_edges.false in
    subst (λ (ns : List Node). IsDistinct same_name (names_of ns)) (sym c.in_ok-nodes.ensures) (jobs_distinct (with_edges jobs edges) shape)

pub new-requires-clause-rising : goal.new-requires-clause-rising
new-requires-clause-rising c =
    let jobs = c.args.jobs.now in
    let edges = c.args.edges.now in
    let shape = made_shape jobs edges c.in_ok-nodes.nodes.items c.deref.result.now c.has_many_edges.result c.requires c.count-count.ensures.shape c.in_ok-nodes.ensures c.deref.ensures.value c.has_many_edges.ensures c.if-has_many_edges.false in
    subst NeedsStandBefore (sym c.in_ok-nodes.ensures) (jobs_before (with_edges jobs edges) shape)

pub new-requires-2 : goal.new-requires-2
new-requires-2 c =
    let jobs = c.args.jobs.now in
    let edges = c.args.edges.now in
    let shape = made_shape jobs edges c.in_ok-nodes.nodes.items c.deref.result.now c.has_many_edges.result c.requires c.count-count.ensures.shape c.in_ok-nodes.ensures c.deref.ensures.value c.has_many_edges.ensures c.if-has_many_edges.false in
    let plan : c.in_ok-plan.plan ≡ (with_edges jobs edges).plan = c.in_ok-plan.ensures ∙ λ i. record { nodes = c.in_ok-nodes.ensures i; wait_uses = c.wait_uses.ensures i } in
    subst IsWellFormed (λ i. record {
      plan = (sym plan) i;
      root = (sym (c.in_ok-copy.ensures ∙ c.root.ensures)) i;
      reads = (sym c.in_ok-reads.ensures.reads) i;
      writes = (sym c.in_ok-reads.ensures.writes) i;
    }) shape
