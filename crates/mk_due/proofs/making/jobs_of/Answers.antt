use Rattle.std.proofs.Common.{◌≡◌, ◌≤◌, ◌∙◌, Bor, List, All, None, Ok, arith, map, ap, subst, sym}
use Rattle.std.proofs.lemmas.Result.{err_from_is_err_and}
use Rattle.mk_name.specs.Gives.{Halts}
use Rattle.mk_name.specs.Names.{IsDistinct, Name, same_name}
use Rattle.mk_text.specs.Listing as listings
use Rattle.mk_jobs.specs.Plan as plans
use Rattle.mk_jobs.specs.Plan.{NeedsStandBefore, Node, edge_limit}
use Rattle.mk_jobs.specs.Shape.{IsRising, IsWellFormed}
use Rattle.mk_due.specs.Items.{names_of, nodes_of}
use Rattle.mk_due.specs.JobsOf.{first_fault, jobs_of, made_beside, reads_of, writes_of}
use Rattle.mk_due.proofs.Shaped.{edges_same, names_same, shape}
use Rattle.mk_due.proofs.Taken.{made_good}
use Rattle.mk_due.proofs.making.jobs_of.Goals as goal

pub new-requires-clause-few_edges : goal.new-requires-clause-few_edges
new-requires-clause-few_edges c =
    subst (λ (ns : List Node). plans.edge_count ns ≤ edge_limit) (sym c.in_ok-nodes.ensures.nodes)
    (omega (arith, edges_same c.args.items.items, c.requires.few_edges))

pub new-requires-clause-distinct : goal.new-requires-clause-distinct
new-requires-clause-distinct c =
    subst (λ (ns : List Node). IsDistinct same_name (plans.names_of ns)) (sym c.in_ok-nodes.ensures.nodes)
    (subst (IsDistinct same_name) (sym (names_same c.args.items.items)) c.requires.distinct)

pub new-requires-clause-rising : goal.new-requires-clause-rising
new-requires-clause-rising c = subst NeedsStandBefore (sym c.in_ok-nodes.ensures.nodes) c.requires.behind

pub new-requires-2 : goal.new-requires-2
new-requires-2 c =
    let items = c.args.items.items in
    let rows = c.in_ok-nodes.ensures in
    let names : map (λ (name : Bor Name). name.now) c.as_slice-3.result.now ≡ listings.in_order (names_of items) =
    ap (map (λ (name : Bor Name). name.now)) c.as_slice-3.ensures.value ∙ c.in_ok-lent.ensures ∙ c.as_slice-2.ensures.value ∙ c.in_ok-names.ensures.names
    ∙ ap (λ is. listings.in_order (names_of is)) c.as_slice.ensures.value in
    let none : first_fault c.args.root.now (listings.in_order (names_of items)) items ≡ None = subst (λ (ns : List Name). first_fault c.args.root.now ns items ≡ None) names rows.none in
    let plan : c.in_ok-plan.plan ≡ record { nodes = nodes_of items; wait_uses = 0 } =
    c.in_ok-plan.ensures ∙ λ i. record { nodes = rows.nodes i; wait_uses = 0 } in
    let reads_rise : All IsRising (map reads_of items) = subst (All IsRising) rows.reads rows.reads_rise in
    let writes_rise : All IsRising (map writes_of items) = subst (All IsRising) rows.writes rows.writes_rise in
    subst IsWellFormed (λ i. record {
      plan = (sym plan) i;
      root = (sym c.in_ok-copy.ensures) i;
      reads = (sym rows.reads) i;
      writes = (sym rows.writes) i;
    }) (shape c.args.root.now items c.requires none reads_rise writes_rise)

pub returns-in_err-nodes : goal.returns-in_err-nodes
returns-in_err-nodes c =
    let items = c.args.items.items in
    let p = err_from_is_err_and c.from_residual-in_err-nodes.result c.from_residual-in_err-nodes.ensures.1 in
    let names : map (λ (name : Bor Name). name.now) c.as_slice-3.result.now ≡ listings.in_order (names_of items) =
    ap (map (λ (name : Bor Name). name.now)) c.as_slice-3.ensures.value ∙ c.in_ok-lent.ensures ∙ c.as_slice-2.ensures.value ∙ c.in_ok-names.ensures.names
    ∙ ap (λ is. listings.in_order (names_of is)) c.as_slice.ensures.value in
    rw (p.1, p.2) (subst (λ (ns : List Name). Halts c.in_err-nodes.field-0.0 (made_beside c.args.root.now ns items)) names c.in_err-nodes.ensures.fault)

pub returns-in-Ok : goal.returns-in-Ok
returns-in-Ok c =
    let items = c.args.items.items in
    let rows = c.in_ok-nodes.ensures in
    let names : map (λ (name : Bor Name). name.now) c.as_slice-3.result.now ≡ listings.in_order (names_of items) =
    ap (map (λ (name : Bor Name). name.now)) c.as_slice-3.ensures.value ∙ c.in_ok-lent.ensures ∙ c.as_slice-2.ensures.value ∙ c.in_ok-names.ensures.names
    ∙ ap (λ is. listings.in_order (names_of is)) c.as_slice.ensures.value in
    let none : first_fault c.args.root.now (listings.in_order (names_of items)) items ≡ None = subst (λ (ns : List Name). first_fault c.args.root.now ns items ≡ None) names rows.none in
    let plan : c.in_ok-plan.plan ≡ record { nodes = nodes_of items; wait_uses = 0 } =
    c.in_ok-plan.ensures ∙ λ i. record { nodes = rows.nodes i; wait_uses = 0 } in
    let same : jobs_of c.args.root.now items ≡ c.in-Ok.jobs =
    (λ i. record {
      plan = (sym plan) i;
      root = (sym c.in_ok-copy.ensures) i;
      reads = (sym rows.reads) i;
      writes = (sym rows.writes) i;
    }) ∙ sym c.in-Ok.ensures.jobs in
    made_good c.args.root.now (listings.in_order (names_of items)) items none ∙ ap Ok same
