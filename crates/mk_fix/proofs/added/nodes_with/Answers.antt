use Rattle.std.proofs.Common.{ℕ, ◌≡◌, ◌<◌, ◌+◌, ◌∙◌, List, [], ◌∷◌, ◌++◌, Vec, ap, arith, get_or, length, map, sym, take}
use Rattle.std.specs.Global.{Global}
use Rattle.std.proofs.lemmas.List.{get_or-map, take_all, take_more}
use Rattle.mk_jobs.specs.Jobs.{node_count, prerequisites_of}
use Rattle.mk_jobs.specs.Plan.{Node, node_at, nobody}
use Rattle.mk_fix.specs.Added.{more_needs, sources_to}
use Rattle.mk_fix.proofs.Adding.{nodes_count}
use Rattle.mk_fix.proofs.Made.{live_to_nodes, node_more}
use Rattle.mk_fix.proofs.added.nodes_with.Goals as goal

pub sources_of-requires : goal.sources_of-requires
sources_of-requires c = live_to_nodes c.args.jobs.now c.args.edges.now c.requires

pub loop-n-preserved : goal.loop-n-preserved
unfolding node_count prerequisites_of
loop-n-preserved c =
    let jobs = c.args.jobs.now in
    let edges = c.args.edges.now in
    let n = c.loop-n.n in
    let all = more_needs edges 0 jobs.plan.nodes in
    let rows = c.in_ok-sources.sources.items in
    let count = c.count-n-end.ensures.count in
    let test = c.loop-n-test.true in
    let below : n < length jobs.plan.nodes = omega (arith, test, count) in
    let long = c.in_ok-sources.ensures.count in
    let inside : n < length rows = omega (arith, below, long) in
    let within : n < length all = omega (arith, below, nodes_count edges 0 jobs.plan.nodes) in
    let sources : c.deref.result.now ≡ sources_to edges n =
    c.deref.ensures.value
    ∙ ap (λ (v : Vec ℕ Global). v.items) c.index.ensures
    ∙ sym (get_or-map (λ (v : Vec ℕ Global). v.items) rows n c.index.result.now [] inside)
    ∙ c.in_ok-sources.ensures.rows n below in
    let node : c.in_ok-node_with.field-0 ≡ get_or all n nobody =
    c.in_ok-node_with.ensures
    ∙ ap (λ (some : List ℕ). record (node_at jobs.plan.nodes n) { prerequisites = (node_at jobs.plan.nodes n).prerequisites ++ some }) (sources ∙ ap (sources_to edges) (let e : n ≡ 0 + n = omega arith in e))
    ∙ sym (node_more edges 0 jobs.plan.nodes n below) in
    c.in_ok-push.ensures.items
    ∙ ap (λ (nodes : List Node). nodes ++ c.in_ok-node_with.field-0 ∷ []) c.loop-n.invariant
    ∙ ap (λ (last : Node). take n all ++ last ∷ []) node
    ∙ sym (take_more all n nobody within)

pub returns : goal.returns
unfolding node_count
returns c =
    let jobs = c.args.jobs.now in
    let edges = c.args.edges.now in
    let count = c.count-n-end.ensures.count in
    let least = c.loop-n-test.false in
    c.loop-n.invariant
    ∙ take_all c.loop-n.n (more_needs edges 0 jobs.plan.nodes) (omega (arith, least, count, nodes_count edges 0 jobs.plan.nodes))
