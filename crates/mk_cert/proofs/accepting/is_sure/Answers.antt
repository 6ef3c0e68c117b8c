use Rattle.std.proofs.Common.{◌≡◌, ◌∙◌, ℕ, List, Option, None, arith, ap, is_some, get_or, sym, subst, []}
use Rattle.std.proofs.lemmas.Bool.{false≢true}
use Rattle.mk_proof.specs.Shapes.{trace_of}
use Rattle.mk_jobs.specs.Jobs.{is_listed}
use Rattle.mk_cert.specs.Standing.{HoldsTimes, time_in}
use Rattle.mk_cert.specs.Sure.{all_pass}
use Rattle.mk_cert.proofs.Timing.{no_node_timed, nodes_there, sure_by}
use Rattle.mk_cert.proofs.accepting.is_sure.Goals as goal
use Rattle.mk_cert.proofs.accepting.is_sure.Goals.{then-first-count-via-then-first-count, then-first-count-via-else-first-count+then-second-count, then-first-count-via-else-first-count+else-second-count+then-not-clash_on}

pub returns-then-first-count : goal.returns-then-first-count
returns-then-first-count c = (
  λ is. absurd (false≢true is),
  λ sure.
      let trace = trace_of c.args.nodes.0 c.args.nodes.1 c.args.path.now c.args.times.now c.args.steps.now in
      let there = nodes_there c.args.jobs.now trace sure in
      elim c.then-first-count.branch [
        | then-first-count-via-then-first-count w ↦ absurd (omega (arith, there.first_node, w.if-first-count.true, c.count-count.ensures.count))
        | then-first-count-via-else-first-count+then-second-count w ↦ absurd (omega (arith, there.second_node, w.if-second-count.true, c.count-count.ensures.count))
        | then-first-count-via-else-first-count+else-second-count+then-not-clash_on w ↦ absurd (false≢true (sym w.if-not-clash_on.true ∙ w.clash_on.ensures.1 sure.clash))
      ],
)

pub returns-in_default : goal.returns-in_default
returns-in_default c = (
  λ is. absurd (false≢true is),
  λ sure.
      let trace = trace_of c.args.nodes.0 c.args.nodes.1 c.args.path.now c.args.times.now c.args.steps.now in
      let timed = rw c.in_default.is at c.in_ok-table.ensures.none in
      absurd (no_node_timed c.args.jobs.now trace timed.0 (omega (arith, timed.1, c.count-count.ensures.count)) timed.2 sure),
)

pub returns : goal.returns
returns c =
    let jobs = c.args.jobs.now in
    let trace = trace_of c.args.nodes.0 c.args.nodes.1 c.args.path.now c.args.times.now c.args.steps.now in
    let table = c.in-Some.table.items in
    let reports : HoldsTimes table c.args.times.now = rw c.in-Some.is at c.in_ok-table.ensures.reported in
    let listed = subst (λ (ts : List (Option ℕ)). (n : ℕ) → is_some (get_or ts n None) ≡ is_listed jobs n) c.deref.ensures.value
    (c.are_of_listed.ensures.0 c.if-not-are_of_listed.false) in
    sure_by jobs trace table c.in_ok-sure.sure (c.clash_on.ensures.0 c.if-not-clash_on.false) reports listed
    (c.in_ok-sure.ensures ∙ ap (λ (ts : List (Option ℕ)). all_pass jobs (time_in ts) trace.first trace.second [] trace.steps) c.deref-2.ensures.value)
