use Rattle.std.proofs.Common.{arith}
use Rattle.std.proofs.lemmas.Bool.{false≢true}
use Rattle.mk_jobs.proofs.JobsLemmas.{clash_live}
use Rattle.mk_report.proofs.safe.clash_of.Goals as goal
use Rattle.mk_report.proofs.safe.clash_of.Goals.{then-a-count-via-then-a-count, then-a-count-via-else-a-count+then-b-count}

pub returns-then-a-count-clause-clash : goal.returns-then-a-count-clause-clash
returns-then-a-count-clause-clash c = (
  λ is. absurd (false≢true is),
  λ clash.
      let live = clash_live clash.1 in
      elim c.then-a-count.branch [
        | then-a-count-via-then-a-count w ↦ absurd (omega (arith, live.first_node, w.if-a-count.true, c.count-count.ensures.count))
        | then-a-count-via-else-a-count+then-b-count w ↦ absurd (omega (arith, live.second_node, w.if-b-count.true, c.count-count.ensures.count))
      ],
)
