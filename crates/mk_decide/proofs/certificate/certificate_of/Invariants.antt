use Rattle.std.proofs.Common.{◌≡◌, All, map, take}
use Rattle.mk_proof.specs.Shapes.{ends_of}
use Rattle.mk_decide.specs.Verdicts.{IsChosenChain}
use Rattle.mk_decide.proofs.certificate.certificate_of.Given as goal

-- the chains so far are those of the pairs so far; the answers are about these jobs
abbrev pub invariant-loop-i : goal.invariant-loop-i
invariant-loop-i g l = record {
  ends : map ends_of l.chains ≡ take l.i l.pairs;
  chosen : All (IsChosenChain l.jobs) l.chains;
  same : g.B.Before.jobs l.before ≡ l.jobs;
}
