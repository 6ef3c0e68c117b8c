use Rattle.mk_decide.proofs.Certifying.{chains_certify}
use Rattle.mk_decide.proofs.Chained.{only_clashing}
use Rattle.mk_decide.proofs.Deciding.{ordered_free}
use Rattle.mk_decide.proofs.decision.verdict_of.Goals as goal

pub returns-clause-answer : goal.returns-clause-answer
returns-clause-answer g c = record {
  race_free = ordered_free c.args.jobs.now c.args.pairs.now c.requires.pairs c.in_default.ensures.none;
  certificate = chains_certify c.args.jobs.now c.args.pairs.now c.in_ok-chains.chains c.requires.shape c.requires.pairs c.in_ok-chains.ensures.chains;
  pairs = c.args.pairs.now;
  clash = c.requires.pairs;
  chains_are = c.in_ok-chains.ensures.chains;
}

pub certificate_of-requires-clause-clash : goal.certificate_of-requires-clause-clash
certificate_of-requires-clause-clash g c = only_clashing c.requires.pairs
