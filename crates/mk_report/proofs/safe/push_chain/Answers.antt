use Rattle.std.proofs.Common.{[], refl, sym, append-nil}
use Rattle.std.proofs.lemmas.Bool.{false≢true}
use Rattle.mk_report.proofs.OrderLines.{unreported_of}
use Rattle.mk_report.proofs.safe.push_chain.Goals as goal

pub returns-in-None : goal.returns-in-None
returns-in-None c = ([], unreported_of c.args.jobs.now c.args.chain.now [] (λ clash. false≢true (c.in-None.ensures.clash.1 clash)) refl, sym (append-nil c.args.out.now.items))
