use Rattle.std.proofs.Common.{[], refl, sym, append-nil}
use Rattle.std.proofs.lemmas.Bool.{false≢true}
use Rattle.mk_report.proofs.FixLines.{fix_left_out}
use Rattle.mk_report.proofs.fixes.push_fix_line.Goals as goal

pub returns-in-None : goal.returns-in-None
returns-in-None c = ([], fix_left_out c.args.form c.args.jobs.now c.args.edge [] (λ clash. false≢true (c.in-None.ensures.clash.1 clash)) refl, sym (append-nil c.args.out.now.items))
