use Rattle.std.proofs.Common.{◌∙◌, arith, sym}
use Rattle.std.proofs.lemmas.Bool.{le-ltb}
use Rattle.mk_report.proofs.PastTheEnd.{no_file}
use Rattle.mk_report.proofs.adding.makes_own.Goals as goal

pub returns-else-n-count : goal.returns-else-n-count
returns-else-n-count c =
    le-ltb c.args.n c.count.result c.if-n-count.false ∙ sym (no_file c.args.jobs.now c.args.n (omega (arith, c.if-n-count.false, c.count.ensures.count)))
