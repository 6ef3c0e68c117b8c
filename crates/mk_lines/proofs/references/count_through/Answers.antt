use Rattle.mk_lines.proofs.Outsides.{within_found, within_none}
use Rattle.mk_lines.proofs.references.count_through.Goals as goal

pub returns-in-Some-clause-rest : goal.returns-in-Some-clause-rest
returns-in-Some-clause-rest c = λ test. within_found test c.args.closing c.args.text.now c.in-Some.end c.in-Some.ensures

pub returns-in-None-clause-rest : goal.returns-in-None-clause-rest
returns-in-None-clause-rest c = λ test. within_none test c.args.closing c.args.text.now c.in-None.ensures
