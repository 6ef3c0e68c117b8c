use Rattle.std.proofs.Common.{rules}
use Rattle.mk_due.proofs.Numbering.{has_number}
use Rattle.mk_due.proofs.numbers.is_among.Goals as goal

pub returns : goal.returns
returns c = let h = has_number c.args.numbers.now.keys c.args.number in search rules
