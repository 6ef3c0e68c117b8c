use Rattle.std.proofs.Common.{arith}
use Rattle.mk_log.proofs.object.hexadecimal.Goals as goal

pub returns-clause-bytes : goal.returns-clause-bytes
returns-clause-bytes c = λ k. let fits = c.type_inv.bytes k in omega arith
