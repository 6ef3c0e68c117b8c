use Rattle.std.proofs.Common.{arith}
use Rattle.mk_index.proofs.SetBits.{set_bits}
use Rattle.mk_index.proofs.bits.set_bit.Goals as goal

pub returns : goal.returns
returns c = λ k. set_bits c.args.row.now c.args.n k (omega arith)
