use Rattle.mk_index.proofs.SetBits.{bit_found}
use Rattle.mk_index.proofs.bits.has_bit.Goals as goal

pub returns : goal.returns
returns c = bit_found c.args.row.now c.args.n
