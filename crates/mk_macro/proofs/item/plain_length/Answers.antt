use Rattle.mk_macro.proofs.Items.{plain_front, plain_inside}
use Rattle.mk_macro.proofs.item.plain_length.Goals as goal

pub returns-clause-within : goal.returns-clause-within
returns-clause-within c = rw c.unwrap_or.ensures (plain_inside c.args.text.now c.memchr.result c.memchr.ensures)

pub returns-clause-items : goal.returns-clause-items
returns-clause-items c = rw c.unwrap_or.ensures (plain_front c.args.text.now c.memchr.result c.memchr.ensures)
