use Rattle.mk_text.proofs.Ordered.{has-in_order}
use Rattle.mk_text.proofs.listing.listed_in_any_order.Goals as goal

pub returns : goal.returns
returns c = has-in_order
