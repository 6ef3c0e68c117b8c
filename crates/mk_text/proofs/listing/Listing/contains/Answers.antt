use Rattle.std.proofs.Common.{rules}
use Rattle.mk_text.proofs.ListingLines.{has_by_order}
use Rattle.mk_text.proofs.listing.Listing.contains.Goals as goal

pub returns : goal.returns
returns c = let h = has_by_order c.args.self.now c.args.name.now in search rules
