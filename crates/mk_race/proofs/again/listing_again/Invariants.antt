use Rattle.std.proofs.Common.{◌≡◌}
use Rattle.mk_text.specs.Listing.{put_among}
use Rattle.mk_race.specs.Again.{product_names}
use Rattle.mk_race.proofs.again.listing_again.Given as goal

-- the products so far are listed too
abbrev pub invariant-loop-n : goal.invariant-loop-n
invariant-loop-n l = l.again ≡ put_among l.listing (product_names l.jobs l.n)
