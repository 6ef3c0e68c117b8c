use Rattle.mk_race.proofs.Replanned.{product_more}
use Rattle.mk_race.proofs.again.listing_again.Goals as goal

pub loop-n-preserved : goal.loop-n-preserved
loop-n-preserved c =
    product_more c.args.listing.now c.loop-n.again _ c.args.jobs.now c.loop-n.n c.loop-n.invariant c.in_ok-add_product.ensures
