use Rattle.std.proofs.Common.{◌+◌, List, subst, sym}
use Rattle.mk_index.specs.Placed.{ArePlaced}
use Rattle.mk_index.specs.declared.index.Place.{Place}
use Rattle.mk_index.proofs.Placing.{nowhere, placed_more, placed_same}
use Rattle.mk_index.proofs.index.Index.add_place.Goals as goal

pub returns-in_ok-push : goal.returns-in_ok-push
returns-in_ok-push c =
    subst (λ (places : List Place). ArePlaced c.args.self.now places (c.args.t + 1)) (sym c.in_ok-push.ensures.items)
    (placed_more c.args.self.now c.args.places.now.items c.in-Some.place c.args.t c.requires.before c.in-Some.ensures.some.0 c.in-Some.ensures.some.1)

pub returns-in_default : goal.returns-in_default
returns-in_default c = placed_same c.args.self.now c.args.places.now.items c.args.t c.requires.before (nowhere c.args.self.now c.args.t c.place.result c.place.ensures.none c.in_default.not-Some)
