use Rattle.std.proofs.Common.{Option, sym, subst, take}
use Rattle.mk_index.specs.declared.index.Found.{Found}
use Rattle.mk_index.specs.Meets.{IsFront}
use Rattle.mk_index.proofs.Overlaps.{front_all, front_below}
use Rattle.mk_index.proofs.index.before.Goals as goal

pub returns-in-None : goal.returns-in-None
returns-in-None c = let numbers = c.args.numbers.now in subst (λ (o : Option Found). IsFront numbers o numbers) (sym c.in-None.is) (front_all numbers)

pub returns-in-Some : goal.returns-in-Some
returns-in-Some c =
    let numbers = c.args.numbers.now in
    let size = c.place_of.result in
    subst (λ (o : Option Found). IsFront numbers o (take size numbers)) (sym c.in-Some.is)
    (front_below numbers c.in-Some.found size c.place_of.ensures.below c.place_of.ensures.rest)
