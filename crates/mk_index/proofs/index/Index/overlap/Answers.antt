use Rattle.std.proofs.Common.{[]}
use Rattle.mk_index.specs.Meets.{facing}
use Rattle.mk_index.proofs.Overlaps.{least_overlap, no_overlap, place_within}
use Rattle.mk_index.proofs.index.Index.overlap.Goals as goal

pub returns-in-None-clause-none : goal.returns-in-None-clause-none
returns-in-None-clause-none c =
    let index = c.args.self.now in
    let least = c.in-None.ensures.least (facing index c.args.a c.args.b []) (c.under-best.ensures.least [] (λ o none. none)) in
    λ uses o is. no_overlap uses index c.count-count.ensures.whole is c.args.a c.args.b o least

pub returns-in-Some-clause-some : goal.returns-in-Some-clause-some
returns-in-Some-clause-some c =
    let index = c.args.self.now in
    let least = c.in-Some.ensures.least (facing index c.args.a c.args.b []) (c.under-best.ensures.least [] (λ o none. none)) in
    λ uses is. least_overlap uses index c.count-count.ensures.whole is c.args.a c.args.b c.in-Some.found least c.in-Some.ensures.stands

pub returns-in-Some-clause-within : goal.returns-in-Some-clause-within
returns-in-Some-clause-within c =
    λ uses is. place_within uses c.args.self.now c.count-count.ensures.whole is c.in-Some.found c.in-Some.ensures.stands
