use Rattle.std.proofs.Common.{◌≡◌, arith, ap, subst}
use Rattle.mk_index.specs.Index.{Index, IsWhole}
use Rattle.mk_index.specs.Placed.{ArePlaced}
use Rattle.mk_index.specs.Ups.{number_count}
use Rattle.mk_index.proofs.Placing.{all_placed}
use Rattle.mk_index.proofs.index.Index.all_places.Goals as goal

pub returns-clause-all : goal.returns-clause-all
returns-clause-all c = λ uses is.
    let index = c.args.self.now in
    let whole = subst IsWhole c.self.view_is c.self.invariant in
    let count : c.loop-t.t ≡ number_count index.ups = omega (arith, c.loop-t-test.false, c.loop-t.auto.t-end, c.count-t-end.ensures, c.self.invariant.writers.all, ap (λ (i : Index). number_count i.ups) c.self.view_is) in
    all_placed uses index whole is c.loop-t.places.items (subst (ArePlaced index c.loop-t.places.items) count c.loop-t.invariant)
