use Rattle.std.proofs.Common.{◌<◌, ◌↔◌, ◌⊎◌, List, ℕ, All, sym, subst}
use Rattle.mk_index.specs.Bits.{HasBit}
use Rattle.mk_index.specs.Index.{Index, IsIndexed}
use Rattle.mk_index.specs.Ups.{IsHeldOver, number_count}
use Rattle.mk_index.proofs.Reaching.{marked_is}
use Rattle.mk_index.proofs.index.Index.mark_reaching.Goals as goal

pub mark_over-requires-clause-mine : goal.mark_over-requires-clause-mine
mark_over-requires-clause-mine c = subst (All (λ q. q < number_count c.self.inside.ups)) (sym c.row-reads.ensures) (c.self.invariant.reads c.args.b).within

pub mark_over-requires-2-clause-mine : goal.mark_over-requires-2-clause-mine
mark_over-requires-2-clause-mine c = subst (All (λ q. q < number_count c.self.inside.ups)) (sym c.row-writes.ensures) (c.self.invariant.writes c.args.b).within

pub mark_over-requires-3-clause-mine : goal.mark_over-requires-3-clause-mine
mark_over-requires-3-clause-mine c = subst (All (λ q. q < number_count c.self.inside.ups)) (sym c.row-writes.ensures) (c.self.invariant.writes c.args.b).within

pub returns : goal.returns
returns c =
    let here = c.self.inside in
    let index : Index = record { reads = here.reads; writes = here.writes; ups = here.ups; writers = here.writers; readers = here.readers } in
    let first = c.mark_over.new.row in
    let second = c.mark_over-2.new.row in
    let new = c.mark_over-3.new.row in
    record {
      marked = λ uses a is. marked_is uses index c.self.invariant (subst (IsIndexed uses) (sym c.self.view_is) is) a c.args.b c.args.row.now first second new
          (subst (λ (mine : List ℕ). HasBit first a ↔ (HasBit c.args.row.now a ⊎ IsHeldOver here.ups here.writers mine a)) c.row-reads.ensures (c.mark_over.ensures a))
          (subst (λ (mine : List ℕ). HasBit second a ↔ (HasBit first a ⊎ IsHeldOver here.ups here.writers mine a)) c.row-writes.ensures (c.mark_over-2.ensures a))
          (subst (λ (mine : List ℕ). HasBit new a ↔ (HasBit second a ⊎ IsHeldOver here.ups here.readers mine a)) c.row-writes.ensures (c.mark_over-3.ensures a));
    }
