use Rattle.std.proofs.Common.{ℕ, ◌<◌, Option, IfSome, sym, subst, inl}
use Rattle.mk_index.specs.Ups.{IsUpOf, here, number_count}
use Rattle.mk_index.proofs.Ascents.{passed_more, up_more}
use Rattle.mk_index.proofs.ups.Ups.rise.Goals as goal

pub loop-t-init : goal.loop-t-init
loop-t-init c =
    let ups = c.args.self.now in
    record {
      up = subst (λ (o : Option ℕ). IsUpOf ups c.in_ok-t.t o) (sym c.in_ok-t.was) here;
      within = subst (λ (o : Option ℕ). IfSome o (λ q. q < number_count ups)) c.in_ok-t.was c.requires;
      passed = λ u up. inl (subst (λ (o : Option ℕ). IsUpOf ups u o) c.in_ok-t.was up);
    }

pub loop-t-preserved : goal.loop-t-preserved
loop-t-preserved c = record {
  up = up_more c.args.self.now c.loop-t.t c.in-Some.u c.args.from c.in-Some.ensures.some c.loop-t.invariant.up;
  within = c.in-Some.ensures.within;
  passed = passed_more c.args.self.now c.loop-t.t c.in-Some.u c.args.limit c.args.from c.in-Some.ensures.some (subst (λ n. c.args.limit < n) c.rank.ensures c.loop-t-test.true) c.loop-t.invariant.passed;
}
