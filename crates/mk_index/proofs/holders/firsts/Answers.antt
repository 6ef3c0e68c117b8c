use Rattle.std.proofs.Common.{ℕ, ◌≡◌, ◌-◌, ◌∙◌, List, take, drop, ap, subst, arith}
use Rattle.mk_index.specs.Holders.{AreFirsts}
use Rattle.mk_index.proofs.Holding.{begun_more, firsts_more}
use Rattle.mk_index.proofs.holders.firsts.Goals as goal

pub loop-t-preserved : goal.loop-t-preserved
loop-t-preserved c =
    let pairs = c.args.pairs.now in
    let start = c.loop-t.start in
    let end = c.run_end-end.result in
    let invariant = c.loop-t.invariant in
    record {
      nodes = invariant.nodes;
      done = firsts_more pairs c.requires.rise start end c.loop-t.t invariant.begun c.run_end-end.ensures c.loop-t.table c.push_row.new.self _ invariant.done
          (ap (λ (ns : List ℕ). take (end - start) (drop start ns)) (c.deref.ensures.value ∙ invariant.nodes)) c.in_ok-push_row.ensures.put;
      begun = begun_more pairs c.requires.rise start end c.loop-t.t invariant.begun c.run_end-end.ensures;
    }

pub returns : goal.returns
returns c =
    let all : c.loop-t.t ≡ c.args.count = omega (arith, c.loop-t-test.false, c.loop-t.auto.t-end) in
    subst (λ t. AreFirsts c.args.pairs.now t c.loop-t.table) all c.loop-t.invariant.done
