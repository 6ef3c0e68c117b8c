use Rattle.std.proofs.Common.{◌+◌, ◌-◌, ◌/◌, ◌≡◌, ◌++◌, ap, sym, take, drop, ◌∙◌, inl, inr, arith}
use Rattle.std.proofs.Math.Seq.{take-add}
use Rattle.std.proofs.lemmas.Bool.{both_ways, cases_lt}
use Rattle.mk_name.proofs.Names.{name_is_exact}
use Rattle.mk_name.specs.Names.{same_name}
use Rattle.mk_path.proofs.Between.{same_range}
use Rattle.mk_path.proofs.covering.common.Goals as goal

pub loop-low-preserved-then-eq : goal.loop-low-preserved-then-eq
loop-low-preserved-then-eq c =
    let low = c.loop-low.low in
    let middle = c.loop-low.high - (c.loop-low.high - low) / 2 in
    let more = middle - low in
    let part = take more (drop low c.args.first.now) in
    let other = take more (drop low c.args.second.now) in
    let longer : middle ≡ low + more = omega (arith, c.loop-low.invariant.order) in
    let parts : part ≡ other = name_is_exact.equal part other (sym c.eq.ensures ∙ c.if-eq.true) in
    record {
      order = omega arith;
      first = c.loop-low.invariant.first;
      second = c.loop-low.invariant.second;
      same = ap (λ k. take k c.args.first.now) longer ∙ take-add low more c.args.first.now
          ∙ ap (λ z. z ++ part) c.loop-low.invariant.same ∙ ap (λ z. take low c.args.second.now ++ z) parts
          ∙ sym (take-add low more c.args.second.now) ∙ ap (λ k. take k c.args.second.now) (sym longer);
      bound = c.loop-low.invariant.bound;
    }

pub loop-low-preserved : goal.loop-low-preserved
loop-low-preserved c =
    let low = c.loop-low.low in
    let middle = c.loop-low.high - (c.loop-low.high - low) / 2 in
    let part = take (middle - low) (drop low c.args.first.now) in
    let other = take (middle - low) (drop low c.args.second.now) in
    record {
      order = omega (arith, c.loop-low-test.true);
      first = omega (arith, c.loop-low.invariant.first);
      second = omega (arith, c.loop-low.invariant.second);
      same = c.loop-low.invariant.same;
      bound = λ k first second same. elim (cases_lt k middle) [
        | inl less ↦ omega arith
        | inr more ↦ absurd (both_ways (same_name part other) (sym c.eq.ensures ∙ c.if-eq.false)
            (ap (λ z. same_name z other) (same_range low (middle - low) k c.args.first.now c.args.second.now (omega (arith, more, c.loop-low-test.true)) same) ∙ name_is_exact.itself other))
      ];
    }
