use Rattle.std.proofs.Common.{◌≡◌, ◌-◌, map, take, inl, inr, arith, sym, subst}
use Rattle.std.proofs.lemmas.Bool.{cases_lt}
use Rattle.std.proofs.lemmas.List.{length-take-le, take-take}
use Rattle.mk_name.specs.Names.{Name}
use Rattle.mk_index.specs.Nearest.{IsTreeAt}
use Rattle.mk_path.proofs.Numbering.{behind}
use Rattle.mk_index.proofs.Finding.{inner_found}
use Rattle.mk_index.proofs.nearest.inner.Goals as goal

pub returns-in-Ok : goal.returns-in-Ok
returns-in-Ok c =
    let i = c.loop-i.i - 1 in
    λ root. inner_found root (map behind c.args.paths.now) c.args.text.now i c.loop-i.i c.in-Ok.u (c.in-Ok.ensures.found root) (omega arith) (omega arith) c.loop-i.invariant.within
    c.if-text-i-eq47.true c.loop-i.invariant.none

pub loop-i-preserved-then-text-i-eq47 : goal.loop-i-preserved-then-text-i-eq47
loop-i-preserved-then-text-i-eq47 c =
    let paths = map behind c.args.paths.now in
    let text = c.args.text.now in
    let i = c.loop-i.i - 1 in
    record {
      within = omega (arith, c.loop-i.invariant.within);
      none = λ v k some most below slash tree. elim (cases_lt k c.loop-i.i) [
        | inl before ↦
            let same : k ≡ i = omega arith in
            c.in-Err.ensures.missed v (subst (λ n. IsTreeAt paths v (take n text)) same tree)
        | inr after ↦ c.loop-i.invariant.none v k some after below slash tree
      ];
      long = λ v k more less tree.
          let long = length-take-le i text (omega (arith, c.loop-i.invariant.within)) in
          c.in-Err.ensures.bound v k more (omega (arith, less, long)) (subst (λ (x : Name). IsTreeAt paths v x) (sym (take-take k i text (omega (arith, less)))) tree);
    }
