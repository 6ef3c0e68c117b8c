use Rattle.std.proofs.Common.{sym, ap, ◌≡◌, ◌-◌, ◌∙◌, take, inl, inr, arith}
use Rattle.std.proofs.lemmas.Bool.{cases_lt}
use Rattle.std.proofs.lemmas.List.{length-take-le, take-take}
use Rattle.mk_path.specs.Covering.{has_tree}
use Rattle.mk_path.proofs.Folders.{any_inner_found, any_inner_none}
use Rattle.mk_path.proofs.Leaps.{rise_front}
use Rattle.mk_path.proofs.covering.has_inner_folder.Goals as goal

pub returns-in-Ok : goal.returns-in-Ok
returns-in-Ok c =
    let i = c.loop-i.i - 1 in
    let found = sym (c.loop-i.invariant.left i (omega arith)) ∙ c.in-Ok.ensures.found in
    sym (any_inner_found (has_tree c.args.paths.now) c.args.text.now i (omega arith) (omega (arith, c.loop-i.invariant.within)) c.if-text-i-eq47.true found)

pub loop-i-preserved-then-text-i-eq47 : goal.loop-i-preserved-then-text-i-eq47
loop-i-preserved-then-text-i-eq47 c =
    let paths = c.args.paths.now in
    let text = c.args.text.now in
    let i = c.loop-i.i - 1 in
    let kept = c.loop-i.invariant in
    let rest = c.loop-i.rest.now in
    let miss = c.in-Err.miss in
    let long = length-take-le i text (omega (arith, kept.within)) in
    record {
      within = omega (arith, kept.within);
      rise = rise_front miss.count rest c.in-Err.ensures.within kept.rise;
      left = λ k less.
          let text_is = take-take k i text (omega (arith, less)) in
          ap (has_tree (take miss.count rest)) (sym text_is) ∙ c.in-Err.ensures.left k (omega (arith, less, long)) ∙ ap (has_tree rest) text_is ∙ kept.left k (omega (arith, less));
      none = λ k some most below slash. elim (cases_lt k c.loop-i.i) [
        | inl before ↦
            let same : k ≡ i = omega arith in
            ap (λ n. has_tree paths (take n text)) same ∙ sym (kept.left i (omega arith)) ∙ c.in-Err.ensures.missed
        | inr after ↦ kept.none k some after below slash
      ];
      long = λ k more less.
          sym (kept.left k (omega (arith, less))) ∙ ap (has_tree rest) (sym (take-take k i text (omega (arith, less)))) ∙ c.in-Err.ensures.bound k more (omega (arith, less, long));
    }

pub returns : goal.returns
returns c =
    sym (any_inner_none (has_tree c.args.paths.now) c.args.text.now (λ k some less slash. c.loop-i.invariant.none k some (omega arith) less slash))
