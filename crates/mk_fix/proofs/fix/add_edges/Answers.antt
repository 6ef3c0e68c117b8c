use Rattle.std.proofs.Common.{ℕ, ◌∙◌, ◌∷◌, ◌++◌, [], List, Vec, take, get_or, sym, ap, subst, inl, inr}
use Rattle.std.specs.Global.{Global}
use Rattle.std.proofs.lemmas.Bool.{both_ways}
use Rattle.std.proofs.lemmas.List.{take_more, take_all}
use Rattle.std.proofs.lemmas.List.Elements.{Contains-get_or}
use Rattle.mk_fix.proofs.Musting.{AreGathered, gathered_none, gathered_over, gathered_pushed}
use Rattle.mk_fix.proofs.fix.add_edges.Goals as goal
use Rattle.mk_fix.proofs.fix.add_edges.Goals.{then-not-has_bit+then-not-is_prerequisite+in_ok-push, else-not-has_bit, else-not-has_bit-via-then-not-has_bit+else-not-is_prerequisite, else-not-has_bit-via-else-not-has_bit}

pub loop-a-init : goal.loop-a-init
loop-a-init c = gathered_none c.args.jobs.now c.args.row.now c.args.firsts.now c.args.b c.args.edges.now.items

pub loop-a-preserved : goal.loop-a-preserved
loop-a-preserved c =
    let jobs = c.args.jobs.now in
    let row = c.args.row.now in
    let firsts = c.args.firsts.now in
    let b = c.args.b in
    let i = c.loop-a.a-index in
    let a = get_or firsts i 0 in
    let old = c.args.edges.now.items in
    let new = c.if-not-has_bit.edges.items in
    let more : AreGathered jobs row firsts (take i firsts ++ a ∷ []) b old new = elim c.if-not-has_bit.branch [
      | then-not-has_bit+then-not-is_prerequisite+in_ok-push w ↦
          subst (AreGathered jobs row firsts (take i firsts ++ a ∷ []) b old) (sym (ap (λ (v : Vec (ℕ × ℕ) Global). v.items) w.edges-is ∙ w.in_ok-push.ensures.items))
          (gathered_pushed jobs row firsts (take i firsts) a b old c.loop-a.edges.items c.loop-a.invariant (Contains-get_or firsts i 0 c.loop-a-test.true)
          (λ p. both_ways w.is_prerequisite.result w.if-not-is_prerequisite.true (w.is_prerequisite.ensures.1 p))
          (λ bit. both_ways c.has_bit.result w.if-not-has_bit.true (c.has_bit.ensures.1 bit)))
      | else-not-has_bit w ↦
          subst (AreGathered jobs row firsts (take i firsts ++ a ∷ []) b old) (sym (ap (λ (v : Vec (ℕ × ℕ) Global). v.items) w.edges-is))
          (elim w.else-not-has_bit.branch [
            | else-not-has_bit-via-then-not-has_bit+else-not-is_prerequisite w' ↦
                gathered_over jobs row firsts (take i firsts) a b old c.loop-a.edges.items c.loop-a.invariant (inl (w'.is_prerequisite.ensures.0 w'.if-not-is_prerequisite.false))
            | else-not-has_bit-via-else-not-has_bit w' ↦
                gathered_over jobs row firsts (take i firsts) a b old c.loop-a.edges.items c.loop-a.invariant (inr (c.has_bit.ensures.0 w'.if-not-has_bit.false))
          ])
    ] in
    subst (λ (ns : List ℕ). AreGathered jobs row firsts ns b old new) (sym (take_more firsts i 0 c.loop-a-test.true)) more

pub returns-clause-kept : goal.returns-clause-kept
returns-clause-kept c = c.loop-a.invariant.kept

pub returns-clause-only : goal.returns-clause-only
returns-clause-only c = c.loop-a.invariant.only

pub returns-clause-all : goal.returns-clause-all
returns-clause-all c =
    let whole = subst (λ (ns : List ℕ). AreGathered c.args.jobs.now c.args.row.now c.args.firsts.now ns c.args.b c.args.edges.now.items c.loop-a.edges.items)
    (take_all c.loop-a.a-index c.args.firsts.now c.loop-a-test.false) c.loop-a.invariant in
    whole.all
