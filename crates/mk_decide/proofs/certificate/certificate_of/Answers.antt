use Rattle.std.proofs.Common.{◌≡◌, ◌∙◌, ◌∷◌, ◌++◌, [], ℕ, List, All, get_or, map, ap, ap₂, sym, subst}
use Rattle.std.specs.List.Sorted.{IsStrictlySortedBy}
use Rattle.std.proofs.lemmas.List.{get_or_default, map_push, take_more}
use Rattle.std.proofs.lemmas.List.Elements.{All-push}
use Rattle.mk_jobs.proofs.JobsLemmas.{clash_live}
use Rattle.mk_decide.specs.Chosen.{IsChosen}
use Rattle.mk_proof.specs.Shapes.{ends_of, pair_cmp}
use Rattle.mk_decide.specs.Verdicts.{IsChosenChain}
use Rattle.mk_decide.proofs.Chained.{chosen_ends, front_rises, only_clashes}
use Rattle.mk_decide.proofs.certificate.certificate_of.Goals as goal

pub push_chain-requires-clause-first : goal.push_chain-requires-clause-first
push_chain-requires-clause-first g c = (clash_live (only_clashes c.args.jobs.now c.args.pairs.now c.loop-i.i c.requires.clash c.loop-i-test.true).1.1).first_node

pub push_chain-requires-clause-second : goal.push_chain-requires-clause-second
push_chain-requires-clause-second g c = (clash_live (only_clashes c.args.jobs.now c.args.pairs.now c.loop-i.i c.requires.clash c.loop-i-test.true).1.1).second_node

pub push_chain-requires-clause-rises : goal.push_chain-requires-clause-rises
push_chain-requires-clause-rises g c =
    let p = get_or c.args.pairs.now c.loop-i.i (0, 0) in
    subst (λ (front : List (ℕ × ℕ)). IsStrictlySortedBy pair_cmp (front ++ p ∷ [])) (sym c.loop-i.invariant.ends)
    (front_rises c.args.pairs.now c.loop-i.i p.0 p.1 c.loop-i-test.true (get_or_default c.args.pairs.now c.loop-i.i (0, 0) p c.loop-i-test.true) c.requires.rise)

pub loop-i-preserved : goal.loop-i-preserved
loop-i-preserved g c =
    let before = c.loop-i.invariant in
    let jobs = c.args.jobs.now in
    let old = c.loop-i.chains in
    let p = get_or c.args.pairs.now c.loop-i.i (0, 0) in
    let pushed = c.in_ok-push_chain.ensures.pushed in
    let ends : ends_of pushed.0 ≡ p = chosen_ends jobs p.0 p.1 pushed.0 pushed.2 in
    let one : IsChosenChain jobs pushed.0 = subst (λ (q : ℕ × ℕ). IsChosen jobs q.0 q.1 pushed.0) (sym ends) pushed.2 in
    record {
      ends = ap (map ends_of) pushed.1 ∙ map_push ends_of old pushed.0 ∙ ap₂ (λ xs (q : ℕ × ℕ). xs ++ q ∷ []) before.ends ends
          ∙ sym (take_more c.args.pairs.now c.loop-i.i (0, 0) c.loop-i-test.true);
      chosen = subst (All (IsChosenChain jobs)) (sym pushed.1) (All-push (IsChosenChain jobs) old pushed.0 before.chosen one);
      same = c.in_ok-push_chain.ensures.keeps ∙ before.same;
    }
