use Rattle.std.proofs.Common.{ℕ, List, sym, subst, inl, inr, arith}
use Rattle.std.specs.List.{Contains}
use Rattle.std.proofs.lemmas.Bool.{cases_lt}
use Rattle.mk_jobs.proofs.JobsLemmas.{clash_live}
use Rattle.mk_decide.specs.Swept.{AreSwept}
use Rattle.mk_decide.proofs.Sweeping.{unswept}
use Rattle.mk_decide.proofs.neighbours.sweep_all.Goals as goal

pub loop-left-init : goal.loop-left-init
loop-left-init c = record {
  few = omega (arith, c.count-left.ensures.count);
  long = c.requires.long;
  swept = subst (AreSwept c.args.jobs.now c.args.table.now) (sym c.count-left.ensures.count) (unswept c.args.jobs.now c.args.table.now c.requires.clashes);
  pairs = λ a b. (
    λ there. absurd (let none = subst (λ (ps : List (ℕ × ℕ)). Contains ps (a, b)) c.requires.none there in omega (arith, none.1)),
    λ near. absurd (let inside = (clash_live near.1.clash.1).first_node in omega (arith, inside, near.0, c.count-left.ensures.count)),
  );
}

pub loop-left-preserved : goal.loop-left-preserved
loop-left-preserved c =
    let before = c.loop-left.invariant in
    let left = c.loop-left.left in
    record {
      few = omega (arith, before.few);
      long = omega (arith, c.sweep.auto.table, before.long);
      swept = c.in_ok-sweep.ensures.swept;
      pairs = λ a b.
          let put = c.in_ok-sweep.ensures.pairs a b in (
            λ there. elim (put.0 there) [
              | inl old ↦ let near = (before.pairs a b).0 old in let far = near.0 in (omega (arith, far), near.1)
              | inr new ↦ let same = new.0 in (omega (arith, same), new.1)
            ],
            λ near. put.1 (elim (cases_lt a left) [
              | inl below ↦ let far = near.0 in inr (omega (arith, below, far), near.1)
              | inr past ↦ inl ((before.pairs a b).1 (past, near.1))
            ]),
          );
    }

pub returns : goal.returns
returns c = λ a b.
    let all = c.loop-left.invariant.pairs a b in (
      λ there. (all.0 there).1,
      λ near. all.1 (omega (arith, c.loop-left-test.false), near),
    )
