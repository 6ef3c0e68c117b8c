use Rattle.std.proofs.Common.{ℕ, ◌≡◌, ◌<◌, ◌∙◌, Vec, ◌+◌, ap, get_or, length, sym, subst, inl, arith}
use Rattle.std.specs.Global.{Global}
use Rattle.std.proofs.lemmas.Bool.{both_ways}
use Rattle.mk_jobs.specs.Jobs.{Jobs, Before, node_count}
use Rattle.mk_jobs.proofs.JobsLemmas.{clash_live}
use Rattle.mk_decide.proofs.Chained.{pair_clashes}
use Rattle.mk_decide.proofs.Finding.{race_is}
use Rattle.mk_fix.proofs.Racing.{AreRacesSoFar, all_are, none_so_far, one_more, passed_over}
use Rattle.mk_fix.proofs.races.races_among.Goals as goal
use Rattle.mk_fix.proofs.races.races_among.Goals.{then-not-before+in_ok-push, else-not-before}

pub loop-i-init : goal.loop-i-init
loop-i-init g c = record {
  so_far = subst (AreRacesSoFar c.args._jobs.now c.args.pairs.now 0) (sym c.new-races.ensures.items) (none_so_far c.args._jobs.now c.args.pairs.now);
  same = c.requires.same;
}

pub before-requires-clause-first : goal.before-requires-clause-first
before-requires-clause-first g c =
    let p = get_or c.args.pairs.now c.loop-i.i (0, 0) in
    subst (λ (jobs : Jobs). p.0 < node_count jobs) (sym c.loop-i.invariant.same) (clash_live (pair_clashes c.args._jobs.now c.args.pairs.now c.loop-i.i c.requires.pairs c.loop-i-test.true).1.1).first_node

pub before-requires-clause-second : goal.before-requires-clause-second
before-requires-clause-second g c =
    let p = get_or c.args.pairs.now c.loop-i.i (0, 0) in
    subst (λ (jobs : Jobs). p.1 < node_count jobs) (sym c.loop-i.invariant.same) (clash_live (pair_clashes c.args._jobs.now c.args.pairs.now c.loop-i.i c.requires.pairs c.loop-i-test.true).1.1).second_node

pub loop-i-preserved : goal.loop-i-preserved
loop-i-preserved g c =
    let jobs = c.args._jobs.now in
    let pairs = c.args.pairs.now in
    let i = c.loop-i.i in
    let p = get_or pairs i (0, 0) in
    let clash = pair_clashes jobs pairs i c.requires.pairs c.loop-i-test.true in
    let old = c.loop-i.invariant.so_far in
    let exact = c.before-in-loop-i.ensures.exact in
    let next : AreRacesSoFar jobs pairs (i + 1) c.if-not-before.races.items = elim c.if-not-before.branch [
      | then-not-before+in_ok-push w ↦
          let race = race_is jobs p.0 p.1 c.requires.shape clash.0 clash.1
          (λ before. both_ways c.before-in-loop-i.result w.if-not-before.true (exact.1 (subst (λ (js : Jobs). Before js p.0 p.1) (sym c.loop-i.invariant.same) before))) in
          subst (AreRacesSoFar jobs pairs (i + 1)) (sym (ap (λ (v : Vec (ℕ × ℕ) Global). v.items) w.races-is ∙ w.in_ok-push.ensures.items)) (one_more jobs pairs c.loop-i.races.items i c.requires.pairs.rise old c.loop-i-test.true race)
      | else-not-before w ↦
          subst (AreRacesSoFar jobs pairs (i + 1)) (sym (ap (λ (v : Vec (ℕ × ℕ) Global). v.items) w.races-is))
          (passed_over jobs pairs c.loop-i.races.items i old (λ race. race.apart (inl (subst (λ (js : Jobs). Before js p.0 p.1) c.loop-i.invariant.same (exact.0 w.if-not-before.false)))))
    ] in
    record { so_far = next; same = c.before-in-loop-i.ensures.keeps ∙ c.loop-i.invariant.same }

pub returns-clause-races : goal.returns-clause-races
returns-clause-races g c =
    let jobs = c.args._jobs.now in
    let end : c.loop-i.i ≡ length c.args.pairs.now = let least = c.loop-i-test.false in let most = c.loop-i.auto.i-end in omega (arith, least, most) in
    all_are jobs c.args.pairs.now c.loop-i.races.items c.requires.pairs
    (subst (λ (n : ℕ). AreRacesSoFar jobs c.args.pairs.now n c.loop-i.races.items) end c.loop-i.invariant.so_far)
