use Rattle.std.proofs.Common.{ℕ, ◌≡◌, ◌≢◌, ◌∙◌, subst, inl, inr, arith}
use Rattle.std.proofs.lemmas.Bool.{cases_lt}
use Rattle.mk_index.specs.Uses.{Reaches}
use Rattle.mk_jobs.specs.Reaching.{uses_of}
use Rattle.mk_decide.specs.LeastRaces.{IsSettled}
use Rattle.mk_decide.proofs.Finding.{AllSettled, found_least, found_none, settled_lower}
use Rattle.mk_decide.proofs.least.least_race.Goals as goal

pub loop-b-preserved : goal.loop-b-preserved
loop-b-preserved g c = record {
  race = c.with_node-found.ensures.race;
  settled = λ a b below other reaches. elim (cases_lt b c.loop-b.b) [
    | inl before ↦ settled_lower c.with_node-found.ensures.lower (c.loop-b.invariant.settled a b before other reaches)
    | inr past ↦
        let here : c.loop-b.b ≡ b = omega (arith, past, below) in
        subst (λ (k : ℕ). a ≢ k → Reaches (uses_of c.args.jobs.now) a k → IsSettled c.args.jobs.now c.with_node-found.result a k) here (c.with_node-found.ensures.settled a) other reaches
  ];
  same = c.with_node-found.ensures.keeps ∙ c.loop-b.invariant.same;
}

pub returns-clause-free : goal.returns-clause-free
returns-clause-free g c =
    let all : AllSettled c.args.jobs.now c.loop-b.found = λ a b below other reaches. c.loop-b.invariant.settled a b (omega (arith, below, c.loop-b-test.false, c.count-count.ensures.count)) other reaches in
    found_none c.args.jobs.now c.loop-b.found c.count-count.ensures.shape c.loop-b.invariant.race all

pub returns-clause-least : goal.returns-clause-least
returns-clause-least g c =
    let all : AllSettled c.args.jobs.now c.loop-b.found = λ a b below other reaches. c.loop-b.invariant.settled a b (omega (arith, below, c.loop-b-test.false, c.count-count.ensures.count)) other reaches in
    found_least c.args.jobs.now c.loop-b.found c.count-count.ensures.shape c.loop-b.invariant.race all
