use Rattle.std.proofs.Common.{ℕ, ◌≡◌, ◌≢◌, ◌<◌, ◌+◌, ◌∙◌, Option, sym, ap, subst, inl, inr, arith}
use Rattle.std.proofs.lemmas.Bool.{cases_lt}
use Rattle.mk_index.specs.Bits.{HasBit}
use Rattle.mk_decide.specs.LeastRaces.{IsFound, IsSettled, IsUpTo, Lowers}
use Rattle.mk_decide.proofs.Finding.{reach_clashes, reach_clashes_back, settled_falling, settled_lower, settled_rising}
use Rattle.mk_decide.proofs.least.with_node.Goals as goal
use Rattle.mk_decide.proofs.least.with_node.Goals.{then-a-b, else-a-b+then-b-a, else-a-b+else-b-a}

pub lesser-least-requires-clause-clash : goal.lesser-least-requires-clause-clash
lesser-least-requires-clause-clash g c =
    reach_clashes c.args.jobs.now c.in-Some.a c.args.b c.requires.shape (λ same. omega (arith, same, c.if-a-b.true))
    ((c.row_of-row.ensures c.in-Some.a).0 c.in-Some.ensures.some.2)

pub lesser-least-requires-then-b-a-clause-clash : goal.lesser-least-requires-then-b-a-clause-clash
lesser-least-requires-then-b-a-clause-clash g c =
    reach_clashes_back c.args.jobs.now c.in-Some.a c.args.b c.requires.shape (λ same. omega (arith, same, c.if-b-a.true))
    ((c.row_of-row.ensures c.in-Some.a).0 c.in-Some.ensures.some.2)

pub loop-a-preserved : goal.loop-a-preserved
loop-a-preserved g c =
    let before = c.loop-a.invariant in
    -- one number more is settled
    let more : (least : Option (ℕ × ℕ)) → Lowers c.loop-a.least least → (c.in-Some.a ≢ c.args.b → IsSettled c.args.jobs.now least c.in-Some.a c.args.b)
    → (k : ℕ) → k < c.in-Some.a + 1 → k ≢ c.args.b → HasBit c.row_of-row.result k → IsSettled c.args.jobs.now least k c.args.b =
    λ least lower here k below other bit. elim (cases_lt k c.in-Some.a) [
      | inl less ↦ elim (cases_lt k c.loop-a.from) [
        | inl past ↦ settled_lower lower (before.settled k past other bit)
        | inr next ↦ absurd (c.in-Some.ensures.between k next less bit)
      ]
      | inr least_so ↦
          let same : c.in-Some.a ≡ k = omega (arith, below, least_so) in
          subst (λ (n : ℕ). n ≢ c.args.b → IsSettled c.args.jobs.now least n c.args.b) same here other
    ] in
    let found : (least : Option (ℕ × ℕ)) → c.if-a-b.least ≡ least → IsFound c.args.jobs.now least → IsFound c.args.jobs.now c.if-a-b.least =
    λ least is race. subst (IsFound c.args.jobs.now) (sym is) race in
    let lower : (least : Option (ℕ × ℕ)) → c.if-a-b.least ≡ least → Lowers c.loop-a.least least → Lowers c.args.found c.if-a-b.least =
    λ least is lowers x y up. subst (λ (o : Option (ℕ × ℕ)). IsUpTo o x y) (sym is) (lowers x y (before.lower x y up)) in
    let settled : (least : Option (ℕ × ℕ)) → c.if-a-b.least ≡ least → Lowers c.loop-a.least least → (c.in-Some.a ≢ c.args.b → IsSettled c.args.jobs.now least c.in-Some.a c.args.b)
    → (k : ℕ) → k < c.in-Some.a + 1 → k ≢ c.args.b → HasBit c.row_of-row.result k → IsSettled c.args.jobs.now c.if-a-b.least k c.args.b =
    λ least is lowers here k below other bit. subst (λ (o : Option (ℕ × ℕ)). IsSettled c.args.jobs.now o k c.args.b) (sym is) (more least lowers here k below other bit) in
    elim c.if-a-b.branch [
      | then-a-b w ↦ record {
        race = found w.lesser-least.result w.least-is w.lesser-least.ensures.race;
        lower = lower w.lesser-least.result w.least-is w.lesser-least.ensures.lower;
        settled = settled w.lesser-least.result w.least-is w.lesser-least.ensures.lower (λ other. settled_rising w.if-a-b.true w.lesser-least.ensures.settled);
        same = ap g.B.Before.jobs w.before-is ∙ w.lesser-least.ensures.keeps ∙ before.same;
      }
      | else-a-b+then-b-a w ↦ record {
        race = found w.lesser-least-then-b-a.result w.least-is w.lesser-least-then-b-a.ensures.race;
        lower = lower w.lesser-least-then-b-a.result w.least-is w.lesser-least-then-b-a.ensures.lower;
        settled = settled w.lesser-least-then-b-a.result w.least-is w.lesser-least-then-b-a.ensures.lower (λ other. settled_falling w.if-b-a.true w.lesser-least-then-b-a.ensures.settled);
        same = ap g.B.Before.jobs w.before-is ∙ w.lesser-least-then-b-a.ensures.keeps ∙ before.same;
      }
      | else-a-b+else-b-a w ↦ record {
        race = found c.loop-a.least w.least-is before.race;
        lower = lower c.loop-a.least w.least-is (λ x y up. up);
        settled = settled c.loop-a.least w.least-is (λ x y up. up) (λ other. absurd (other (omega (arith, w.if-a-b.false, w.if-b-a.false))));
        same = ap g.B.Before.jobs w.before-is ∙ before.same;
      }
    ]

pub returns-clause-settled : goal.returns-clause-settled
returns-clause-settled g c = λ a other reaches.
    let bit : HasBit c.row_of-row.result a = (c.row_of-row.ensures a).1 reaches in
    elim (cases_lt a c.loop-a.from) [
      | inl past ↦ c.loop-a.invariant.settled a past other bit
      | inr next ↦ absurd (c.in_default.ensures.none a next bit)
    ]
