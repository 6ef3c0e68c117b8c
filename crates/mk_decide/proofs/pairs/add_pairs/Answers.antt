use Rattle.std.proofs.Common.{ℕ, ◌≡◌, ◌≢◌, ◌<◌, ◌+◌, ◌∙◌, ◌∷◌, ◌++◌, [], List, sym, ap, subst, inl, inr, arith}
use Rattle.std.proofs.lemmas.Bool.{cases_lt}
use Rattle.mk_index.specs.Bits.{HasBit}
use Rattle.mk_decide.specs.Pairs.{Holds, OnlyClashing}
use Rattle.mk_decide.proofs.Finding.{reach_clashes, reach_clashes_back}
use Rattle.mk_decide.proofs.Paired.{clash_pushed, held_falling, held_pushed, held_rising}
use Rattle.mk_decide.proofs.pairs.add_pairs.Goals as goal
use Rattle.mk_decide.proofs.pairs.add_pairs.Goals.{then-a-b+in_ok-push, else-a-b+then-b-a+in_ok-push-2, else-a-b+else-b-a}

pub loop-a-preserved : goal.loop-a-preserved
loop-a-preserved c =
    let before = c.loop-a.invariant in
    let old = c.loop-a.pairs.items in
    let a = c.in-Some.a in
    let b = c.args.b in
    let reaches = (c.row_of-row.ensures a).0 c.in-Some.ensures.some.2 in
    -- the pairs of one number more
    let more : (new : List (ℕ × ℕ)) → ((x y : ℕ) → Holds old x y → Holds new x y) → (a ≢ b → Holds new a b)
    → (k : ℕ) → k < a + 1 → k ≢ b → HasBit c.row_of-row.result k → Holds new k b =
    λ new kept here k below other bit. elim (cases_lt k a) [
      | inl less ↦ elim (cases_lt k c.loop-a.from) [
        | inl past ↦ kept k b (before.added k past other bit)
        | inr next ↦ absurd (c.in-Some.ensures.between k next less bit)
      ]
      | inr least_so ↦
          let same : a ≡ k = omega (arith, below, least_so) in
          subst (λ (n : ℕ). n ≢ b → Holds new n b) same here other
    ] in
    let result : (new : List (ℕ × ℕ)) → c.if-a-b.pairs.items ≡ new → OnlyClashing c.args.jobs.now new → ((x y : ℕ) → Holds old x y → Holds new x y) → (a ≢ b → Holds new a b)
    → OnlyClashing c.args.jobs.now c.if-a-b.pairs.items × ((x y : ℕ) → Holds c.args.pairs.now.items x y → Holds c.if-a-b.pairs.items x y)
    × ((k : ℕ) → k < a + 1 → k ≢ b → HasBit c.row_of-row.result k → Holds c.if-a-b.pairs.items k b) =
    λ new is only kept here. (
      subst (OnlyClashing c.args.jobs.now) (sym is) only,
      λ x y held. subst (λ (ps : List (ℕ × ℕ)). Holds ps x y) (sym is) (kept x y (before.kept x y held)),
      λ k below other bit. subst (λ (ps : List (ℕ × ℕ)). Holds ps k b) (sym is) (more new kept here k below other bit),
    ) in
    elim c.if-a-b.branch [
      | then-a-b+in_ok-push w ↦
          let is = ap (λ v. v.items) w.pairs-is ∙ w.in_ok-push.ensures.items in
          let clash = reach_clashes c.args.jobs.now a b c.requires.shape (λ same. omega (arith, same, w.if-a-b.true)) reaches in
          let r = result (old ++ (a, b) ∷ []) is (clash_pushed old a b before.clash w.if-a-b.true clash) (held_pushed old (a, b)) (λ other. held_rising old a b w.if-a-b.true) in
          record { clash = r.0; kept = r.1; added = r.2 }
      | else-a-b+then-b-a+in_ok-push-2 w ↦
          let is = ap (λ v. v.items) w.pairs-is ∙ w.in_ok-push-2.ensures.items in
          let clash = reach_clashes_back c.args.jobs.now a b c.requires.shape (λ same. omega (arith, same, w.if-b-a.true)) reaches in
          let r = result (old ++ (b, a) ∷ []) is (clash_pushed old b a before.clash w.if-b-a.true clash) (held_pushed old (b, a)) (λ other. held_falling old a b w.if-b-a.true) in
          record { clash = r.0; kept = r.1; added = r.2 }
      | else-a-b+else-b-a w ↦
          let r = result old (ap (λ v. v.items) w.pairs-is) before.clash (λ x y held. held) (λ other. absurd (other (omega (arith, w.if-a-b.false, w.if-b-a.false)))) in
          record { clash = r.0; kept = r.1; added = r.2 }
    ]

pub returns-clause-added : goal.returns-clause-added
returns-clause-added c = λ a other reaches.
    let bit : HasBit c.row_of-row.result a = (c.row_of-row.ensures a).1 reaches in
    elim (cases_lt a c.loop-a.from) [
      | inl past ↦ c.loop-a.invariant.added a past other bit
      | inr next ↦ absurd (c.in_default.ensures.none a next bit)
    ]
