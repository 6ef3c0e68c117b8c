use Rattle.std.proofs.Common.{ℕ, ◌≡◌, ◌<◌, ◌↔◌, ◌⊎◌, ◌+◌, ◌∙◌, ◌∷◌, ◌++◌, [], List, sym, ap, subst, inl, inr}
use Rattle.std.specs.List.{Contains}
use Rattle.std.proofs.lemmas.Bool.{both_ways, cases_lt}
use Rattle.mk_index.specs.Bits.{HasBit}
use Rattle.mk_decide.proofs.Sweeping.{alone_passed, alone_pushed}
use Rattle.mk_decide.proofs.neighbours.push_alone.Goals as goal
use Rattle.mk_decide.proofs.neighbours.push_alone.Goals.{then-not-has_bit+in_ok-push, else-not-has_bit}

pub loop-b-preserved : goal.loop-b-preserved
loop-b-preserved c =
    let old = c.args.pairs.now.items in
    let pairs = c.loop-b.pairs.items in
    let row = c.args.row.now in
    let between = c.args.between.now in
    let a = c.args.a in
    let n = c.in-Some.b in
    let some = c.in-Some.ensures.some in
    let is : (ps : List (ℕ × ℕ)) → c.if-not-has_bit.pairs.items ≡ ps → ((x y : ℕ) → Contains ps (x, y) ↔ (Contains old (x, y) ⊎ ((x ≡ a) × (y < n + 1) × HasBit row y × ¬ HasBit between y)))
    → (x y : ℕ) → Contains c.if-not-has_bit.pairs.items (x, y) ↔ (Contains old (x, y) ⊎ ((x ≡ a) × (y < n + 1) × HasBit row y × ¬ HasBit between y)) =
    λ ps same there x y. subst (λ (qs : List (ℕ × ℕ)). Contains qs (x, y) ↔ (Contains old (x, y) ⊎ ((x ≡ a) × (y < n + 1) × HasBit row y × ¬ HasBit between y))) (sym same) (there x y) in
    elim c.if-not-has_bit.branch [
      | then-not-has_bit+in_ok-push w ↦ is (pairs ++ (a, n) ∷ []) (ap (λ v. v.items) w.pairs-is ∙ w.in_ok-push.ensures.items)
          (alone_pushed old pairs row between a c.loop-b.from n some.2 c.in-Some.ensures.between some.0 c.loop-b.invariant
          (λ bit. both_ways c.has_bit.result w.if-not-has_bit.true (c.has_bit.ensures.1 bit)))
      | else-not-has_bit w ↦ is pairs (ap (λ v. v.items) w.pairs-is)
          (alone_passed old pairs row between a c.loop-b.from n some.2 c.in-Some.ensures.between some.0 c.loop-b.invariant (c.has_bit.ensures.0 w.if-not-has_bit.false))
    ]

pub returns : goal.returns
returns c = λ x y. (
  λ there. elim ((c.loop-b.invariant x y).0 there) [ inl before ↦ inl before | inr new ↦ inr (new.0, new.2, new.3) ],
  λ has. (c.loop-b.invariant x y).1 (elim has [
    | inl before ↦ inl before
    | inr new ↦ elim (cases_lt y c.loop-b.from) [
      | inl below ↦ inr (new.0, below, new.1, new.2)
      | inr past ↦ absurd (c.in_default.ensures.none y past new.1)
    ]
  ]),
)
