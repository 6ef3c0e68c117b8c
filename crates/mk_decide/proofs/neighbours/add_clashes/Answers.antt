use Rattle.std.proofs.Common.{ℕ, ◌≡◌, ◌≢◌, ◌<◌, ◌*◌, ◌+◌, ◌↔◌, ◌⊎◌, List, length, sym, subst, inl, inr, arith, mul_comm}
use Rattle.std.proofs.lemmas.Bool.{cases_lt}
use Rattle.mk_index.specs.Bits.{HasBit}
use Rattle.mk_jobs.specs.Jobs.{Clash, node_count}
use Rattle.mk_decide.specs.Swept.{HasClashes, HasPair, HoldsPair, cells, width}
use Rattle.mk_decide.proofs.Finding.{reach_clashes, reach_clashes_back}
use Rattle.mk_decide.proofs.Sweeping.{held_falling_pair, held_rising_pair, pair_set}
use Rattle.mk_decide.proofs.neighbours.add_clashes.Goals as goal
use Rattle.mk_decide.proofs.neighbours.add_clashes.Goals.{then-a-b, else-a-b+then-b-a, else-a-b+else-b-a}

pub loop-a-preserved : goal.loop-a-preserved
loop-a-preserved c =
    let before = c.loop-a.invariant in
    let jobs = c.args.jobs.now in
    let old = c.loop-a.table in
    let a = c.in-Some.a in
    let b = c.args.b in
    let reaches = (c.row_of-row.ensures a).0 c.in-Some.ensures.some.2 in
    -- the pairs of one number more
    let more : (new : List ℕ) → ((x y : ℕ) → HasPair old x y → HasPair new x y) → (a ≢ b → HoldsPair new a b)
    → (k : ℕ) → k < a + 1 → k ≢ b → HasBit c.row_of-row.result k → HoldsPair new k b =
    λ new kept here k below other bit. elim (cases_lt k a) [
      | inl less ↦ elim (cases_lt k c.loop-a.from) [
        | inl past ↦ let held = before.added k past other bit in record { rising = λ l. kept k b (held.rising l); falling = λ l. kept b k (held.falling l) }
        | inr next ↦ absurd (c.in-Some.ensures.between k next less bit)
      ]
      | inr least_so ↦
          let same : a ≡ k = omega (arith, below, least_so) in
          subst (λ (n : ℕ). n ≢ b → HoldsPair new n b) same here other
    ] in
    -- a pair x, y that clashes is set
    let set : (new : List ℕ) (x y : ℕ) → x < y → y < cells → Clash jobs x y → ((k : ℕ) → HasBit new k ↔ (HasBit old k ⊎ (k ≡ cells * x + y)))
    → HasClashes jobs new × ((u v : ℕ) → HasPair old u v → HasPair new u v) × HasPair new x y =
    λ new x y less inside clash bits. (
      λ u v has. elim ((pair_set old new x y u v inside bits).0 has) [
        | inl there ↦ before.clash u v there
        | inr one ↦ subst (λ (p : ℕ × ℕ). (p.0 < p.1) × Clash jobs p.0 p.1) (λ i. (sym one.0 i, sym one.1 i)) (less, clash)
      ],
      λ u v has. (pair_set old new x y u v inside bits).1 (inl has),
      (pair_set old new x y x y inside bits).1 (inr (λ i. x, λ i. y)),
    ) in
    let small : (n : ℕ) → n < node_count jobs → n < cells = λ n below. omega (arith, below, c.requires.shape.few) in
    let long : length c.if-a-b.table ≡ node_count jobs * width = omega (arith, c.if-a-b.auto.table, before.long) in
    let wide : a < cells = omega (arith, c.in-Some.ensures.some.1) in
    let result : (new : List ℕ) → c.if-a-b.table ≡ new → HasClashes jobs new → ((x y : ℕ) → HasPair old x y → HasPair new x y) → (a ≢ b → HoldsPair new a b)
    → HasClashes jobs c.if-a-b.table × ((x y : ℕ) → HasPair c.args.table.now x y → HasPair c.if-a-b.table x y)
    × ((k : ℕ) → k < a + 1 → k ≢ b → HasBit c.row_of-row.result k → HoldsPair c.if-a-b.table k b) =
    λ new is only kept here. (
      subst (HasClashes jobs) (sym is) only,
      λ x y held. subst (λ (ts : List ℕ). HasPair ts x y) (sym is) (kept x y (before.kept x y held)),
      λ k below other bit. subst (λ (ts : List ℕ). HoldsPair ts k b) (sym is) (more new kept here k below other bit),
    ) in
    elim c.if-a-b.branch [
      | then-a-b w ↦
          let clash = reach_clashes jobs a b c.requires.shape (λ same. omega (arith, same, w.if-a-b.true)) reaches in
          let s = set w.set_bit.new.row a b w.if-a-b.true (small b c.requires.node) clash
          (λ k. subst (λ (n : ℕ). HasBit w.set_bit.new.row k ↔ (HasBit old k ⊎ (k ≡ n + b))) (mul_comm a cells) (w.set_bit.ensures k)) in
          let r = result w.set_bit.new.row w.table-is s.0 s.1 (λ other. held_rising_pair w.set_bit.new.row a b w.if-a-b.true s.2) in
          record { clash = r.0; kept = r.1; added = r.2; long = long }
      | else-a-b+then-b-a w ↦
          let clash = reach_clashes_back jobs a b c.requires.shape (λ same. omega (arith, same, w.if-b-a.true)) reaches in
          let s = set w.set_bit-then-b-a.new.row b a w.if-b-a.true wide clash
          (λ k. subst (λ (n : ℕ). HasBit w.set_bit-then-b-a.new.row k ↔ (HasBit old k ⊎ (k ≡ n + a))) (mul_comm b cells) (w.set_bit-then-b-a.ensures k)) in
          let r = result w.set_bit-then-b-a.new.row w.table-is s.0 s.1 (λ other. held_falling_pair w.set_bit-then-b-a.new.row a b w.if-b-a.true s.2) in
          record { clash = r.0; kept = r.1; added = r.2; long = long }
      | else-a-b+else-b-a w ↦
          let r = result old w.table-is before.clash (λ x y held. held) (λ other. absurd (other (omega (arith, w.if-a-b.false, w.if-b-a.false)))) in
          record { clash = r.0; kept = r.1; added = r.2; long = long }
    ]

pub returns-clause-added : goal.returns-clause-added
returns-clause-added c = λ a other reaches.
    let bit : HasBit c.row_of-row.result a = (c.row_of-row.ensures a).1 reaches in
    elim (cases_lt a c.loop-a.from) [
      | inl past ↦ c.loop-a.invariant.added a past other bit
      | inr next ↦ absurd (c.in_default.ensures.none a next bit)
    ]
