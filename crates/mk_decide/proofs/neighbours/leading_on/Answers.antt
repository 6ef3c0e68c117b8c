use Rattle.std.proofs.Common.{ℕ, ◌≡◌, ◌↔◌, ◌+◌, List, sym, subst, inl, inr, arith}
use Rattle.std.proofs.lemmas.Bool.{cases_lt}
use Rattle.mk_index.specs.Bits.{HasBit}
use Rattle.mk_jobs.proofs.JobsLemmas.{clash_live}
use Rattle.mk_decide.proofs.RowBits.{merged_bits}
use Rattle.mk_decide.proofs.Sweeping.{LeadsBelow, leads_merged, leads_passed, no_bits}
use Rattle.mk_decide.proofs.neighbours.leading_on.Goals as goal
use Rattle.mk_decide.proofs.neighbours.leading_on.Goals.{then-not-has_bit, else-not-has_bit}

pub loop-c-init : goal.loop-c-init
loop-c-init c = λ b. (λ has. absurd (no_bits b has), λ leads. absurd (let below = leads.below in omega (arith, below)))

pub table_row-requires : goal.table_row-requires
table_row-requires c =
    let has = (c.table_row-row.ensures.bits c.in-Some.c).0 c.in-Some.ensures.some.2 in
    let inside = (clash_live ((c.requires.swept.clash c.args.a c.in-Some.c (omega arith)).0 has).1.1).second_node in
    omega (arith, inside, c.requires.long)

pub loop-c-preserved : goal.loop-c-preserved
loop-c-preserved c =
    let table = c.args.table.now in
    let between = c.loop-c.between in
    let a = c.args.a in
    let n = c.in-Some.c in
    let some = c.in-Some.ensures.some in
    let is : (ws : List ℕ) → c.if-not-has_bit.between ≡ ws → ((b : ℕ) → HasBit ws b ↔ LeadsBelow table a (n + 1) b) → (b : ℕ) → HasBit c.if-not-has_bit.between b ↔ LeadsBelow table a (n + 1) b =
    λ ws same leads b. subst (λ (xs : List ℕ). HasBit xs b ↔ LeadsBelow table a (n + 1) b) (sym same) (leads b) in
    elim c.if-not-has_bit.branch [
      | then-not-has_bit w ↦ is w.merge.new.into w.between-is
          (leads_merged c.args._jobs.now table c.table_row-row.result.now between a c.loop-c.from n c.requires.swept c.table_row-row.ensures.bits some.2 c.in-Some.ensures.between some.0
          c.loop-c.invariant w.merge.new.into (λ b.
          let both = merged_bits between w.table_row.result.now b (omega (arith, w.table_row.ensures.wide, w.if-not-has_bit.array_long)) in
          let bits = w.table_row.ensures.bits b in (
            λ has. elim (both.0 (subst (λ (ws : List ℕ). HasBit ws b) w.merge.ensures has)) [ inl before ↦ inl before | inr bit ↦ inr (bits.0 bit) ],
            λ has. subst (λ (ws : List ℕ). HasBit ws b) (sym w.merge.ensures) (both.1 (elim has [ inl before ↦ inl before | inr pair ↦ inr (bits.1 pair) ])),
          )))
      | else-not-has_bit w ↦ is between w.between-is
          (leads_passed c.args._jobs.now table c.table_row-row.result.now between a c.loop-c.from n c.requires.swept c.table_row-row.ensures.bits some.2 c.in-Some.ensures.between some.0
          c.loop-c.invariant (c.has_bit.ensures.0 w.if-not-has_bit.false))
    ]

pub returns : goal.returns
returns c = λ b. (
  λ has. let leads = (c.loop-c.invariant b).0 has in record { node = leads.node; clash = leads.clash; tied = leads.tied },
  λ leads. (c.loop-c.invariant b).1 (elim (cases_lt leads.node c.loop-c.from) [
    | inl below ↦ record { node = leads.node; below = below; clash = leads.clash; tied = leads.tied }
    | inr past ↦ absurd (c.in_default.ensures.none leads.node past ((c.table_row-row.ensures.bits leads.node).1 leads.clash))
  ]),
)
