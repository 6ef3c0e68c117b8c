use Rattle.std.proofs.Common.{ℕ, ◌↔◌, ◌⊎◌, List, Contains, take, get_or, sym, subst, inl, inr, arith}
use Rattle.std.proofs.lemmas.List.{take_more, take_all}
use Rattle.mk_index.specs.Bits.{HasBit}
use Rattle.mk_fix.proofs.Musting.{set_more}
use Rattle.mk_fix.proofs.fix.set_bits.Goals as goal

pub loop-p-init : goal.loop-p-init
loop-p-init c = λ n. (λ has. inl has, λ has. elim has [ inl old ↦ old | inr there ↦ absurd (let no = there.1 in omega (arith, no)) ])

pub loop-p-preserved : goal.loop-p-preserved
loop-p-preserved c =
    let nodes = c.args.nodes.now in
    let i = c.loop-p.p-index in
    let more = set_more (take i nodes) c.args.row.now c.loop-p.row c.set_bit.new.row (get_or nodes i 0) c.loop-p.invariant c.set_bit.ensures in
    subst (λ (ns : List ℕ). (n : ℕ) → HasBit c.set_bit.new.row n ↔ (HasBit c.args.row.now n ⊎ Contains ns n)) (sym (take_more nodes i 0 c.loop-p-test.true)) more

pub returns : goal.returns
returns c =
    subst (λ (ns : List ℕ). (n : ℕ) → HasBit c.loop-p.row n ↔ (HasBit c.args.row.now n ⊎ Contains ns n))
    (take_all c.loop-p.p-index c.args.nodes.now c.loop-p-test.false) c.loop-p.invariant
