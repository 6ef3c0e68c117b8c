use Rattle.std.proofs.Common.{rules, ℕ, ◌≡◌, ◌<◌, ◌↔◌, ◌⊎◌, ◌-◌, ◌++◌, ◌∷◌, [], List, All, length, replicate, take, get_or, refl, sym, subst, arith}
use Rattle.std.proofs.lemmas.List.{take_more, take_all}
use Rattle.std.proofs.lemmas.List.Elements.{All-replicate}
use Rattle.mk_index.specs.Bits.{HasBit}
use Rattle.mk_decide.specs.Bits.{Gathers, block_nodes}
use Rattle.mk_decide.proofs.RowBits.{gathers_more, gathers_none, gathers_same}
use Rattle.mk_decide.proofs.rows.fill_row.Goals as goal
use Rattle.mk_decide.proofs.rows.fill_row.Goals.{then-p-first, else-p-first}

pub loop-p-init : goal.loop-p-init
loop-p-init c =
    let clear : c.fill.new.self ≡ replicate (length c.args.row.now) 0 = c.fill.ensures.after (λ y same. search rules) in
    gathers_none c.args.first c.args.done.now c.fill.new.self
    (subst (All (λ word. word ≡ 0)) (sym clear) (All-replicate (λ (word : ℕ). word ≡ 0) (length c.args.row.now) 0 refl))

pub loop-p-preserved : goal.loop-p-preserved
loop-p-preserved c =
    let done = c.args.done.now in
    let first = c.args.first in
    let nodes = c.args.nodes.now in
    let i = c.loop-p.p-index in
    let p = get_or nodes i 0 in
    let so_far = take i nodes in
    let gathers : Gathers first done (so_far ++ p ∷ []) c.if-p-first.row = elim c.if-p-first.branch [
      | then-p-first w ↦ gathers_more first p done so_far c.loop-p.row c.if-p-first.row (omega (arith, w.if-p-first)) c.loop-p.invariant
          (subst (λ (other : List ℕ). (n : ℕ) → n < block_nodes → HasBit c.if-p-first.row n ↔ ((HasBit c.loop-p.row n ⊎ HasBit other n) ⊎ (n ≡ p - first))) w.row_of.ensures.row
          (subst (λ (new : List ℕ). (n : ℕ) → n < block_nodes → HasBit new n ↔ ((HasBit c.loop-p.row n ⊎ HasBit w.row_of.result.now n) ⊎ (n ≡ p - first))) (sym w.row-is) w.add_node.ensures))
      | else-p-first w ↦ subst (Gathers first done (so_far ++ p ∷ [])) (sym w.row-is) (gathers_same first p done so_far c.loop-p.row (omega (arith, w.if-p-first)) c.loop-p.invariant)
    ] in
    subst (λ (ns : List ℕ). Gathers first done ns c.if-p-first.row) (sym (take_more nodes i 0 c.loop-p-test.true)) gathers

pub returns : goal.returns
returns c =
    subst (λ (ns : List ℕ). Gathers c.args.first c.args.done.now ns c.loop-p.row) (take_all c.loop-p.p-index c.args.nodes.now c.loop-p-test.false) c.loop-p.invariant
