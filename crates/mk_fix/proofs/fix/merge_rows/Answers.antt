use Rattle.std.proofs.Common.{ℕ, ◌≡◌, ◌+◌, ◌-◌, ◌*◌, ◌∙◌, ◌↔◌, ◌⊎◌, List, bit_or, length, take, drop, get_or, sym, ap, subst, arith, length-take-le, length-drop}
use Rattle.std.specs.Simd.Lanes.{zip2}
use Rattle.std.proofs.lemmas.List.{take_more, take_all}
use Rattle.mk_index.specs.Bits.{HasBit}
use Rattle.mk_decide.specs.Bits.{row_at}
use Rattle.mk_fix.specs.Musts.{IsBehind}
use Rattle.mk_fix.proofs.Musting.{behind_more, behind_none}
use Rattle.mk_fix.proofs.fix.merge_rows.Goals as goal

pub loop-p-init : goal.loop-p-init
loop-p-init c = behind_none (length c.args.row.now) c.args.done.now c.args.row.now

pub loop-p-preserved : goal.loop-p-preserved
loop-p-preserved c =
    let width = length c.args.row.now in
    let done = c.args.done.now in
    let nodes = c.args.nodes.now in
    let i = c.loop-p.p-index in
    let p = get_or nodes i 0 in
    let start = p * width in
    let ends = c.requires i 0 c.loop-p-test.true in
    let part : take (start + width - start) (drop start done) ≡ row_at width done p = ap (λ k. take k (drop start done)) (omega arith) in
    let long : length (row_at width done p) ≡ width = length-take-le width (drop start done) (omega (arith, ends, length-drop start done)) in
    let more = behind_more width done (take i nodes) c.args.row.now c.loop-p.row c.merge.new.into p c.loop-p.invariant
    (c.merge.ensures ∙ ap (zip2 bit_or c.loop-p.row) part) (omega (arith, long)) in
    subst (λ (ns : List ℕ). (n : ℕ) → HasBit c.merge.new.into n ↔ (HasBit c.args.row.now n ⊎ IsBehind width done ns n)) (sym (take_more nodes i 0 c.loop-p-test.true)) more

pub returns : goal.returns
returns c =
    subst (λ (ns : List ℕ). (n : ℕ) → HasBit c.loop-p.row n ↔ (HasBit c.args.row.now n ⊎ IsBehind (length c.args.row.now) c.args.done.now ns n))
    (take_all c.loop-p.p-index c.args.nodes.now c.loop-p-test.false) c.loop-p.invariant
