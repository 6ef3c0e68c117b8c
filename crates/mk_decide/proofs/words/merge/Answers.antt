use Rattle.std.proofs.Common.{arith, ◌≡◌, ◌∙◌, ◌+◌, ◌-◌, ◌/◌, ◌*◌, sym, ap, mul_comm, length, bit_or}
use Rattle.std.specs.Simd.Lanes.{zip2}
use borrow.Rule.Slice.PartMut.{mid_of}
use Rattle.mk_decide.proofs.Merging.{merged, merged_on, merged_end, chunk_at, rest_at}
use Rattle.mk_decide.proofs.words.merge.Goals as goal

pub loop-i-preserved : goal.loop-i-preserved
loop-i-preserved c =
    let at = 8 * c.loop-i.i in
    let xs = c.args.into.now in
    let ys = c.args.from.now in
    let chunk = chunk_at 8 _ c.loop-i.i ys c.as_chunks.result.0.now c.as_chunks.ensures.front (omega (arith, c.as_chunks.ensures.front_len)) in
    merged_on at (at + 8 - at) 8 _ xs ys c.loop-i.into c.merge_lane.new.into (omega arith) (omega arith) c.loop-i.invariant
    (omega (arith, c.as_chunks.ensures.front_len)) (omega arith) (c.merge_lane.ensures ∙ ap (zip2 bit_or (mid_of at (at + 8 - at) c.loop-i.into)) chunk)

pub returns : goal.returns
returns c =
    let m = length c.as_chunks.result.0.now in
    let n = length c.loop-i.into - 8 * m in
    let xs = c.args.into.now in
    let ys = c.args.from.now in
    let here : c.loop-i.i ≡ m = omega arith in
    let whole : length ys / 8 * 8 ≡ 8 * m = ap (λ k. k * 8) (sym c.as_chunks.ensures.front_len) ∙ mul_comm m 8 in
    let rest = rest_at (8 * m) (length c.loop-i.into) _ ys c.as_chunks.result.1.now c.as_chunks.ensures.back whole (omega arith) in
    let on = merged_on (8 * m) n n (8 * m + n) xs ys c.loop-i.into c.merge_words.new.into (omega arith) (omega arith)
    (c.loop-i.invariant ∙ ap (λ k. merged (8 * k) xs ys) here) (omega (arith, c.as_chunks.ensures.front_len)) (omega arith)
    (c.merge_words.ensures ∙ ap (zip2 bit_or (mid_of (8 * m) n c.loop-i.into)) rest) in
    merged_end (8 * m + n) xs ys _ on (omega (arith, c.as_chunks.ensures.front_len)) (omega arith)
