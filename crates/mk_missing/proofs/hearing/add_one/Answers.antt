use Rattle.std.proofs.Common.{◌≡◌, ◌+◌, ◌-◌, ◌*◌, ◌∙◌, bit_or, length, take, drop, ap, arith, length-take-le, length-drop}
use Rattle.std.specs.Simd.Lanes.{zip2}
use Rattle.mk_decide.specs.Bits.{row_at}
use Rattle.mk_missing.proofs.News.{merged_one}
use Rattle.mk_missing.proofs.hearing.add_one.Goals as goal

pub returns-then-on-clause-on : goal.returns-then-on-clause-on
returns-then-on-clause-on c = λ _.
    let width = length c.args.row.now in
    let set = c.set_bit.new.row in
    let wide = length set in
    let done = c.args.done.now in
    let p = c.args.p in
    let same : wide ≡ width = omega (arith, c.set_bit.auto.row) in
    let part : take (p * wide + wide - p * wide) (drop (p * wide) done) ≡ row_at width done p =
    ap (λ m. take m (drop (p * wide) done)) (omega arith) ∙ ap (λ w. row_at w done p) same in
    let long : length (row_at width done p) ≡ width = length-take-le width (drop (p * width) done) (omega (arith, c.requires.there, length-drop (p * width) done)) in
    merged_one c.args.row.now set c.merge.new.into (row_at width done p) p c.set_bit.ensures (c.merge.ensures ∙ ap (zip2 bit_or set) part) (omega (arith, same, long))
