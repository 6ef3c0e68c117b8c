use Rattle.std.proofs.Common.{◌++◌, List, Option, length, map, arith, sym, ap, ◌∙◌}
use Rattle.std.specs.Option.{option_map}
use Rattle.std.proofs.lemmas.Bool.{cond-true, cond-false}
use Rattle.std.proofs.lemmas.List.{length-map}
use Rattle.mk_name.specs.Names.{Name}
use Rattle.mk_path.specs.Ranges.{is_below_bound, past_own, stands_at}
use Rattle.mk_path.proofs.RangePlaces.{first_in_range}
use Rattle.mk_path.proofs.taken.first_between.Goals as goal

pub returns-then-is_below_bound : goal.returns-then-is_below_bound
returns-then-is_below_bound c =
    let names : List Name = map (λ name. name.now) c.args.names.now in
    let count = length-map c.args.names.now (λ name. name.now) in
    let high : Option Name = option_map (λ tail. c.args.head.now ++ tail.now) c.args.high in
    let start = c.first_from.result in
    let place = past_own names c.args.own.now start in
    let whole = first_in_range c.args.own.now (c.args.head.now ++ c.args.low.now) high names c.requires start (omega (arith, count, c.first_from.ensures.bound)) c.first_from.ensures.before
    (λ k le less. c.first_from.ensures.after k le (omega (arith, count, less))) in
    let low_enough = ap (λ n. stands_at names n (is_below_bound high)) (sym c.past_own-place.ensures) ∙ sym c.is_below_bound.ensures ∙ c.if-is_below_bound.true in
    c.past_own-place.ensures ∙ sym (cond-true (stands_at names place (is_below_bound high)) place (length names) low_enough) ∙ whole

pub returns-else-is_below_bound : goal.returns-else-is_below_bound
returns-else-is_below_bound c =
    let names : List Name = map (λ name. name.now) c.args.names.now in
    let count = length-map c.args.names.now (λ name. name.now) in
    let high : Option Name = option_map (λ tail. c.args.head.now ++ tail.now) c.args.high in
    let start = c.first_from.result in
    let place = past_own names c.args.own.now start in
    let whole = first_in_range c.args.own.now (c.args.head.now ++ c.args.low.now) high names c.requires start (omega (arith, count, c.first_from.ensures.bound)) c.first_from.ensures.before
    (λ k le less. c.first_from.ensures.after k le (omega (arith, count, less))) in
    let too_high = ap (λ n. stands_at names n (is_below_bound high)) (sym c.past_own-place.ensures) ∙ sym c.is_below_bound.ensures ∙ c.if-is_below_bound.false in
    sym count ∙ sym (cond-false (stands_at names place (is_below_bound high)) place (length names) too_high) ∙ whole
