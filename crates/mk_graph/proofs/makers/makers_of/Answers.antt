use Rattle.std.proofs.Common.{All, ◌∙◌, ap, sym, subst, ◌++◌, ◌∷◌, [], ◌<◌, length, map, take, arith}
use Rattle.std.proofs.lemmas.List.{map_more}
use Rattle.mk_graph.specs.Makers.{maker_of}
use Rattle.mk_jobs.specs.Numbered.{name_at}
use Rattle.mk_graph.specs.Looked.{Looked, looked_of}
use Rattle.mk_graph.proofs.Collecting.{looked_at, looked_count}
use Rattle.mk_rules.proofs.Indexes.{places_of-within}
use Rattle.mk_graph.proofs.makers.makers_of.Goals as goal

pub loop-number-preserved : goal.loop-number-preserved
loop-number-preserved c =
    let book = c.args.book.now in
    let listing = c.args.listing.now in
    let names = c.args.names.now in
    let number = c.loop-number.number in
    let below : number < length names = omega (arith, c.count-number-end.ensures.count) in
    c.in_ok-push.ensures.items ∙ ap (λ ms. ms ++ c.maker_of.result ∷ []) c.loop-number.invariant
    ∙ ap (λ m. map (maker_of book listing) (take number names) ++ m ∷ [])
    (c.maker_of.ensures listing (name_at names number) (c.index-looked-number.is ∙ looked_at (looked_of book listing) names c.args.looked.now number _ c.requires.looked below) (c.is_some-is_inferred.ensures ∙ c.requires.inferred number below))
    ∙ sym (map_more (maker_of book listing) names number [] below)

pub bounds-looked-number : goal.bounds-looked-number
bounds-looked-number c = let e = looked_count (looked_of c.args.book.now c.args.listing.now) c.args.names.now c.args.looked.now c.requires.looked in omega (arith, e, c.count-number-end.ensures.count)

pub maker_of-requires : goal.maker_of-requires
maker_of-requires c =
    let below : c.loop-number.number < length c.args.names.now = omega (arith, c.count-number-end.ensures.count) in
    let is = c.index-looked-number.is ∙ looked_at (looked_of c.args.book.now c.args.listing.now) c.args.names.now c.args.looked.now c.loop-number.number _ c.requires.looked below in
    subst (λ (l : Looked). All (λ p. p < length c.args.book.now.rules) l.rules) (sym is) (places_of-within c.args.book.now.rules (name_at c.args.names.now c.loop-number.number))
