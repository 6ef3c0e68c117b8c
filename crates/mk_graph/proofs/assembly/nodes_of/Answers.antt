use Rattle.std.proofs.Common.{◌∙◌, ap, sym, subst, rules, arith, get_or, ◌<◌, length, map, List, ℕ}
use Rattle.std.proofs.lemmas.List.{length-map}
use Rattle.std.proofs.lemmas.List.Elements.{All-push}
use Rattle.mk_graph.specs.Assembled.{node_of}
use Rattle.mk_graph.specs.Looked.{Looked, looked_of}
use Rattle.mk_graph.specs.Makers.{maker_of}
use Rattle.mk_jobs.specs.Numbered.{name_at}
use Rattle.mk_jobs.specs.Plan.{HaveNames, NumberedNode}
use Rattle.mk_graph.specs.Rows.{row}
use Rattle.mk_graph.proofs.Measure.{row_read}
use Rattle.mk_graph.proofs.Rowing.{in_at}
use Rattle.mk_graph.proofs.Collecting.{looked_at}
use Rattle.mk_graph.proofs.NodesOf.{looked_node, nodes_more}
use Rattle.mk_jobs.specs.declared.maker.Maker.TheVariants.{Rule}
use Rattle.mk_graph.proofs.Steps.{In}
use Rattle.mk_graph.proofs.assembly.nodes_of.Goals as goal

pub bounds-rows-number : goal.bounds-rows-number
bounds-rows-number c = let w = c.requires.within _ (in_at c.args.order.now c.loop-number.number-index c.loop-number-test.true) in omega (arith, w, c.requires.rows)

pub offset_bounds-rows-number : goal.offset_bounds-rows-number
offset_bounds-rows-number c =
    let w = c.requires.within _ (in_at c.args.order.now c.loop-number.number-index c.loop-number-test.true) in
    let inside : get_or c.args.order.now c.loop-number.number-index 0 < length c.args.graph.now.rows.items = omega (arith, w, c.requires.rows) in search rules

pub placed-requires : goal.placed-requires
placed-requires c = λ n h.
    let w = c.requires.within _ (in_at c.args.order.now c.loop-number.number-index c.loop-number-test.true) in
    let is = c.as_slice.ensures.value ∙ row_read c.as_slice-rows.result.now (get_or c.args.order.now c.loop-number.number-index 0) c.index-rows-number.result (omega (arith, w, c.requires.rows, ap length c.as_slice-rows.ensures.value)) c.index-rows-number.is
    ∙ ap (λ rs. row rs (get_or c.args.order.now c.loop-number.number-index 0)) c.as_slice-rows.ensures.value in
    c.requires.places _ n (subst (λ (xs : List ℕ). In xs n) is h)

pub bounds-looked-number : goal.bounds-looked-number
bounds-looked-number c =
    let w = c.requires.within _ (in_at c.args.order.now c.loop-number.number-index c.loop-number-test.true) in
    omega (arith, w, ap length c.as_slice-looked.ensures.value, ap length c.requires.looked, length-map c.args.graph.now.names (looked_of c.args.book.now c.args.listing.now))

pub offset_bounds-looked-number : goal.offset_bounds-looked-number
offset_bounds-looked-number c =
    let w = c.requires.within _ (in_at c.args.order.now c.loop-number.number-index c.loop-number-test.true) in
    let inside : get_or c.args.order.now c.loop-number.number-index 0 < length c.args.graph.now.looked.items = omega (arith, w, ap length c.requires.looked, length-map c.args.graph.now.names (looked_of c.args.book.now c.args.listing.now)) in search rules

pub loop-number-preserved : goal.loop-number-preserved
loop-number-preserved c =
    let w = c.requires.within _ (in_at c.args.order.now c.loop-number.number-index c.loop-number-test.true) in
    let is = c.as_slice.ensures.value ∙ row_read c.as_slice-rows.result.now (get_or c.args.order.now c.loop-number.number-index 0) c.index-rows-number.result (omega (arith, w, c.requires.rows, ap length c.as_slice-rows.ensures.value)) c.index-rows-number.is
    ∙ ap (λ rs. row rs (get_or c.args.order.now c.loop-number.number-index 0)) c.as_slice-rows.ensures.value in
    let number = get_or c.args.order.now c.loop-number.number-index 0 in
    let names = c.args.graph.now.names in
    let looked = c.of.view_is ∙ c.index-looked-number.is ∙ looked_at (looked_of c.args.book.now c.args.listing.now) names c.as_slice-looked.result.now number _ (c.as_slice-looked.ensures.value ∙ c.requires.looked) w in
    record {
      nodes = nodes_more names (λ n. node_of c.args.book.now c.args.listing.now (name_at names n) (map (λ p. get_or c.args.places.now p 0) (row c.args.graph.now.rows.items n))) c.args.order.now c.loop-number.number-index c.loop-number.nodes.items c.push.new.self.items _ c.loop-number-test.true c.loop-number.invariant.nodes c.in_ok-push.ensures.items
          (looked_node c.args.book.now c.args.listing.now names number _ c.in_ok-prerequisites.prerequisites.items (get_or c.as_slice-makers.result.now number Rule) c.of.inside.phony c.of.inside.listed
          (looked_at (maker_of c.args.book.now c.args.listing.now) names c.as_slice-makers.result.now number Rule (c.as_slice-makers.ensures.value ∙ c.requires.makers) w)
          (ap (λ (l : Looked). l.phony) looked) (ap (λ (l : Looked). l.listed) looked)
          (c.in_ok-prerequisites.ensures ∙ ap (map (λ p. get_or c.args.places.now p 0)) is));
      named = subst (HaveNames names) (sym c.in_ok-push.ensures.items)
          (All-push (λ (d : NumberedNode). d.name < length names) c.loop-number.nodes.items _ c.loop-number.invariant.named w);
    }

pub bounds-makers-number : goal.bounds-makers-number
bounds-makers-number c =
    let w = c.requires.within _ (in_at c.args.order.now c.loop-number.number-index c.loop-number-test.true) in
    omega (arith, w, ap length c.requires.makers, length-map c.args.graph.now.names (maker_of c.args.book.now c.args.listing.now))
