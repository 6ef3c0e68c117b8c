use Rattle.std.proofs.Common.{[], ◌∷◌, ◌++◌, ◌∙◌, ap, refl, sym}
use Rattle.std.specs.Option.{option_map_or}
use Rattle.mk_text.specs.Lexical.{physical_lines}
use Rattle.mk_due.proofs.LineByLine.{begun, items_more, lines_more, place_more}
use Rattle.mk_due.proofs.reading.items_in.Goals as goal

pub lines-init : goal.lines-init
lines-init c = record {
  tally = c.new-tally.ensures.tally;
  done = [];
  all = refl;
  place = refl;
  items = begun c.args.root.now c.args.listing.now c.new-tally.result.items.items c.new-tally.ensures.none;
}

pub lines-preserved : goal.lines-preserved
lines-preserved c =
    let before = c.lines.invariant in
    let line = c.split_line.result.0.now in
    record {
      tally = c.in_ok-add_text.ensures.tally;
      done = before.done ++ line ∷ [];
      all =
          lines_more before.done (option_map_or (λ rest. physical_lines rest.now) c.split_line.result.1 []) (physical_lines c.in-Some.text.now) (physical_lines c.args.text.now) line
          c.split_line.ensures.lines (ap (λ rest. before.done ++ option_map_or (λ rest. physical_lines rest.now) rest []) (sym c.in-Some.is) ∙ before.all);
      place = c.saturating_add-place.ensures ∙ place_more before.done line c.lines.place before.place;
      items = items_more c.args.root.now c.args.listing.now before.done line c.lines.place c.lines.tally.items.items c.add_text.new.tally.items.items
          before.items before.place c.in_ok-add_text.ensures.added;
    }
