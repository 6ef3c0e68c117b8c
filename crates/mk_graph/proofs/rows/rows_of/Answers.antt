use Rattle.std.proofs.Common.{◌≡◌, ◌∙◌, sym, ap, subst, ◌<◌, ◌+◌, length, arith, List, ℕ, get_or, None}
use Rattle.std.specs.Prelude.{Vec, nat_eq}
use Rattle.std.specs.Global.{Global}
use Rattle.std.proofs.lemmas.List.{length_push}
use Rattle.std.specs.List.{flat_map}
use Rattle.mk_name.specs.Names.{firsts}
use Rattle.mk_graph.specs.Makers.{needs}
use Rattle.mk_jobs.specs.Numbered.{name_at, Stand}
use Rattle.mk_graph.specs.Rows.{row}
use Rattle.mk_graph.specs.Seen.{needs_of, with_source}
use Rattle.mk_rules.specs.Book.{places_of}
use Rattle.mk_rules.proofs.Indexes.{places_of-within}
use Rattle.mk_graph.specs.Looked.{Looked, looked_of}
use Rattle.mk_graph.proofs.Collecting.{looked_at, looked_count}
use Rattle.mk_graph.proofs.Steps.{In}
use Rattle.mk_graph.proofs.Rowing.{rows_more, all_in, edges_more}
use Rattle.mk_graph.proofs.rows.rows_of.Goals as goal

pub full_row-requires-clause-places : goal.full_row-requires-clause-places
full_row-requires-clause-places c = λ p h.
    let below : c.loop-number.number < length c.args.names.now = omega (arith, c.count-number-end.ensures.count) in
    let a = all_in (places_of c.args.book.now.rules (name_at c.args.names.now c.loop-number.number)) (length c.args.book.now.rules) p (places_of-within c.args.book.now.rules (name_at c.args.names.now c.loop-number.number)) (subst (λ (ps : List ℕ). In ps p) (ap (λ (l : Looked). l.rules) (c.of.view_is ∙ c.index-looked-number.is ∙ looked_at (looked_of c.args.book.now c.args.listing.now) c.args.names.now c.args.looked.now c.loop-number.number _ c.requires.looked below)) h) in
    let e = c.requires.entries in omega arith

pub bounds-looked-number : goal.bounds-looked-number
bounds-looked-number c = let e = looked_count (looked_of c.args.book.now c.args.listing.now) c.args.names.now c.args.looked.now c.requires.looked in omega (arith, e, c.count-number-end.ensures.count)

pub returns-then-edges-limit-clause-too_many : goal.returns-then-edges-limit-clause-too_many
returns-then-edges-limit-clause-too_many c =
    let below : c.loop-number.number < length c.args.names.now = omega (arith, c.count-number-end.ensures.count) in
    let source = get_or c.args.sources.now c.loop-number.number None in
    let is : c.in_ok-row.row.items ≡ needs_of c.args.book.now.rules c.args.entries.now c.args.names.now c.args.sources.now c.loop-number.number =
    c.in_ok-row.ensures.row ∙ ap (λ ps. with_source (firsts nat_eq (flat_map (row c.args.entries.now) ps)) source) (ap (λ (l : Looked). l.rules) (c.of.view_is ∙ c.index-looked-number.is ∙ looked_at (looked_of c.args.book.now c.args.listing.now) c.args.names.now c.args.looked.now c.loop-number.number _ c.requires.looked below)) in
    let more = edges_more (needs c.args.book.now c.args.listing.now) c.args.names.now c.loop-number.number c.loop-number.edges c.in_ok-row.row.items below c.loop-number.invariant.edges
    (subst (λ (ns : List ℕ). Stand c.args.names.now ns (needs c.args.book.now c.args.listing.now (name_at c.args.names.now c.loop-number.number))) (sym is) (c.requires.stand c.loop-number.number below)) in
    (c.loop-number.number + 1, omega (arith, more, c.len-edges.ensures, c.in_ok-row.row.ok.0, c.if-edges-limit.true))

pub loop-number-preserved : goal.loop-number-preserved
loop-number-preserved c =
    let below : c.loop-number.number < length c.args.names.now = omega (arith, c.count-number-end.ensures.count) in
    let source = get_or c.args.sources.now c.loop-number.number None in
    let is : c.in_ok-row.row.items ≡ needs_of c.args.book.now.rules c.args.entries.now c.args.names.now c.args.sources.now c.loop-number.number =
    c.in_ok-row.ensures.row ∙ ap (λ ps. with_source (firsts nat_eq (flat_map (row c.args.entries.now) ps)) source) (ap (λ (l : Looked). l.rules) (c.of.view_is ∙ c.index-looked-number.is ∙ looked_at (looked_of c.args.book.now c.args.listing.now) c.args.names.now c.args.looked.now c.loop-number.number _ c.requires.looked below)) in
    let more = edges_more (needs c.args.book.now c.args.listing.now) c.args.names.now c.loop-number.number c.loop-number.edges c.in_ok-row.row.items below c.loop-number.invariant.edges
    (subst (λ (ns : List ℕ). Stand c.args.names.now ns (needs c.args.book.now c.args.listing.now (name_at c.args.names.now c.loop-number.number))) (sym is) (c.requires.stand c.loop-number.number below)) in
    record {
      long = ap length c.in_ok-push.ensures.items ∙ length_push c.loop-number.rows.items c.in_ok-row.row ∙ ap (λ n. n + 1) c.loop-number.invariant.long;
      rows = subst (λ (rs : List (Vec ℕ Global)). (k : ℕ) → k < c.loop-number.number + 1 → row rs k ≡ needs_of c.args.book.now.rules c.args.entries.now c.args.names.now c.args.sources.now k) (sym c.in_ok-push.ensures.items)
          (rows_more c.loop-number.rows.items c.in_ok-row.row c.loop-number.number (needs_of c.args.book.now.rules c.args.entries.now c.args.names.now c.args.sources.now) c.loop-number.invariant.long is c.loop-number.invariant.rows);
      edges = ap (λ n. c.loop-number.edges + n) (c.len-edges.ensures ∙ c.in_ok-row.row.ok.0) ∙ more;
      few = c.if-edges-limit.false;
      marked = c.in_ok-row.ensures.marked;
    }
