use Rattle.std.proofs.Common.{◌≡◌, ◌∙◌, ap, sym, subst, ◌<◌, length, arith, get_or, take, ℕ, List, Option, None}
use Rattle.std.specs.Prelude.{IfSome, Vec}
use Rattle.std.specs.Global.{Global}
use Rattle.mk_graph.specs.Collected.{Collected}
use Rattle.mk_graph.specs.Graph.{count_edges}
use Rattle.mk_graph.specs.Makers.{inferred_source, needs}
use Rattle.mk_jobs.specs.Numbered.{name_at}
use Rattle.mk_graph.specs.Rows.{row}
use Rattle.mk_graph.specs.Seen.{AllBelow, firsts_of}
use Rattle.mk_graph.proofs.Graphs.{distinct_below, entries_below, graph_is, is_small, many_edges, needs_stand, source_within, source_reported, if_none_at}
use Rattle.mk_graph.proofs.graph.graph_of.Goals as goal

pub rows_of-requires-clause-within : goal.rows_of-requires-clause-within
rows_of-requires-clause-within c = λ p n h.
    let found = subst (λ (os : List (Option ℕ)). Collected c.args.book.now c.args.listing.now c.args.goals.now c.in-Some.found.names c.in-Some.found.entries.items os c.in-Some.found.goals.items (length c.in-Some.found.names)) (sym c.as_slice-sources.ensures.value) (rw c.in-Some.is at c.in_ok-found.ensures.found) in
    let is = λ (q : ℕ). ap (λ es. row es q) c.as_slice-2.ensures.value ∙ c.in_ok-entries.ensures.rows q ∙ ap (λ es. firsts_of (get_or es q None)) c.as_slice.ensures.value in
    let w = distinct_below c.args.book.now c.args.listing.now c.args.goals.now c.in-Some.found.names c.in-Some.found.entries.items c.as_slice-sources.result.now c.in-Some.found.goals.items (length c.in-Some.found.names) c.as_slice-2.result.now found is p n h in
    omega (arith, w, c.distinct_entries.auto.seen, ap length c.as_mut_slice-seen.ensures.value, c.in_ok-marks.marks.ok.0, c.in_ok-marks.ensures.len, c.count.ensures.count)

pub rows_of-requires-clause-sources_within : goal.rows_of-requires-clause-sources_within
rows_of-requires-clause-sources_within c = λ i h.
    let found = subst (λ (os : List (Option ℕ)). Collected c.args.book.now c.args.listing.now c.args.goals.now c.in-Some.found.names c.in-Some.found.entries.items os c.in-Some.found.goals.items (length c.in-Some.found.names)) (sym c.as_slice-sources.ensures.value) (rw c.in-Some.is at c.in_ok-found.ensures.found) in
    let long : length c.in-Some.found.names ≡ length c.distinct_entries.new.seen = omega (arith, c.distinct_entries.auto.seen, ap length c.as_mut_slice-seen.ensures.value, c.in_ok-marks.marks.ok.0, c.in_ok-marks.ensures.len, c.count.ensures.count) in
    subst (λ (size : ℕ). IfSome (get_or c.as_slice-sources.result.now i None) (λ n. n < size)) long
    (source_within c.in-Some.found.names (get_or c.as_slice-sources.result.now i None) (inferred_source c.args.book.now c.args.listing.now (name_at c.in-Some.found.names i)) (found.sources_stand i h))

pub rows_of-requires-clause-stand : goal.rows_of-requires-clause-stand
rows_of-requires-clause-stand c = λ i h.
    let found = subst (λ (os : List (Option ℕ)). Collected c.args.book.now c.args.listing.now c.args.goals.now c.in-Some.found.names c.in-Some.found.entries.items os c.in-Some.found.goals.items (length c.in-Some.found.names)) (sym c.as_slice-sources.ensures.value) (rw c.in-Some.is at c.in_ok-found.ensures.found) in
    let is = λ (q : ℕ). ap (λ es. row es q) c.as_slice-2.ensures.value ∙ c.in_ok-entries.ensures.rows q ∙ ap (λ es. firsts_of (get_or es q None)) c.as_slice.ensures.value in
    needs_stand c.args.book.now c.args.listing.now c.args.goals.now c.in-Some.found.names c.in-Some.found.entries.items c.as_slice-sources.result.now c.in-Some.found.goals.items c.as_slice-2.result.now i found is h

pub returns-in_default-2-clause-too_large : goal.returns-in_default-2-clause-too_large
returns-in_default-2-clause-too_large c =
    let found = subst (λ (os : List (Option ℕ)). Collected c.args.book.now c.args.listing.now c.args.goals.now c.in-Some.found.names c.in-Some.found.entries.items os c.in-Some.found.goals.items (length c.in-Some.found.names)) (sym c.as_slice-sources.ensures.value) (rw c.in-Some.is at c.in_ok-found.ensures.found) in
    let many = if_none_at c.in_ok-rows.field-0 ((count : ℕ) × (c.args.max_edges < count_edges (needs c.args.book.now c.args.listing.now) (take count c.in-Some.found.names))) c.in_default-2.not-Some c.in_ok-rows.ensures.too_many in
    many_edges c.args.book.now c.args.listing.now c.args.goals.now c.in-Some.found.names c.in-Some.found.entries.items c.as_slice-sources.result.now c.in-Some.found.goals.items many.0 c.args.max_names c.args.max_edges found many.1

pub returns-clause-found : goal.returns-clause-found
returns-clause-found c =
    let found = subst (λ (os : List (Option ℕ)). Collected c.args.book.now c.args.listing.now c.args.goals.now c.in-Some.found.names c.in-Some.found.entries.items os c.in-Some.found.goals.items (length c.in-Some.found.names)) (sym c.as_slice-sources.ensures.value) (rw c.in-Some.is at c.in_ok-found.ensures.found) in
    let is = λ (q : ℕ). ap (λ es. row es q) c.as_slice-2.ensures.value ∙ c.in_ok-entries.ensures.rows q ∙ ap (λ es. firsts_of (get_or es q None)) c.as_slice.ensures.value in
    graph_is c.args.book.now c.args.listing.now c.args.goals.now c.in-Some.found.names c.in-Some.found.entries.items c.as_slice-sources.result.now c.in-Some.found.goals.items c.as_slice-2.result.now c.in-Some-2.rows.items found is
    (rw c.in-Some-2.is at c.in_ok-rows.ensures.length) (rw c.in-Some-2.is at c.in_ok-rows.ensures.rows)

pub returns-clause-small : goal.returns-clause-small
returns-clause-small c =
    let found = subst (λ (os : List (Option ℕ)). Collected c.args.book.now c.args.listing.now c.args.goals.now c.in-Some.found.names c.in-Some.found.entries.items os c.in-Some.found.goals.items (length c.in-Some.found.names)) (sym c.as_slice-sources.ensures.value) (rw c.in-Some.is at c.in_ok-found.ensures.found) in
    let is = λ (q : ℕ). ap (λ es. row es q) c.as_slice-2.ensures.value ∙ c.in_ok-entries.ensures.rows q ∙ ap (λ es. firsts_of (get_or es q None)) c.as_slice.ensures.value in
    is_small c.args.book.now c.args.listing.now c.args.goals.now c.in-Some.found.names c.in-Some-2.rows.items c.in-Some.found.goals.items c.args.max_names c.args.max_edges
    (graph_is c.args.book.now c.args.listing.now c.args.goals.now c.in-Some.found.names c.in-Some.found.entries.items c.as_slice-sources.result.now c.in-Some.found.goals.items c.as_slice-2.result.now c.in-Some-2.rows.items found is
    (rw c.in-Some-2.is at c.in_ok-rows.ensures.length) (rw c.in-Some-2.is at c.in_ok-rows.ensures.rows))
    (rw c.in-Some.is at c.in_ok-found.ensures.few) (rw c.in-Some-2.is at c.in_ok-rows.ensures.few)

pub makers_of-requires-clause-inferred : goal.makers_of-requires-clause-inferred
makers_of-requires-clause-inferred c = λ i h.
    let found = subst (λ (os : List (Option ℕ)). Collected c.args.book.now c.args.listing.now c.args.goals.now c.in-Some.found.names c.in-Some.found.entries.items os c.in-Some.found.goals.items (length c.in-Some.found.names)) (sym c.as_slice-sources.ensures.value) (rw c.in-Some.is at c.in_ok-found.ensures.found) in
    source_reported c.in-Some.found.names (get_or c.as_slice-sources.result.now i None) (inferred_source c.args.book.now c.args.listing.now (name_at c.in-Some.found.names i)) (found.sources_stand i h)

pub rows_of-requires-clause-looked : goal.rows_of-requires-clause-looked
rows_of-requires-clause-looked c = c.as_slice-looked.ensures.value ∙ (rw c.in-Some.is at c.in_ok-found.ensures.looked)

pub makers_of-requires-clause-looked : goal.makers_of-requires-clause-looked
makers_of-requires-clause-looked c = c.as_slice-looked.ensures.value ∙ (rw c.in-Some.is at c.in_ok-found.ensures.looked)

pub distinct_entries-requires-clause-within : goal.distinct_entries-requires-clause-within
distinct_entries-requires-clause-within c = λ p.
    let found = rw c.in-Some.is at c.in_ok-found.ensures.found in
    let long : length c.in-Some.found.names ≡ length c.as_mut_slice-seen.result.now = omega (arith, ap length c.as_mut_slice-seen.ensures.value, c.in_ok-marks.marks.ok.0, c.in_ok-marks.ensures.len, c.count.ensures.count) in
    subst (λ (size : ℕ). AllBelow size (get_or c.as_slice.result.now p None)) long
    (subst (λ (es : List (Option (Vec ℕ Global))). AllBelow (length c.in-Some.found.names) (get_or es p None)) (sym c.as_slice.ensures.value)
    (entries_below c.args.book.now c.args.listing.now c.args.goals.now c.in-Some.found.names c.in-Some.found.entries.items c.in-Some.found.sources.items c.in-Some.found.goals.items (length c.in-Some.found.names) p found))
