use Rattle.std.proofs.Common.{All, map, ◌≡◌, ◌∙◌, sym, ap, subst, drop, List, ◌<◌, length, ◌+◌, arith, replicate, None, Option, ℕ}
use Rattle.std.specs.Prelude.{Vec}
use Rattle.std.specs.Global.{Global}
use Rattle.std.proofs.lemmas.List.{take_all, take_at}
use Rattle.mk_graph.specs.Collected.{Collected, Reads}
use Rattle.mk_graph.specs.Makers.{inferred_source}
use Rattle.mk_graph.proofs.Collecting.{collected_none, collected_more, looked_more}
use Rattle.mk_jobs.proofs.Numberings.{name_at_push}
use Rattle.mk_jobs.specs.Numbered.{name_at}
use Rattle.mk_graph.specs.Looked.{Looked, looked_of}
use Rattle.mk_rules.proofs.Indexes.{places_of-within}
use Rattle.std.specs.Option.{option_to_list}
use Rattle.mk_graph.proofs.collect.collect_by.Goals as goal

pub all-init : goal.all-init
all-init c =
    record {
      collected = collected_none c.args.book.now c.args.listing.now c.args.goals.now c.of_set-names.result c.put_all.new.self c.in_ok-entries.entries.items c.new-sources.result.items c.in_ok-starts.starts.items (c.of_set-names.ensures ∙ c.empty_set.ensures) c.in_ok-starts.ensures.kept c.in_ok-starts.ensures.stand (c.in_ok-entries.ensures ∙ ap (λ n. replicate n None) c.rule_count.ensures) c.new-sources.ensures.items;
      few = omega arith;
      looked = c.new-looked.ensures.items;
    }

pub all-preserved : goal.all-preserved
all-preserved c =
    let r = c.in_ok-read_entries.ensures in
    let long : length c.read_entries.new.entries ≡ c.all.entries.len = r.long ∙ ap length c.deref_mut.ensures.value ∙ sym c.all.entries.ok.0 in
    let count = c.count.ensures.count in
    let below : c.all.read < length c.all.names = omega arith in
    record {
      collected =
          subst (λ (es : List (Option (Vec ℕ Global))). Collected c.args.book.now c.args.listing.now c.args.goals.now c.read_source.new.names es c.push.new.self.items c.in_ok-starts.starts.items (c.all.read + 1))
          (sym (take_at c.read_entries.new.entries (drop (length c.read_entries.new.entries) c.all.entries.items) c.all.entries.len long))
          (collected_more c.args.book.now c.args.listing.now c.args.goals.now c.all.names c.read_entries.new.names c.read_source.new.names c.all.entries.items c.read_entries.new.entries c.all.sources.items c.push.new.self.items c.in_ok-starts.starts.items c.of.inside.rules.now c.all.read c.name.result.now c.in_ok-read_source.field-0
          c.all.invariant.collected below c.name.ensures (ap (λ (l : Looked). l.rules) (c.of.view_is ∙ c.look-of.ensures))
          (subst (λ (es : List (Option (Vec ℕ Global))). Reads c.args.book.now.rules c.of.inside.rules.now c.all.names es c.read_entries.new.names c.read_entries.new.entries) c.deref_mut.ensures.value r)
          c.in_ok-read_source.ensures.kept c.in_ok-read_source.ensures.stands c.in_ok-push.ensures.items);
      few = omega (arith, below, c.count-in-all.ensures.count);
      looked = looked_more (looked_of c.args.book.now c.args.listing.now) c.all.names c.read_entries.new.names c.read_source.new.names (option_to_list (inferred_source c.args.book.now c.args.listing.now (name_at c.read_entries.new.names c.all.read))) r.more c.all.looked.items c.push-in-all.new.self.items c.look-of.result c.all.read
          below r.grows c.in_ok-read_source.ensures.kept c.all.invariant.looked c.in_ok-push-2.ensures.items (c.look-of.ensures ∙ ap (looked_of c.args.book.now c.args.listing.now) c.name.ensures);
    }

pub read_source-requires-clause-looked : goal.read_source-requires-clause-looked
read_source-requires-clause-looked c =
    let r = c.in_ok-read_entries.ensures in
    let below : c.all.read < length c.all.names = omega arith in
    c.look-of.ensures
    ∙ ap (looked_of c.args.book.now c.args.listing.now) (c.name.ensures ∙ sym (ap (λ ns. name_at ns c.all.read) r.grows ∙ name_at_push c.all.names r.more c.all.read below))

pub returns-clause-looked : goal.returns-clause-looked
returns-clause-looked c =
    c.all.invariant.looked ∙ ap (map (looked_of c.args.book.now c.args.listing.now)) (take_all c.all.read c.all.names (omega (arith, c.count.ensures.count, c.all-test.false)))

pub read_entries-requires-clause-within : goal.read_entries-requires-clause-within
read_entries-requires-clause-within c =
    subst (λ (l : Looked). All (λ p. p < length c.args.book.now.rules) l.rules) (sym (c.of.view_is ∙ c.look-of.ensures)) (places_of-within c.args.book.now.rules c.name.result.now)
