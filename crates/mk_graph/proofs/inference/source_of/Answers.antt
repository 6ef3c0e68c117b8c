use Rattle.std.proofs.Common.{rules, ◌≡◌, ◌∙◌, sym, ap, length, take, [], ◌++◌, get_or, Some}
use Rattle.std.specs.Prelude.{◌-◌}
use Rattle.std.specs.Option.{option_map}
use Rattle.mk_name.specs.Names.{Name}
use Rattle.mk_jobs.specs.Numbered.{name_at}
use Rattle.mk_graph.proofs.Sources.{source_at, source_is, suffix_read}
use Rattle.mk_graph.proofs.inference.source_of.Goals as goal

pub returns-in-Some : goal.returns-in-Some
returns-in-Some c =
    let name : Name = c.args.name.now in
    let old : Name = c.in_ok-old.old in
    let cut : c.saturating_sub-cut.result ≡ length name - length old =
    c.saturating_sub-cut.ensures ∙ ap (λ (bs : Name). length bs - length c.as_bytes-2.result.now) c.as_bytes.ensures ∙ ap (λ (bs : Name). length name - length bs) c.as_bytes-2.ensures in
    let stem : c.in_ok-stem.stem ≡ take (length name - length old) name ++ [] = c.in_ok-stem.ensures ∙ ap (λ n. take n name ++ []) cut in
    let found : c.in_ok-place.field-0 ≡ Some c.in-Some.place = c.in-Some.is in
    let read : c.index-suffixes-place.result ≡ get_or c.args.book.now.suffixes c.in-Some.place c.index-suffixes-place.result =
    c.index-suffixes-place.is ∙ ap (λ ss. get_or ss c.in-Some.place c.index-suffixes-place.result) c.suffixes.ensures.list in
    let suffix : c.as_bytes-in-Some.result.now ≡ name_at c.args.book.now.suffixes c.in-Some.place =
    c.as_bytes-in-Some.ensures ∙ suffix_read c.args.book.now.suffixes _ c.in_ok-place.field-0 c.in-Some.place c.index-suffixes-place.result c.in_ok-place.ensures found read in
    ap Some (c.in_ok-source-in-Some.ensures ∙ ap (λ n. take n name ++ c.as_bytes-in-Some.result.now) cut ∙ ap (λ s. take (length name - length old) name ++ s) suffix)
    ∙ ap (option_map (source_at c.args.book.now name old)) (sym found)
    ∙ source_is c.args.book.now c.args.listing.now name c.in_ok-stem.stem old c.in_ok-place.field-0 (search rules) c.in_ok-old.ensures.value stem c.in_ok-place.ensures

pub returns : goal.returns
returns c =
    let name : Name = c.args.name.now in
    let old : Name = c.in_ok-old.old in
    let cut : c.saturating_sub-cut.result ≡ length name - length old =
    c.saturating_sub-cut.ensures ∙ ap (λ (bs : Name). length bs - length c.as_bytes-2.result.now) c.as_bytes.ensures ∙ ap (λ (bs : Name). length name - length bs) c.as_bytes-2.ensures in
    let stem : c.in_ok-stem.stem ≡ take (length name - length old) name ++ [] = c.in_ok-stem.ensures ∙ ap (λ n. take n name ++ []) cut in
    ap (option_map (source_at c.args.book.now name old)) (sym c.in-None.is)
    ∙ source_is c.args.book.now c.args.listing.now name c.in_ok-stem.stem old c.in_ok-place.field-0 (search rules) c.in_ok-old.ensures.value stem c.in_ok-place.ensures
