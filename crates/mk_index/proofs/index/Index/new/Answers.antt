use Rattle.std.proofs.Common.{◌∙◌, Bor, List, map, subst, sym, arith}
use Rattle.std.proofs.lemmas.List.{length-map}
use Rattle.mk_index.specs.Index.{Index}
use Rattle.mk_path.specs.declared.path.Path.{Path}
use Rattle.mk_index.specs.Nearest.{AreWaysUp}
use Rattle.mk_path.proofs.Numbering.{behind}
use Rattle.mk_index.proofs.Building.{all_numbers, is_indexed, is_whole}
use Rattle.mk_index.proofs.Uniting.{rows_sorted}
use Rattle.mk_index.proofs.index.Index.new.Goals as goal

pub number_rows-requires-clause-reads : goal.number_rows-requires-clause-reads
number_rows-requires-clause-reads c = rows_sorted c.args.reads.now c.requires.rise.reads

pub number_rows-requires-clause-writes : goal.number_rows-requires-clause-writes
number_rows-requires-clause-writes c = rows_sorted c.args.writes.now c.requires.rise.writes

pub holders-requires : goal.holders-requires
holders-requires c =
    let numbered = c.in_ok-numbered.numbered in
    let all = all_numbers (map behind numbered.paths.items) numbered.writes c.args.writes.now c.in_ok-numbered.ensures.writes in
    record { few = omega (arith, all, c.requires.same, c.requires.few) }

pub holders-requires-2 : goal.holders-requires-2
holders-requires-2 c =
    let numbered = c.in_ok-numbered.numbered in
    let all = all_numbers (map behind numbered.paths.items) numbered.reads c.args.reads.now c.in_ok-numbered.ensures.reads in
    record { few = omega (arith, all, c.requires.few) }

pub invariant_of-result : goal.invariant_of-result
invariant_of-result c =
    let numbered = c.in_ok-numbered.numbered in
    let paths = map behind numbered.paths.items in
    let long = length-map numbered.paths.items behind in
    let count = numbered.paths.ok.0 ∙ sym long in
    let ways = subst (λ (ps : List (Bor Path)). AreWaysUp c.args.root.now (map behind ps) c.in_ok-ups.ups) c.deref.ensures.value c.in_ok-ups.ensures.ways in
    let index : Index = record {
      reads = numbered.reads;
      writes = numbered.writes;
      ups = c.in_ok-ups.ups;
      writers = c.in_ok-writers.writers;
      readers = c.in_ok-readers.readers;
    } in
    is_whole c.args.root.now paths c.args.reads.now c.args.writes.now index (record { rise = c.in_ok-numbered.ensures.rise; few = omega (arith, long, c.in_ok-numbered.ensures.few) })
    ways c.in_ok-numbered.ensures.reads c.in_ok-numbered.ensures.writes
    (c.in_ok-writers.ensures.count ∙ c.len.ensures ∙ count) (λ t n below. c.in_ok-writers.ensures.hold t n (omega (arith, below, c.len.ensures, count)))
    (c.in_ok-readers.ensures.count ∙ c.len-2.ensures ∙ count) (λ t n below. c.in_ok-readers.ensures.hold t n (omega (arith, below, c.len-2.ensures, count)))
    c.requires.rise c.requires.same

pub returns-clause-count : goal.returns-clause-count
returns-clause-count c =
    let numbered = c.in_ok-numbered.numbered in
    all_numbers (map behind numbered.paths.items) numbered.reads c.args.reads.now c.in_ok-numbered.ensures.reads

pub returns-clause-indexed : goal.returns-clause-indexed
returns-clause-indexed c =
    let numbered = c.in_ok-numbered.numbered in
    let paths = map behind numbered.paths.items in
    let long = length-map numbered.paths.items behind in
    let count = numbered.paths.ok.0 ∙ sym long in
    let ways = subst (λ (ps : List (Bor Path)). AreWaysUp c.args.root.now (map behind ps) c.in_ok-ups.ups) c.deref.ensures.value c.in_ok-ups.ensures.ways in
    let index : Index = record {
      reads = numbered.reads;
      writes = numbered.writes;
      ups = c.in_ok-ups.ups;
      writers = c.in_ok-writers.writers;
      readers = c.in_ok-readers.readers;
    } in
    is_indexed c.args.root.now paths c.args.reads.now c.args.writes.now index (record { rise = c.in_ok-numbered.ensures.rise; few = omega (arith, long, c.in_ok-numbered.ensures.few) })
    ways c.in_ok-numbered.ensures.reads c.in_ok-numbered.ensures.writes
    (c.in_ok-writers.ensures.count ∙ c.len.ensures ∙ count) (λ t n below. c.in_ok-writers.ensures.hold t n (omega (arith, below, c.len.ensures, count)))
    (c.in_ok-readers.ensures.count ∙ c.len-2.ensures ∙ count) (λ t n below. c.in_ok-readers.ensures.hold t n (omega (arith, below, c.len-2.ensures, count)))
