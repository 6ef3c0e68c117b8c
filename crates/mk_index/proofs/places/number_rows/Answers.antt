use Rattle.std.proofs.Common.{map}
use Rattle.std.specs.List.{flat_map}
use Rattle.mk_path.proofs.Numbering.{behind}
use Rattle.mk_index.proofs.Uniting.{items, moved_lent, only_joined, union_at}
use Rattle.mk_index.proofs.places.number_rows.Goals as goal

pub returns-clause-reads : goal.returns-clause-reads
returns-clause-reads c =
    let read = c.in_ok-read.read in
    let made = c.in_ok-union.union in
    let ps = map behind made.paths.items in
    let union = union_at read.paths.items c.deref.result.now c.in_ok-written.written.paths.items c.deref-2.result.now ps made.firsts.items made.seconds.items
    c.deref.ensures.value c.deref-2.ensures.value c.in_ok-union.ensures in
    c.in_ok-reads.ensures ps
    (moved_lent ps (map behind read.paths.items) (flat_map items c.args.reads.now) made.firsts.items read.numbers.items c.deref-3.result.now c.deref-4.result.now
    c.deref-3.ensures.value c.deref-4.ensures.value union.first_places c.in_ok-read.ensures.places)

pub returns-clause-writes : goal.returns-clause-writes
returns-clause-writes c =
    let written = c.in_ok-written.written in
    let made = c.in_ok-union.union in
    let ps = map behind made.paths.items in
    let union = union_at c.in_ok-read.read.paths.items c.deref.result.now written.paths.items c.deref-2.result.now ps made.firsts.items made.seconds.items
    c.deref.ensures.value c.deref-2.ensures.value c.in_ok-union.ensures in
    c.in_ok-writes.ensures ps
    (moved_lent ps (map behind written.paths.items) (flat_map items c.args.writes.now) made.seconds.items written.numbers.items c.deref-5.result.now c.deref-6.result.now
    c.deref-5.ensures.value c.deref-6.ensures.value union.second_places c.in_ok-written.ensures.places)

pub returns-clause-only : goal.returns-clause-only
returns-clause-only c =
    let read = c.in_ok-read.read in
    let written = c.in_ok-written.written in
    let made = c.in_ok-union.union in
    let ps = map behind made.paths.items in
    let union = union_at read.paths.items c.deref.result.now written.paths.items c.deref-2.result.now ps made.firsts.items made.seconds.items
    c.deref.ensures.value c.deref-2.ensures.value c.in_ok-union.ensures in
    only_joined (flat_map items c.args.reads.now) (flat_map items c.args.writes.now) (map behind read.paths.items) (map behind written.paths.items) ps
    c.in_ok-read.ensures.only c.in_ok-written.ensures.only union.only
