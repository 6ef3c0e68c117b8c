use Rattle.std.proofs.Common.{◌≡◌, ◌+◌, ◌∙◌, true, false, cond, [], ◌∷◌, Some, None, Ok, Err, arith, length, ap, subst, sym}
use Rattle.std.specs.Prelude.{is_some}
use Rattle.std.specs.BTreeMap.{get}
use Rattle.std.specs.Cmp.Lexicographic.{slice_cmp}
use Rattle.std.specs.Ordering.{nat_cmp}
use Rattle.mk_name.specs.Gives.{Halts}
use Rattle.mk_name.specs.Names.{has, kept, same_name}
use Rattle.mk_name.specs.declared.fault.Halt.{Halt}
use Rattle.mk_name.specs.declared.fault.Kind.TheVariants.{TaskTwice}
use Rattle.mk_task.specs.Tasks.{limit_passed, reported}
use Rattle.mk_due.specs.declared.tally.Tally.{Tally}
use Rattle.mk_due.specs.Items.{DueItem, is_task, names_of, with_item}
use Rattle.mk_due.proofs.Adding.{AreCounts, IsOneMore, item_new, item_twice, none_from, number_there, tally_push, there_is, within_passed}
use Rattle.mk_due.proofs.tally.Tally.push.Goals as goal

pub returns-then-is_some-clause-fault : goal.returns-then-is_some-clause-fault
returns-then-is_some-clause-fault c =
    let items = c.args.self.now.items.items in
    let item = c.args.item in
    let here : has same_name (names_of items) item.node.name ≡ true =
    sym (there_is c.args.self.now.names items _ item.node.name c.number.result c.is_some.result c.requires.tally.names_are c.name.ensures c.number.ensures c.is_some.ensures) ∙ c.if-is_some.true in
    subst (λ (h : Halt). Halts h (with_item c.args.place items item)) (sym c.in_ok-twice.ensures)
    (item_twice c.args.place items item here ∙ ap (λ n. Err (reported TaskTwice c.args.place (n ∷ []))) (sym (c.in_ok-copy.ensures ∙ c.name-then-is_some.ensures)))

pub returns-in-Some-clause-fault : goal.returns-in-Some-clause-fault
returns-in-Some-clause-fault c =
    let items = c.args.self.now.items.items in
    let item = c.args.item in
    let edges = c.saturating_add-edges.result in
    let paths = c.saturating_add-paths.result in
    let absent : has same_name (names_of items) item.node.name ≡ false =
    sym (there_is c.args.self.now.names items _ item.node.name c.number.result c.is_some.result c.requires.tally.names_are c.name.ensures c.number.ensures c.is_some.ensures) ∙ c.if-is_some.false in
    let reads = ap (λ (i : DueItem). length i.reads) c.item.view_is in
    let writes = ap (λ (i : DueItem). length i.writes) c.item.view_is in
    let counts : AreCounts items item edges paths = record {
      edges_are = omega (arith, c.needs.ensures, c.requires.tally.edges_are);
      paths_are = omega (arith, reads, writes, c.requires.tally.paths_are);
    } in
    let many : c.len-3.result ≡ length items = omega arith in
    item_new c.args.place items item absent
    ∙ within_passed c.args.place items item edges paths (Some c.in-Some.kind) counts (c.in-Some.ensures ∙ ap (λ n. limit_passed (n + 1) edges paths) many)
    ∙ ap Err (sym c.unnamed.ensures)

pub returns-clause-tally : goal.returns-clause-tally
returns-clause-tally c =
    let items = c.args.self.now.items.items in
    let item = c.args.item in
    let edges = c.saturating_add-edges.result in
    let paths = c.saturating_add-paths.result in
    let new : Tally = record { items = c.push.new.self; names = c.put.new.self; tasks = c.note_task.new.tasks; edges = edges; paths = paths } in
    let absent : has same_name c.args.self.now.names item.node.name ≡ false =
    ap (has same_name c.args.self.now.names) (sym c.name.ensures) ∙ sym (c.is_some.ensures ∙ ap is_some c.number.ensures ∙ number_there c.args.self.now.names _) ∙ c.if-is_some.false in
    let reads = ap (λ (i : DueItem). length i.reads) c.item.view_is in
    let writes = ap (λ (i : DueItem). length i.writes) c.item.view_is in
    let counts : AreCounts items item edges paths = record {
      edges_are = omega (arith, c.needs.ensures, c.requires.tally.edges_are);
      paths_are = omega (arith, reads, writes, c.requires.tally.paths_are);
    } in
    let many : c.len-3.result ≡ length items = omega arith in
    let number : c.len-4.result ≡ length items = omega arith in
    let none : None ≡ limit_passed (length items + 1) edges paths =
    none_from c.limit_passed.result c.in_default.not-Some ∙ c.limit_passed.ensures ∙ ap (λ n. limit_passed (n + 1) edges paths) many in
    let more : IsOneMore c.args.self.now item new = record {
      items_are = c.in_ok-push.ensures.items;
      counts = counts;
      names_are = c.in_ok-put.ensures.kept ∙ ap (λ n. kept same_name c.args.self.now.names (n ∷ [])) c.name-2.ensures;
      tasks_are = λ label.
          c.in_ok-note_task.ensures label
          ∙ ap (λ n. cond (is_task label item) (Some n) (get (slice_cmp nat_cmp) c.args.self.now.tasks label)) number;
    } in
    tally_push c.args.self.now item new c.requires.tally c.requires.named absent c.requires.new c.requires.below none more

pub returns-clause-added : goal.returns-clause-added
returns-clause-added c =
    let items = c.args.self.now.items.items in
    let item = c.args.item in
    let edges = c.saturating_add-edges.result in
    let paths = c.saturating_add-paths.result in
    let absent : has same_name (names_of items) item.node.name ≡ false =
    sym (there_is c.args.self.now.names items _ item.node.name c.number.result c.is_some.result c.requires.tally.names_are c.name.ensures c.number.ensures c.is_some.ensures) ∙ c.if-is_some.false in
    let reads = ap (λ (i : DueItem). length i.reads) c.item.view_is in
    let writes = ap (λ (i : DueItem). length i.writes) c.item.view_is in
    let counts : AreCounts items item edges paths = record {
      edges_are = omega (arith, c.needs.ensures, c.requires.tally.edges_are);
      paths_are = omega (arith, reads, writes, c.requires.tally.paths_are);
    } in
    let many : c.len-3.result ≡ length items = omega arith in
    let none : None ≡ limit_passed (length items + 1) edges paths =
    none_from c.limit_passed.result c.in_default.not-Some ∙ c.limit_passed.ensures ∙ ap (λ n. limit_passed (n + 1) edges paths) many in
    item_new c.args.place items item absent ∙ within_passed c.args.place items item edges paths None counts none ∙ ap Ok (sym c.in_ok-push.ensures.items)
