use Rattle.std.proofs.Common.{◌≡◌, ◌+◌, ◌<◌, ◌≤◌, ◌∙◌, List, [], ◌++◌, sym, subst, get_or, length, take, Option, None, Some}
use Rattle.std.proofs.lemmas.List.{append-nil, take_all}
use Rattle.std.proofs.lemmas.Option.{get_or_from_slice_get, slice_get-get_or}
use Rattle.mk_name.specs.Names.{Name}
use Rattle.mk_rules.specs.Book.{targets_of}
use Rattle.mk_graph.specs.Places.{AreNamePlaces, Table}
use Rattle.mk_graph.proofs.Tables.{targets_more}
use Rattle.mk_graph.proofs.index.note_targets.Goals as goal
use Rattle.mk_graph.proofs.index.note_targets.Goals.{in-Some+in_ok-note_name, in_default}

pub loop-number-init : goal.loop-number-init
loop-number-init c names h = subst (λ (ns : List Name). AreNamePlaces c.args.book.now.suffixes ns c.args.table.now) (sym (append-nil names)) h

pub loop-number-preserved : goal.loop-number-preserved
loop-number-preserved c names h =
    let targets = targets_of c.args.book.now.rules in
    let n = c.loop-number.number in
    let within : n < length targets = subst (λ k. n < k) c.target_count-number-end.ensures c.loop-number-test.true in
    elim c.match-target.branch [
      | in-Some+in_ok-note_name w ↦
          subst (λ (table : Table). AreNamePlaces c.args.book.now.suffixes (names ++ take (n + 1) targets) table) (sym w.table-is)
          (targets_more c.args.book.now.suffixes names targets n w.in-Some.target.now w.note_name.new.table within
          (sym (get_or_from_slice_get targets n _ [] (sym w.in-Some.ensures)))
          (w.in_ok-note_name.ensures (names ++ take n targets) (c.loop-number.invariant names h)))
      | in_default w ↦
          let none : ◌≡◌ {A = Option Name} None (Some (get_or targets n [])) = w.in_default.ensures ∙ slice_get-get_or targets n [] within in
          absurd cc
    ]

pub returns : goal.returns
returns c names h =
    let targets = targets_of c.args.book.now.rules in
    let past : length targets ≤ c.loop-number.number = subst (λ k. k ≤ c.loop-number.number) c.target_count-number-end.ensures c.loop-number-test.false in
    subst (λ (ns : List Name). AreNamePlaces c.args.book.now.suffixes (names ++ ns) c.loop-number.table) (take_all c.loop-number.number targets past) (c.loop-number.invariant names h)
