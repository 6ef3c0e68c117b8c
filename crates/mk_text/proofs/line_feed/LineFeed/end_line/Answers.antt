use Rattle.std.proofs.Common.{rules, ◌≡◌, ◌++◌, ◌∷◌, [], length, take, ap, sym, subst, ◌∙◌}
use Rattle.std.proofs.lemmas.Result.{err_from_is_err_and}
use Rattle.mk_text.specs.LineFeed.{IsUnderWay, Reader}
use Rattle.mk_text.proofs.Feeding.{ends, kept_begins, none_in, whole_begins}
use Rattle.mk_text.proofs.line_feed.LineFeed.end_line.Goals as goal
use Rattle.mk_text.proofs.line_feed.LineFeed.end_line.Goals.{then-is_empty+in_ok-add, else-is_empty+in_ok-keep+in_ok-add-2}

pub returns-in_err-add-2-clause-err : goal.returns-in_err-add-2-clause-err
returns-in_err-add-2-clause-err g c =
    let p = err_from_is_err_and c.from_residual-in_err-add-2.result c.from_residual-in_err-add-2.ensures.1 in
    let kept = g.S.LineSink.KEPT in
    rw (p.1, p.2) (λ root ended open_line before.
    let line = open_line ++ c.args.last.now in
    let way = subst (λ (r : Reader g.row.S.Denot). IsUnderWay (g.S.LineSink.has root) kept ended line r) (sym c.self-else-is_empty.view_is)
    (c.in_ok-keep.ensures root ended open_line before) in
    c.in_err-add-2.ensures.err root ended line way.has
    (record { place_is = way.place_is; begins = ap (take kept) c.as_slice.ensures.value ∙ kept_begins kept line c.self-else-is_empty.inside.open_line.items way.begun }))

pub returns-clause-ok : goal.returns-clause-ok
returns-clause-ok g c = λ root ended open_line before.
    let kept = g.S.LineSink.KEPT in
    let last = c.args.last.now in
    let line = open_line ++ last in
    let sink_is = ap (λ (r : Reader g.row.S.Denot). r.sink) c.self-2.view_is in
    let place_is = ap (λ (r : Reader g.row.S.Denot). r.place) c.self-2.view_is in
    let open_is = ap (λ (r : Reader g.row.S.Denot). r.open_line) c.self-2.view_is in
    elim c.if-is_empty.branch [
      | then-is_empty+in_ok-add w ↦
          let old = c.self.inside.open_line.items in
          let none : length old ≡ 0 = search (rules, c.is_empty.ensures, w.if-is_empty.true) in
          let way = subst (λ (r : Reader g.row.S.Denot). IsUnderWay (g.S.LineSink.has root) kept ended open_line r) (sym c.self.view_is) before in
          let has = w.in_ok-add.ensures.ok root ended line way.has (record { place_is = way.place_is; begins = whole_begins kept open_line last old way.begun none }) in
          let sink : c.self-2.inside.sink ≡ w.add.new.self = sink_is ∙ ap (λ (r : Reader g.row.S.Denot). r.sink) w.self-is in
          let place : c.self-2.inside.place ≡ c.self.inside.place = place_is ∙ ap (λ (r : Reader g.row.S.Denot). r.place) w.self-is in
          let open_same : c.self-2.inside.open_line.items ≡ old = open_is ∙ ap (λ (r : Reader g.row.S.Denot). r.open_line) w.self-is in
          ends (g.S.LineSink.has root) kept ended line c.self-2.inside.place _ (subst (λ (s : g.row.S.Denot). g.S.LineSink.has root s (ended ++ line ∷ [])) (sym sink) has)
          (place ∙ way.place_is) c.saturating_add-self-inside.ensures (open_same ∙ none_in old none)
      | else-is_empty+in_ok-keep+in_ok-add-2 w ↦
          let way = subst (λ (r : Reader g.row.S.Denot). IsUnderWay (g.S.LineSink.has root) kept ended line r) (sym w.self-else-is_empty.view_is)
          (w.in_ok-keep.ensures root ended open_line before) in
          let has = w.in_ok-add-2.ensures.ok root ended line way.has
          (record { place_is = way.place_is; begins = ap (take kept) w.as_slice.ensures.value ∙ kept_begins kept line w.self-else-is_empty.inside.open_line.items way.begun }) in
          let sink : c.self-2.inside.sink ≡ w.add-else-is_empty.new.self = sink_is ∙ ap (λ (r : Reader g.row.S.Denot). r.sink) w.self-is in
          let place : c.self-2.inside.place ≡ w.self-else-is_empty.inside.place = place_is ∙ ap (λ (r : Reader g.row.S.Denot). r.place) w.self-is in
          let none : c.self-2.inside.open_line.items ≡ [] = open_is ∙ ap (λ (r : Reader g.row.S.Denot). r.open_line) w.self-is ∙ w.clear.ensures.items in
          ends (g.S.LineSink.has root) kept ended line c.self-2.inside.place _ (subst (λ (s : g.row.S.Denot). g.S.LineSink.has root s (ended ++ line ∷ [])) (sym sink) has)
          (place ∙ way.place_is) c.saturating_add-self-inside.ensures none
    ]
