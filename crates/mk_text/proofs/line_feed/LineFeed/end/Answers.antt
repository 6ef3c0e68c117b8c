use Rattle.std.proofs.Common.{◌≡◌, List, ℕ, Option, not, false, ap, sym, subst, ◌∙◌}
use Rattle.std.specs.Prelude.{is_some}
use Rattle.mk_text.specs.Lexical.{physical_lines}
use Rattle.mk_text.specs.LineFeed.{HasEndedBy, HasStopped, Reader}
use Rattle.mk_text.specs.declared.line_sink.Stop.{Stop}
use Rattle.mk_text.proofs.Feeding.{ends_by, last_line, under_way}
use Rattle.mk_text.proofs.line_feed.LineFeed.end.Goals as goal

pub returns-then-is_none-clause-lines : goal.returns-then-is_none-clause-lines
returns-then-is_none-clause-lines g c = λ root text before.
    let none : is_some c.self.inside.stop ≡ false = c.is_none.ensures ∙ ap not c.if-is_none.true in
    let on = under_way (g.S.LineSink.has root) (g.S.LineSink.says root) g.S.LineSink.source g.S.LineSink.KEPT text c.args.self.now (subst (λ (r : Reader g.row.S.Denot). is_some r.stop ≡ false) c.self.view_is none) before in
    let lines = last_line (g.S.LineSink.has root) (g.S.LineSink.says root) g.S.LineSink.source g.S.LineSink.KEPT text c.args.self.now on in
    let sink = ap (λ (r : Reader g.row.S.Denot). r.sink) (sym c.self-then-is_none.view_is) in
    subst (λ (s : Option Stop). HasEndedBy s (g.S.LineSink.has root) (g.S.LineSink.says root) g.S.LineSink.source (physical_lines text) c.self-then-is_none.inside.sink) (sym c.err-self-inside.ensures.value)
    (ends_by (g.S.LineSink.has root) (g.S.LineSink.says root) g.S.LineSink.source g.S.LineSink.KEPT (physical_lines text) c.self-then-is_none.inside.sink c.end_line.result c.end_line.ensures.ok c.end_line.ensures.err
    (λ ok. subst (λ (s : g.row.S.Denot). g.S.LineSink.has root s (physical_lines text)) sink
    (subst (λ (ls : List (List ℕ)). g.S.LineSink.has root c.end_line.new.self.sink ls) lines (ok root on.ended on.open_line on.way).has))
    (λ stop err. subst (λ (ls : List (List ℕ)). HasStopped g.S.LineSink.source (g.S.LineSink.says root) ls stop) lines (err root on.ended on.open_line on.way)))
