use Rattle.std.proofs.Common.{Option, ap, sym, subst, ◌∙◌}
use Rattle.mk_name.specs.Gives.{HaltsAmong}
use Rattle.mk_name.specs.declared.fault.Halt.{Halt}
use Rattle.mk_text.specs.Lexical.{physical_lines}
use Rattle.mk_text.specs.LineFeed.{HasEndedBy, Reader}
use Rattle.mk_text.specs.declared.line_sink.Stop.{Stop}
use Rattle.mk_text.proofs.Feeding.{halts_of}
use Rattle.mk_text.proofs.line_feed.LineFeed.finish.Goals as goal

pub returns-in-Some-clause-value : goal.returns-in-Some-clause-value
returns-in-Some-clause-value g c = λ root text before.
    subst (λ (h : Halt). HaltsAmong h (g.S.LineSink.says root (physical_lines text))) (sym c.halt_of.ensures)
    (halts_of (g.S.LineSink.has root) (g.S.LineSink.says root) g.S.LineSink.source g.S.LineSink.KEPT (physical_lines text) c.in-Some.stop
    (subst (λ (s : Option Stop). HasEndedBy s (g.S.LineSink.has root) (g.S.LineSink.says root) g.S.LineSink.source (physical_lines text) c.end.new.self.sink)
    (ap (λ (r : Reader g.row.S.Denot). r.stop) (sym c.reader.view_is) ∙ c.in-Some.is) (c.end.ensures.lines root text before)))
