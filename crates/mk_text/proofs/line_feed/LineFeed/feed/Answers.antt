use Rattle.std.proofs.Common.{◌≡◌, ◌++◌, Option, not, true, false, is_some, ap, sym, subst, ◌∙◌}
use Rattle.mk_text.specs.LineFeed.{HasRead, HasReadBy, IsIn, Reader}
use Rattle.mk_text.specs.declared.line_sink.Stop.{Stop}
use Rattle.mk_text.proofs.Feeding.{reads_by, stopped_reads, under_way}
use Rattle.mk_text.proofs.line_feed.LineFeed.feed.Goals as goal
use Rattle.mk_text.proofs.line_feed.LineFeed.feed.Goals.{then-is_none, else-is_none}

pub returns-clause-read : goal.returns-clause-read
returns-clause-read g c = λ root text before.
    let all = text ++ c.args.piece.now in
    let Read : Reader g.row.S.Denot → Type 0 = λ r. HasRead (g.S.LineSink.has root) (g.S.LineSink.says root) g.S.LineSink.source g.S.LineSink.KEPT all r in
    let inside = subst (λ (r : Reader g.row.S.Denot). HasRead (g.S.LineSink.has root) (g.S.LineSink.says root) g.S.LineSink.source g.S.LineSink.KEPT text r) (sym c.self.view_is) before in
    elim c.if-is_none.branch [
      | then-is_none w ↦
          let none : is_some c.self.inside.stop ≡ false = c.is_none.ensures ∙ ap not w.if-is_none.true in
          let on = under_way (g.S.LineSink.has root) (g.S.LineSink.says root) g.S.LineSink.source g.S.LineSink.KEPT text c.args.self.now (subst (λ (r : Reader g.row.S.Denot). is_some r.stop ≡ false) c.self.view_is none) before in
          let same = w.self-then-is_none.view_is in
          let move : (r : Reader g.row.S.Denot) → IsIn (g.S.LineSink.has root) g.S.LineSink.KEPT all r → IsIn (g.S.LineSink.has root) g.S.LineSink.KEPT all (record r { stop = w.err-self-inside.result }) =
          λ r read. record { ended = read.ended; open_line = read.open_line; cut = read.cut; way = record { has = read.way.has; place_is = read.way.place_is; begun = read.way.begun } } in
          let new : Reader g.row.S.Denot = record w.read.new.self { stop = w.err-self-inside.result } in
          subst Read (ap (λ (r : Reader g.row.S.Denot). record r { stop = w.err-self-inside.result }) (sym same) ∙ sym w.self-is)
          (subst (λ (s : Option Stop). HasReadBy s (g.S.LineSink.has root) (g.S.LineSink.says root) g.S.LineSink.source g.S.LineSink.KEPT all new) (sym w.err-self-inside.ensures.value)
          (reads_by (g.S.LineSink.has root) (g.S.LineSink.says root) g.S.LineSink.source g.S.LineSink.KEPT all new w.read.result w.read.ensures.ok w.read.ensures.err (λ ok. move _ (ok root text on)) (λ stop err. err root text on)))
      | else-is_none w ↦
          let some : is_some c.self.inside.stop ≡ true = c.is_none.ensures ∙ ap not w.if-is_none.false in
          subst Read (c.self.view_is ∙ sym w.self-is) (stopped_reads (g.S.LineSink.has root) (g.S.LineSink.says root) g.S.LineSink.source g.S.LineSink.KEPT c.self.inside.stop text c.args.piece.now _ some inside)
    ]
