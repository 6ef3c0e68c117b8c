use Rattle.std.proofs.Common.{◌≡◌, ◌++◌, ◌∷◌, [], ap, sym, ◌∙◌, append_assoc}
use Rattle.std.specs.Option.{option_map_or}
use Rattle.std.proofs.lemmas.Result.{err_from_is_err_and}
use Rattle.mk_text.specs.Lexical.{physical_lines}
use Rattle.mk_text.proofs.FedLines.{some_lines}
use Rattle.mk_text.proofs.Feeding.{piece_lines, stops_in}
use Rattle.mk_text.proofs.line_feed.LineFeed.read.Goals as goal

pub lines-init : goal.lines-init
lines-init g c = λ root text before. record {
  ended = before.ended;
  open_line = before.open_line;
  whole = piece_lines text c.args.piece.now _ _ before.ended before.open_line before.cut c.split_line.ensures.lines;
  way = before.way;
}

pub returns-in_err-end_line-clause-err : goal.returns-in_err-end_line-clause-err
returns-in_err-end_line-clause-err g c =
    let p = err_from_is_err_and c.from_residual.result c.from_residual.ensures.1 in
    rw (p.1, p.2) (λ root text before.
    let on = c.lines.invariant root text before in
    let left : option_map_or (λ r. physical_lines r.now) c.lines.rest [] ≡ physical_lines c.in-Some.text.now = ap (λ rest. option_map_or (λ r. physical_lines r.now) rest []) c.in-Some.is in
    stops_in (g.S.LineSink.has root) (g.S.LineSink.says root) g.S.LineSink.source g.S.LineSink.KEPT (text ++ c.args.piece.now) c.in_err-end_line.field-0.0
    (on.ended ++ (on.open_line ++ c.lines.line.now) ∷ []) (physical_lines c.in-Some.text.now)
    (append_assoc on.ended ((on.open_line ++ c.lines.line.now) ∷ []) _ ∙ ap (λ ls. on.ended ++ (on.open_line ++ c.lines.line.now) ∷ ls) (sym left) ∙ on.whole)
    (some_lines c.in-Some.text.now)
    (c.in_err-end_line.ensures.err root on.ended on.open_line on.way))

pub lines-preserved : goal.lines-preserved
lines-preserved g c = λ root text before.
    let on = c.lines.invariant root text before in
    record {
      ended = on.ended ++ (on.open_line ++ c.lines.line.now) ∷ [];
      open_line = [];
      whole =
          append_assoc on.ended ((on.open_line ++ c.lines.line.now) ∷ []) _
          ∙ ap (λ ls. on.ended ++ (on.open_line ++ c.lines.line.now) ∷ ls)
          (sym (ap (λ rest. option_map_or (λ r. physical_lines r.now) rest []) c.in-Some.is ∙ c.split_line-in-Some.ensures.lines))
          ∙ on.whole;
      way = c.in_ok-end_line.ensures.ok root on.ended on.open_line on.way;
    }

pub returns-in_err-keep-clause-err : goal.returns-in_err-keep-clause-err
returns-in_err-keep-clause-err g c =
    let p = err_from_is_err_and c.from_residual-in_err-keep.result c.from_residual-in_err-keep.ensures.1 in
    rw (p.1, p.2) (λ root text before.
    let on = c.lines.invariant root text before in
    record { ended = on.ended; open_line = on.open_line ++ c.lines.line.now; cut = record { whole = sym on.whole ∙ ap (λ ls. on.ended ++ (on.open_line ++ c.lines.line.now) ∷ ls) (ap (λ rest. option_map_or (λ r. physical_lines r.now) rest []) c.in_default.is) }; stopped = tt })

pub returns-clause-ok : goal.returns-clause-ok
returns-clause-ok g c = λ root text before.
    let on = c.lines.invariant root text before in
    record {
      ended = on.ended;
      open_line = on.open_line ++ c.lines.line.now;
      cut = record { whole = sym on.whole ∙ ap (λ ls. on.ended ++ (on.open_line ++ c.lines.line.now) ∷ ls) (ap (λ rest. option_map_or (λ r. physical_lines r.now) rest []) c.in_default.is) };
      way = c.in_ok-keep.ensures root on.ended on.open_line on.way;
    }
