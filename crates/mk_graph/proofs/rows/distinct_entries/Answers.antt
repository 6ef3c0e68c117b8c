use Rattle.std.proofs.Common.{◌≡◌, ◌∙◌, sym, ap, subst, ◌<◌, length, arith, get_or, List, ℕ, ◌+◌}
use Rattle.std.specs.Prelude.{Vec, None}
use Rattle.std.specs.Global.{Global}
use Rattle.std.proofs.lemmas.List.{length_push}
use Rattle.mk_graph.specs.Rows.{row}
use Rattle.mk_graph.specs.Seen.{firsts_of}
use Rattle.mk_graph.proofs.Rowing.{rows_push, rows_end}
use Rattle.mk_graph.proofs.rows.distinct_entries.Goals as goal

pub loop-entry-preserved : goal.loop-entry-preserved
loop-entry-preserved c =
    let i = c.loop-entry.invariant in
    record {
      rows = subst (λ (rs : List (Vec ℕ Global)). (p : ℕ) → p < length rs → row rs p ≡ firsts_of (get_or c.args.entries.now p None)) (sym c.in_ok-push.ensures.items)
          (rows_push c.loop-entry.rows.items c.in_ok-distinct.field-0 c.args.entries.now c.loop-entry.entry-index c.entry-item.result i.long c.loop-entry-test.true c.entry-item.is c.in_ok-distinct.ensures.row i.rows);
      long = ap length c.in_ok-push.ensures.items ∙ length_push c.loop-entry.rows.items c.in_ok-distinct.field-0 ∙ ap (λ n. n + 1) i.long;
      marked = c.in_ok-distinct.ensures.marked;
    }

pub returns-clause-rows : goal.returns-clause-rows
returns-clause-rows c = rows_end c.loop-entry.rows.items c.args.entries.now (let l = c.loop-entry.invariant.long in let a = c.loop-entry-test.false in let b = c.loop-entry.auto.entry-index-end in omega arith) c.loop-entry.invariant.rows
