use Rattle.std.proofs.Common.{ℕ, ◌∙◌, ◌+◌, List, ◌++◌, append_assoc, arith, ap, drop, get_or, subst, sym, take}
use Rattle.std.proofs.lemmas.List.{take-append-drop, take_more}
use Rattle.mk_report.specs.FixText.{AreFixLines}
use Rattle.mk_report.specs.declared.fixes.Form.TheVariants.{Makefile}
use Rattle.mk_report.proofs.FixLines.{fix_lines_more}
use Rattle.mk_report.proofs.fixes.push_lines.Goals as goal

pub loop-edge-preserved : goal.loop-edge-preserved
loop-edge-preserved c =
    let jobs = c.args.jobs.now in
    let edges = c.args.edges.now in
    let i = c.loop-edge.edge-index in
    let so_far = c.loop-edge.invariant in
    let next = c.in_ok-push_fix_line.ensures in (
      so_far.0 ++ next.0,
      subst (λ (some : List (ℕ × ℕ)). AreFixLines Makefile jobs some (so_far.0 ++ next.0)) (sym (take_more edges i (0, 0) c.loop-edge-test.true))
          (fix_lines_more Makefile jobs (take i edges) so_far.0 (get_or edges i (0, 0)) next.0 so_far.1 next.1),
      next.2 ∙ ap (λ t. t ++ next.0) so_far.2 ∙ append_assoc c.args.out.now.items so_far.0 next.0,
    )

pub returns-then-len-gt-TEXT_LIMIT : goal.returns-then-len-gt-TEXT_LIMIT
returns-then-len-gt-TEXT_LIMIT c =
    let jobs = c.args.jobs.now in
    let edges = c.args.edges.now in
    let i = c.loop-edge.edge-index in
    let so_far = c.loop-edge.invariant in
    let next = c.in_ok-push_fix_line.ensures in (
      take (i + 1) edges,
      drop (i + 1) edges,
      so_far.0 ++ next.0,
      sym (take-append-drop (i + 1) edges),
      subst (λ (some : List (ℕ × ℕ)). AreFixLines Makefile jobs some (so_far.0 ++ next.0)) (sym (take_more edges i (0, 0) c.loop-edge-test.true))
          (fix_lines_more Makefile jobs (take i edges) so_far.0 (get_or edges i (0, 0)) next.0 so_far.1 next.1),
      next.2 ∙ ap (λ t. t ++ next.0) so_far.2 ∙ append_assoc c.args.out.now.items so_far.0 next.0,
      (let len = c.len.ensures in let ok = c.push_fix_line.new.out.ok.0 in let over = c.if-len-gt-TEXT_LIMIT.true in omega (arith, len, ok, over)),
    )
