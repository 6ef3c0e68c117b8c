use Rattle.std.proofs.Common.{Ok, ◌∙◌, sym, ap, arith, subst}
use Rattle.std.specs.Option.{unwrap_or}
use Rattle.std.proofs.lemmas.Grind.{common_steps}
use Rattle.std.proofs.lemmas.List.{append-nil}
use Rattle.mk_name.specs.Gives.{Halts}
use Rattle.mk_lines.specs.LogicalLines.{opening}
use Rattle.mk_lines.proofs.Sequence.{more_halt, more_line, more_none, small_text}
use Rattle.mk_lines.proofs.Stand.{Behind, behind_more, behind_none, line_stands}
use Rattle.mk_lines.proofs.lines.lines.Goals as goal
use Rattle.mk_lines.proofs.lines.lines.Goals.{in-Some-2+in_ok-push, in_default-2}

pub returns-in_err-line-clause-lines : goal.returns-in_err-line-clause-lines
returns-in_err-line-clause-lines c =
    let text = c.args.text.now in
    let halt = c.in_err-line.field-0.0 in
    let whole = rw c.in-Some.is at c.blocks-2.invariant.whole in
    let gives = more_halt _ c.blocks-2.found.items c.blocks-2.below c.blocks-2.number _ _ _ whole c.split_block-block.ensures.blocks halt (c.in_err-line.ensures) in
    let halts = subst (Halts halt) (sym (small_text text (omega arith))) gives in
    grind (arith, common_steps, halts)

pub blocks-2-preserved : goal.blocks-2-preserved
blocks-2-preserved c =
    let block = c.split_block-block.result in
    let n = c.blocks-2.number in
    let whole = rw c.in-Some.is at c.blocks-2.invariant.whole in
    let bound = rw c.in-Some.is at c.blocks-2.invariant.bound in
    let stands = rw c.in-Some.is at c.blocks-2.invariant.stands in
    let less = c.split_block-block.ensures.less in
    elim c.match-branch-2.branch [
      | in-Some-2+in_ok-push w ↦
          let line = w.in-Some-2.line in
          let gives = c.in_ok-line.ensures ∙ ap Ok w.in-Some-2.is in
          let pushed = ap (λ v. v.items) w.found-is ∙ w.in_ok-push.ensures.items in
          record {
            whole =
                more_line _ c.blocks-2.found.items c.blocks-2.below n _ _ _ whole c.split_block-block.ensures.blocks line _ _ block.line_count
                gives pushed (w.below-is ∙ w.opens-below.ensures ∙ ap (λ kind. unwrap_or (opening kind) c.blocks-2.below) w.kind.ensures.kind)
                c.split_block-block.ensures.count;
            bound = omega arith;
            stands =
                behind_more _ _ _ block.bytes.now c.in-Some.text block.later line stands c.split_block-block.ensures.whole
                (line_stands n block.bytes.now _ line gives) pushed;
          }
      | in_default-2 w ↦
          let gives = c.in_ok-line.ensures ∙ ap Ok w.in_default-2.is in
          let found = ap (λ v. v.items) w.found-is in
          record {
            whole =
                more_none _ _ c.blocks-2.below n _ _ _ whole c.split_block-block.ensures.blocks _ _ block.line_count gives found w.below-is
                c.split_block-block.ensures.count;
            bound = omega arith;
            stands = subst (λ found. Behind c.args.text.now found block.later) (sym found) (behind_none c.args.text.now c.blocks-2.found.items block.bytes.now c.in-Some.text block.later stands c.split_block-block.ensures.whole);
          }
    ]

pub returns-clause-lines : goal.returns-clause-lines
returns-clause-lines c =
    let whole = rw c.in_default.is at c.blocks-2.invariant.whole in
    small_text c.args.text.now (omega arith) ∙ whole ∙ ap Ok (append-nil c.blocks-2.found.items)
