use Rattle.std.proofs.Common.{arith, length, sym, subst}
use Rattle.std.proofs.lemmas.Bool.{eqb-false}
use Rattle.mk_proof.specs.Drafts.{Adds}
use Rattle.mk_proof.specs.ProofText.{words_of}
use Rattle.mk_proof.proofs.ReadLines.{bad_here, good_here, missing, more_bytes}
use Rattle.mk_proof.proofs.reading.read_proof.Goals as goal
use Rattle.mk_proof.proofs.reading.read_proof.Goals.{in_default-finish-via-in-Some-finish+else-is_empty, in_default-finish-via-in_default-finish}

pub returns-then-not-branch : goal.returns-then-not-branch
returns-then-not-branch c =
    let adds = subst (λ b. Adds c.lines.draft (words_of c.in-Some.line.now) b c.add.new.self) c.if-not-branch.true c.in_ok-add.ensures in
    rw c.bad_line.ensures
    (bad_here c.args.text.now c.lines.good c.lines.rest.now c.lines.draft c.lines.invariant c.in-Some.line.now c.in-Some.behind.now c.in-Some.ensures.cut adds)

pub lines-preserved : goal.lines-preserved
lines-preserved c =
    let adds = subst (λ b. Adds c.lines.draft (words_of c.in-Some.line.now) b c.add.new.self) c.if-not-branch.false c.in_ok-add.ensures in
    good_here c.args.text.now c.lines.good c.lines.rest.now c.lines.draft c.lines.invariant c.in-Some.line.now c.in-Some.behind.now c.in-Some.ensures.cut c.add.new.self adds.0 adds.1

pub returns-in_default-finish : goal.returns-in_default-finish
returns-in_default-finish c =
    rw c.bad_line-in_default-finish.ensures (elim c.in_default-finish.branch [
      | in_default-finish-via-in-Some-finish+else-is_empty w ↦
          let some = eqb-false (length c.lines.rest.now) 0 (sym w.if-is_empty.ensures) in
          more_bytes c.args.text.now c.lines.good c.lines.rest.now c.lines.draft c.lines.invariant c.in_default.ensures.none (omega (arith, some))
      | in_default-finish-via-in_default-finish w ↦
          missing c.args.text.now c.lines.good c.lines.rest.now c.lines.draft c.lines.invariant c.in_default.ensures.none (rw w.in_default-finish.is at c.finish.ensures.none)
    ])
