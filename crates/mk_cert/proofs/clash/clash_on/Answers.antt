use Rattle.std.proofs.Common.{◌∙◌, inl, inr, sym}
use Rattle.std.proofs.lemmas.Bool.{false≢true}
use Rattle.mk_cert.specs.Standing.{row_of}
use Rattle.mk_cert.proofs.OnPaths.{clash_of, of_back, of_either, one_of}
use Rattle.mk_cert.proofs.clash.clash_on.Goals as goal

pub returns-else-clash_on_row : goal.returns-else-clash_on_row
returns-else-clash_on_row c =
    let jobs = c.args.jobs.now in
    let first = row_of jobs c.args.a in
    let second = row_of jobs c.args.b in (
      λ is. clash_of jobs c.args.a c.args.b c.args.text.now c.if-a-b.true
          (of_back jobs c.args.a c.args.b first second c.args.text.now (c.clash_on_row-else-clash_on_row.ensures.0 is)),
      λ clash. elim (of_either jobs c.args.a c.args.b first second c.args.text.now (one_of jobs c.args.a c.args.b c.args.text.now clash)) [
        | inl front ↦ absurd (false≢true (sym c.if-clash_on_row.false ∙ c.clash_on_row.ensures.1 front))
        | inr back ↦ c.clash_on_row-else-clash_on_row.ensures.1 back
      ],
    )
