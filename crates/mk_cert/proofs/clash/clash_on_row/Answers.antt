use Rattle.std.proofs.Common.{◌≡◌, ◌++◌, ◌∙◌, List, ap₂, inl, inr, subst, sym}
use Rattle.std.proofs.lemmas.Bool.{false≢true}
use Rattle.mk_path.specs.declared.path.Path.{Path}
use Rattle.mk_cert.specs.Standing.{IsOnOne, row_of}
use Rattle.mk_cert.proofs.OnPaths.{of_back, of_either}
use Rattle.mk_cert.proofs.clash.clash_on_row.Goals as goal

pub returns-else-clash_on_one : goal.returns-else-clash_on_one
returns-else-clash_on_one c =
    let jobs = c.args.jobs.now in
    let reads = c.reads.result.now in
    let writes = c.writes.result.now in
    let rows : reads ++ writes ≡ row_of jobs c.args.n = ap₂ (λ (xs ys : List Path). xs ++ ys) c.reads.ensures.reads c.writes.ensures.writes in (
      λ is. subst (λ (ps : List Path). IsOnOne jobs c.args.a c.args.b ps c.args.text.now) rows
          (of_back jobs c.args.a c.args.b reads writes c.args.text.now (c.clash_on_one-else-clash_on_one.ensures.0 is)),
      λ one. elim (of_either jobs c.args.a c.args.b reads writes c.args.text.now
          (subst (λ (ps : List Path). IsOnOne jobs c.args.a c.args.b ps c.args.text.now) (sym rows) one)) [
            | inl front ↦ absurd (false≢true (sym c.if-clash_on_one.false ∙ c.clash_on_one.ensures.1 front))
            | inr back ↦ c.clash_on_one-else-clash_on_one.ensures.1 back
          ],
    )
