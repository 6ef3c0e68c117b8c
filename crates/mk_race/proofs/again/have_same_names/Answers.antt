use Rattle.std.proofs.Common.{refl, sym, ◌∙◌}
use Rattle.std.proofs.lemmas.Bool.{false≢true}
use Rattle.mk_jobs.specs.Jobs.{name_of}
use Rattle.mk_race.specs.Again.{name_in}
use Rattle.mk_race.proofs.Replanned.{names_same, same_name_at}
use Rattle.mk_race.proofs.again.have_same_names.Goals as goal

pub returns-then-not-is_same : goal.returns-then-not-is_same
returns-then-not-is_same c = (
  λ is. absurd (false≢true is),
  λ same.
      let here = same_name_at (name_of c.args.jobs.now) (name_in c.args.plan.now.nodes) c.args.first.now c.args.second.now c.loop-i.i c.loop-i-test.true same in
      absurd (false≢true (sym c.if-not-is_same.true ∙ c.is_same.ensures.1 (c.name_of.ensures ∙ here ∙ sym c.name_in.ensures))),
)

pub returns : goal.returns
returns c = (
  λ is. names_same (name_of c.args.jobs.now) (name_in c.args.plan.now.nodes) c.args.first.now c.args.second.now c.loop-i.i c.if-first-second.false c.loop-i-test.false c.loop-i.invariant,
  λ same. refl,
)
