use Rattle.std.proofs.Common.{refl}
use Rattle.mk_race.specs.Stages.{texts_with}
use Rattle.mk_race.proofs.Ahead.{for_read}
use Rattle.mk_race.proofs.Fixings.{fixed_by, unfixed_by}
use Rattle.mk_race.proofs.fixing.with_text.Goals as goal

pub returns-in-Ok-Safe-clause-answer : goal.returns-in-Ok-Safe-clause-answer
returns-in-Ok-Safe-clause-answer c = for_read c.args.build _ (λ listed footprints from.
    fixed_by (texts_with c.args.build.input listed) footprints c.args.lines.items c.args.jobs c.args.edges.items c.requires.says c.in-Ok-Safe.new c.requires.fix
    (rw (c.deref.ensures.value, c.deref-2.ensures.value, c.in-Ok-Safe.field-0-is) at (c.in-Ok-Safe.ensures.answer (texts_with c.args.build.input listed) footprints from)))

pub returns-in-Ok-Unsafe-clause-answer : goal.returns-in-Ok-Unsafe-clause-answer
returns-in-Ok-Unsafe-clause-answer c = for_read c.args.build _ (λ listed footprints from. (
  refl,
  c.requires.fix,
  unfixed_by (texts_with c.args.build.input listed) footprints c.args.lines.items c.args.jobs c.args.edges.items c.requires.says c.in-Ok-Unsafe.refusal
      (rw (c.deref.ensures.value, c.deref-2.ensures.value, c.in-Ok-Unsafe.field-0-is) at (c.in-Ok-Unsafe.ensures.answer (texts_with c.args.build.input listed) footprints from)),
))

pub returns-in-Ok-Safe-clause-safe : goal.returns-in-Ok-Safe-clause-safe
returns-in-Ok-Safe-clause-safe c = rw c.in-Ok-Safe.field-0-is at c.in-Ok-Safe.ensures.safe
