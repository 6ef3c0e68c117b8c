use Rattle.std.proofs.Common.{refl}
use Rattle.mk_report.specs.declared.fixes.FixLines.TheVariants as found
use Rattle.mk_race.specs.Fixed.{no_room, no_word}
use Rattle.mk_race.proofs.Ahead.{for_read}
use Rattle.mk_race.proofs.Fixings.{lines_with}
use Rattle.mk_race.proofs.fixing.with_edges.Goals as goal

pub returns-in-Ok-NoWord-clause-answer : goal.returns-in-Ok-NoWord-clause-answer
returns-in-Ok-NoWord-clause-answer c = for_read c.args.build _ (λ listed lines from. (
  refl,
  c.requires,
  no_word (lines_with c.args.build.input.makefile.now c.args.jobs c.deref.result.now c.args.edges.items c.in-Ok-NoWord.field-0 found.NoWord c.deref.ensures.value c.in-Ok-NoWord.field-0-is
      c.in-Ok-NoWord.ensures),
))

pub returns-in-Ok-NoRoom-clause-answer : goal.returns-in-Ok-NoRoom-clause-answer
returns-in-Ok-NoRoom-clause-answer c = for_read c.args.build _ (λ listed lines from. (
  refl,
  c.requires,
  no_room (lines_with c.args.build.input.makefile.now c.args.jobs c.deref.result.now c.args.edges.items c.in-Ok-NoRoom.field-0 found.NoRoom c.deref.ensures.value c.in-Ok-NoRoom.field-0-is
      c.in-Ok-NoRoom.ensures),
))
