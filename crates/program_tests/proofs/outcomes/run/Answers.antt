use Rattle.std.proofs.Common.{◌∙◌, Some, ap}
use Rattle.mk_device.specs.Device.{Taking}
use Rattle.program_tests.proofs.Shelving.{written_is}
use Rattle.program_tests.proofs.outcomes.run.Goals as goal

pub returns-clause-answer : goal.returns-clause-answer
returns-clause-answer c = λ right done.
    written_is c.args.words.now _ _ _ _ _ (ap (λ (s : Taking). s.written) c.new-out.ensures ∙ ap Some c.new.ensures.items) c.into_inner.ensures
    (c.race_words-status.ensures.answer right done)

pub returns-clause-refused : goal.returns-clause-refused
returns-clause-refused c = λ is.
    written_is c.args.words.now _ _ _ _ _ (ap (λ (s : Taking). s.written) c.new-out.ensures ∙ ap Some c.new.ensures.items) c.into_inner.ensures
    (c.race_words-status.ensures.refused is)
