use Rattle.std.proofs.Common.{◌∙◌}
use Rattle.std.proofs.lemmas.List.{take_rest}
use Rattle.mk_graph.proofs.Suffixes.{period_none, period_at}
use Rattle.mk_graph.proofs.suffix.from_last_period.Goals as goal

pub returns-in-Some : goal.returns-in-Some
returns-in-Some c =
    take_rest c.args.text.now c.in-Some.period ∙ period_at c.args.text.now c.in-Some.period c.in-Some.ensures.0 c.in-Some.ensures.1

pub returns-in-None : goal.returns-in-None
returns-in-None c = period_none c.args.text.now c.in-None.ensures
