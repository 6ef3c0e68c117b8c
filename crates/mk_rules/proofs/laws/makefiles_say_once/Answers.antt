use Rattle.mk_rules.proofs.SayOnce.{say_once}
use Rattle.mk_rules.proofs.laws.makefiles_say_once.Goals as goal

pub returns : goal.returns
returns c = say_once
