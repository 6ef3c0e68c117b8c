use Rattle.std.proofs.Common.{sym, ◌∙◌}
use Rattle.mk_request.proofs.Values.{and_no, and_yes}
use Rattle.mk_request.proofs.words.mistakes.has_two_bases.Goals as goal

pub returns-then-is_set : goal.returns-then-is_set
returns-then-is_set c = and_yes _ _ _ (sym c.is_set.ensures ∙ c.if-is_set.true) c.is_given.ensures

pub returns-else-is_set : goal.returns-else-is_set
returns-else-is_set c = and_no _ _ _ (sym c.is_set.ensures ∙ c.if-is_set.false) c.if-is_set.false
