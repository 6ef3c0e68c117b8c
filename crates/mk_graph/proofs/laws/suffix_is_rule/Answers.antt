use Rattle.mk_graph.proofs.SuffixRules.{suffix_is_rule}
use Rattle.mk_graph.proofs.laws.suffix_is_rule.Goals as goal

pub returns : goal.returns
returns c = suffix_is_rule
