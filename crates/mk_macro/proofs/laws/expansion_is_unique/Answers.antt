use Rattle.mk_macro.proofs.Total.{some_expansion}
use Rattle.mk_macro.proofs.Unique.{items_come_to_one, one_expansion}
use Rattle.mk_macro.proofs.laws.expansion_is_unique.Goals as goal

pub returns : goal.returns
returns c = record { some = some_expansion; text = one_expansion; items = items_come_to_one }
