use Rattle.std.proofs.Common.{arith, []}
use Rattle.mk_text.proofs.Reduced.{All-reduced}
use Rattle.mk_text.proofs.spelling.reduced_is_plain.Goals as goal

pub returns : goal.returns
returns c = λ parts. All-reduced parts [] (λ k d h. absurd (omega arith))
