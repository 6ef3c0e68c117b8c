use Rattle.std.proofs.Common.{inl, inr}
use Rattle.mk_cert.proofs.Paired.{clear_row}
use Rattle.mk_cert.proofs.pairs.has_chains_of.Goals as goal

pub returns : goal.returns
returns c = (
  λ is a apart reach. c.are_paired.ensures.0 is a apart ((c.mark_reaching.ensures a).1 (inr reach)),
  λ all. c.are_paired.ensures.1 (λ a apart has. elim ((c.mark_reaching.ensures a).0 has) [
    | inl old ↦ absurd (clear_row 313 a old)
    | inr reach ↦ all a apart reach
  ]),
)
