use Rattle.std.proofs.Common.{inl, inr}
use Rattle.mk_proof.specs.ProofText.{words_of}
use Rattle.mk_proof.proofs.Beginnings.{first_line}
use Rattle.mk_proof.proofs.draft.Draft.begin.Goals as goal

pub returns : goal.returns
returns c = λ begin.
    elim (first_line (words_of c.args.line.now) begin) [
      | inl found ↦ c.in_default.ensures found.0 found.1 found.2
      | inr found ↦ c.in_default-nodes_in.ensures found.0 found.1 found.2
    ]
