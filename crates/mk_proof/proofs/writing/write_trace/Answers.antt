use Rattle.std.proofs.Common.{◌∙◌, ◌++◌, List, ℕ, ap, sym}
use Rattle.mk_proof.specs.ProofText.{trace_text}
use Rattle.mk_proof.specs.declared.proof.Proof.TheVariants.{Trace}
use Rattle.mk_proof.proofs.Texts.{reads_as}
use Rattle.mk_proof.proofs.writing.write_trace.Goals as goal

pub returns-clause-reads_back : goal.returns-clause-reads_back
returns-clause-reads_back c =
    let is = c.in_ok-push_trace.ensures.text ∙ ap (λ (t : List ℕ). t ++ trace_text c.args.trace.now) c.new-text.ensures.items in
    reads_as c.push_trace.new.out.items (Trace c.args.trace.now) (c.in_ok-push_trace.ensures.shaped, c.in_ok-push_trace.ensures.bytes) (sym is)
