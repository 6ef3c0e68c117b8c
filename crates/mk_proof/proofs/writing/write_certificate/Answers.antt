use Rattle.std.proofs.Common.{◌≡◌, rules, sym}
use Rattle.mk_proof.specs.ProofText.{certificate_text}
use Rattle.mk_proof.specs.declared.proof.Proof.TheVariants.{Certificate}
use Rattle.mk_proof.proofs.Texts.{reads_as}
use Rattle.mk_proof.proofs.writing.write_certificate.Goals as goal

pub returns-clause-reads_back : goal.returns-clause-reads_back
returns-clause-reads_back c =
    let is : c.push_chains.new.out.items ≡ certificate_text c.args.certificate.now = search rules in
    reads_as c.push_chains.new.out.items (Certificate c.args.certificate.now) c.count.ensures.shaped (sym is)
