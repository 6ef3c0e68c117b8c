use Rattle.mk_cert.proofs.Certified.{determinate}
use Rattle.mk_cert.proofs.Paired.{all_paired, certificate_from}
use Rattle.mk_cert.proofs.accepting.accept.Goals as goal

pub returns-then-are_chains-clause-certificate : goal.returns-then-are_chains-clause-certificate
returns-then-are_chains-clause-certificate c =
    let chains = c.are_chains.ensures.0 c.if-are_chains.true in (
      λ is. certificate_from c.args.jobs.now c.args.certificate.now c.count-count.ensures.shape c.count-chains.ensures.shaped.rise chains.0 chains.1
          (c.has_chains.ensures.0 is),
      λ certificate. c.has_chains.ensures.1
          (all_paired c.args.jobs.now c.args.certificate.now c.count-count.ensures.shape c.count-count.ensures.valid certificate),
    )

pub returns-then-are_chains-clause-determinate : goal.returns-then-are_chains-clause-determinate
returns-then-are_chains-clause-determinate c = λ is.
    let chains = c.are_chains.ensures.0 c.if-are_chains.true in
    determinate c.args.jobs.now c.args.certificate.now c.count-count.ensures.valid
    (certificate_from c.args.jobs.now c.args.certificate.now c.count-count.ensures.shape c.count-chains.ensures.shaped.rise chains.0 chains.1 (c.has_chains.ensures.0 is))
