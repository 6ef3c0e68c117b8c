use Rattle.std.proofs.Common.{ℕ, ◌≡◌, ◌∙◌, ◌<◌, ◌+◌, List, [], ◌∷◌, ◌++◌, append_assoc, ap, arith, length, subst, sym, take}
use Rattle.std.proofs.lemmas.List.{take_more}
use Rattle.mk_report.specs.ReportText.{AreOrderLines}
use Rattle.mk_report.proofs.OrderLines.{lines_more}
use Rattle.mk_report.proofs.safe.push_chains.Goals as goal

pub loop-number-preserved : goal.loop-number-preserved
loop-number-preserved c =
    let jobs = c.args.jobs.now in
    let chains = c.args.certificate.now in
    let number = c.loop-number.number in
    let chain = c.chain.result.now in
    let so_far = c.loop-number.invariant in
    let next = c.in_ok-push_chain.ensures in
    let within : number < length chains = omega (arith, c.loop-number-test.true, c.count-number-end.ensures.value) in
    let more : take (number + 1) chains ≡ take number chains ++ chain ∷ [] =
    take_more chains number chain within ∙ ap (λ (x : List ℕ). take number chains ++ x ∷ []) (sym c.chain.ensures) in (
      so_far.0 ++ next.0,
      subst (λ (some : List (List ℕ)). AreOrderLines jobs some (so_far.0 ++ next.0)) (sym more) (lines_more jobs (take number chains) so_far.0 chain next.0 so_far.1 next.1),
      next.2 ∙ ap (λ (t : List ℕ). t ++ next.0) so_far.2 ∙ append_assoc c.args.out.now.items so_far.0 next.0,
    )
