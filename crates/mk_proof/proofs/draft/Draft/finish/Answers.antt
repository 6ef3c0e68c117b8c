use Rattle.std.proofs.Common.{◌≡◌, ap, subst, ◌∙◌, false}
use Rattle.mk_proof.specs.Drafts.{IsDraft, lines_of}
use Rattle.mk_proof.specs.declared.draft.Draft.TheVariants.{Steps}
use Rattle.mk_proof.proofs.Texts.{not_all_chains, not_ended}
use Rattle.mk_proof.proofs.draft.Draft.finish.Goals as goal

pub returns-else-count-clause-none : goal.returns-else-count-clause-none
returns-else-count-clause-none c = λ proof shaped same.
    let known = subst IsDraft c.in-Chains.is c.requires in
    not_all_chains c.in-Chains.count c.in-Chains.certificate known.0 (λ all. c.if-count.false (c.count.ensures.value ∙ all)) proof shaped (same ∙ ap lines_of c.in-Chains.is)

pub returns-else-is_whole-clause-none : goal.returns-else-is_whole-clause-none
returns-else-is_whole-clause-none c = λ proof shaped same.
    let is : c.args.self ≡ Steps c.in-Steps.trace false = c.in-Steps.is ∙ ap (λ b. Steps c.in-Steps.trace b) c.if-is_whole.false in
    let known = subst IsDraft is c.requires in
    not_ended c.in-Steps.trace known.0 proof shaped (same ∙ ap lines_of is)
