use Rattle.std.proofs.Common.{ℕ, ◌∙◌, List, ap, subst}
use Rattle.mk_report.specs.RacesText.{IsRacesText}
use Rattle.mk_program.specs.Answers.{races_status}
use Rattle.mk_program.proofs.listing.races_answer.Goals as goal

pub returns : goal.returns
returns c =
    let listed = c.args.listed.now in (
      c.races_status.ensures.status ∙ ap races_status c.as_slice-races.ensures.value,
      subst (λ (races : List (ℕ × ℕ)). IsRacesText listed.jobs listed.found.pairs races c.in_ok-text.text.items) c.as_slice-races.ensures.value c.in_ok-text.ensures,
    )
