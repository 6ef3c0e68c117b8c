use Rattle.std.proofs.Common.{ℕ, ◌∙◌, List, ◌++◌, append_assoc, ap, get_or, subst, sym, take}
use Rattle.std.proofs.lemmas.List.{take_more}
use Rattle.mk_report.specs.RacesText.{AreRaceLines}
use Rattle.mk_report.proofs.RaceLines.{race_lines_more}
use Rattle.mk_report.proofs.races.push_races.Goals as goal

pub loop-race-preserved : goal.loop-race-preserved
loop-race-preserved c =
    let jobs = c.args.jobs.now in
    let races = c.args.races.now in
    let i = c.loop-race.race-index in
    let so_far = c.loop-race.invariant in
    let next = c.in_ok-push_race_line.ensures in (
      so_far.0 ++ next.0,
      subst (λ (some : List (ℕ × ℕ)). AreRaceLines jobs some (so_far.0 ++ next.0)) (sym (take_more races i (0, 0) c.loop-race-test.true))
          (race_lines_more jobs (take i races) so_far.0 (get_or races i (0, 0)) next.0 so_far.1 next.1),
      next.2 ∙ ap (λ t. t ++ next.0) so_far.2 ∙ append_assoc c.args.out.now.items so_far.0 next.0,
    )
