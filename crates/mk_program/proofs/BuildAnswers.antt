-- Lemmas on the answers about the jobs of a build.
use Rattle.std.proofs.Common.{ℕ, Bool, List, Ok, refl}
use Rattle.mk_race.specs.Judged.{IsAnswered, IsDecided, NoScheduleShows}
use Rattle.mk_race.specs.Listed.{IsListed, IsListedOf}
use Rattle.mk_race.specs.Stages.{IsPrepared, Texts}
use Rattle.mk_race.specs.Verified.{IsVerified, IsVerifiedOn, ProofShows}
use Rattle.mk_race.specs.declared.preparing.Prepared.{Prepared}
use Rattle.mk_program.specs.Answers.{IsCheckAnswer, IsJudgedAnswer, IsListAnswer, IsRacesAnswer, IsVerdictAnswer, IsVerifyAnswer, NoScheduleOfJobsShows, ProofOfJobsShows}
use Rattle.mk_program.specs.declared.statuses.Status.{Status}
use Rattle.mk_program.proofs.Answering.{verdict_more}
use Rattle.mk_program.proofs.Judged.{judged_more}
use Rattle.mk_program.proofs.RaceLists.{list_more}

module _ (texts : Texts) (footprints : List ℕ) (prepared : Prepared) (status : Status) (answer : List ℕ) (build : IsPrepared texts footprints (Ok prepared)) where
  -- the answer about its jobs to a check is that of the build
  pub check_over : (short proof : Bool) → IsJudgedAnswer short prepared.jobs proof status answer → IsCheckAnswer short texts footprints proof status answer
  check_over short proof h =
      judged_more (IsDecided short prepared.jobs) (IsAnswered short texts footprints) (NoScheduleOfJobsShows prepared.jobs) (NoScheduleShows texts footprints)
      (λ judged decided. (Ok prepared, build, decided)) (λ shows. shows.0 prepared texts footprints refl build) proof status answer h

  -- and so is that of a proof
  pub verify_over : (short : Bool) (proof : List ℕ) → IsVerdictAnswer short prepared.jobs proof status answer → IsVerifyAnswer short texts footprints proof status answer
  verify_over short proof h =
      verdict_more (IsVerifiedOn short prepared.jobs proof) (IsVerified short texts footprints proof) (ProofOfJobsShows prepared.jobs proof)
      (ProofShows texts footprints proof) (λ result verified. (Ok prepared, build, verified)) (λ shows. shows.0 prepared texts footprints refl build) status answer h

  -- and that of a list
  pub list_over : IsRacesAnswer prepared.jobs status answer → IsListAnswer texts footprints status answer
  list_over h =
      list_more (IsListedOf prepared.jobs) (IsListed texts footprints) (NoScheduleOfJobsShows prepared.jobs) (NoScheduleShows texts footprints)
      (λ result listed. (Ok prepared, build, listed)) (λ shows. shows.0 prepared texts footprints refl build) status answer h
