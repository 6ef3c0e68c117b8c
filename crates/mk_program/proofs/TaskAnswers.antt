-- Lemmas on the answers about tasks.
use Rattle.std.proofs.Common.{◌≡◌, ℕ, Bool, List, Result, Ok, Err, refl, subst, sym}
use Rattle.std.specs.Borrow.{Bor}
use Rattle.mk_name.specs.Reported.{Reported}
use Rattle.mk_name.specs.Shown.{refused_text}
use Rattle.mk_jobs.specs.Jobs.{Jobs}
use Rattle.mk_report.specs.declared.answer.BuildAnswer.TheVariants as judged
use Rattle.mk_race.specs.Judged.{IsDecided, ThenAnswer}
use Rattle.mk_race.specs.Listed.{IsListedOf}
use Rattle.mk_race.specs.Stages.{Then}
use Rattle.mk_race.specs.Tasked.{NoScheduleOfTasksShows, ProofOfTasksShows, tasked}
use Rattle.mk_race.specs.Verified.{IsVerifiedOn}
use Rattle.mk_program.specs.Answers.{IsJudgedAnswer, IsOfJobs, IsRacesAnswer, IsTaskFixAnswer, IsTaskMissingAnswer, IsTasksAnswer, IsVerdictAnswer, NoScheduleOfJobsShows, ProofOfJobsShows}
use Rattle.mk_request.specs.declared.inputs.InputFile.{InputFile}
use Rattle.mk_request.specs.declared.inputs.InputFile.TheVariants as inputs
use Rattle.mk_request.specs.declared.requests.TaskQuestion.{TaskQuestion}
use Rattle.mk_request.specs.declared.requests.TaskQuestion.TheVariants as questions
use Rattle.mk_program.specs.declared.statuses.Status.{Status}
use Rattle.mk_program.specs.declared.statuses.Status.TheVariants.{Refused}
use Rattle.mk_program.proofs.Answering.{verdict_more}
use Rattle.mk_program.proofs.Judged.{judged_more}
use Rattle.mk_program.proofs.RaceLists.{list_more}

module _ (question : TaskQuestion) (root root' tasks : List ℕ) (texts : InputFile → List ℕ) (status : Status) (answer : List ℕ)
    (below : root' ≡ root) (read : tasks ≡ texts inputs.Tasks) where
  -- the answer about what is missing over what was read is the one over the texts
  pub missing_read : (path : Bor (List ℕ)) (listing : List ℕ) → question ≡ questions.Missing path → listing ≡ texts inputs.Listing
      → IsTaskMissingAnswer root' listing tasks status answer → IsTasksAnswer question root texts status answer
  missing_read path listing is given h =
      subst (λ (q : TaskQuestion). IsTasksAnswer q root texts status answer) (sym is)
      (subst (λ (x : List ℕ). IsTaskMissingAnswer x (texts inputs.Listing) (texts inputs.Tasks) status answer) below
      (subst (λ (x : List ℕ). IsTaskMissingAnswer root' (texts inputs.Listing) x status answer) read
      (subst (λ (x : List ℕ). IsTaskMissingAnswer root' x tasks status answer) given h)))

  -- and that of a fix
  pub fix_read : (proof : Bool) → question ≡ questions.Fix proof → IsTaskFixAnswer root' tasks proof status answer
      → IsTasksAnswer question root texts status answer
  fix_read proof is h =
      subst (λ (q : TaskQuestion). IsTasksAnswer q root texts status answer) (sym is)
      (subst (λ (x : List ℕ). IsTaskFixAnswer x (texts inputs.Tasks) proof status answer) below
      (subst (λ (x : List ℕ). IsTaskFixAnswer root' x proof status answer) read h))

-- what a root and tasks mean is what the same mean
pub tasked_same : (root root' tasks tasks' : List ℕ) (jobs : Result Jobs Reported) → root ≡ root' → tasks ≡ tasks' → tasked root tasks ≡ jobs → tasked root' tasks' ≡ jobs
tasked_same root root' tasks tasks' jobs same also given =
    subst (λ (x : List ℕ). tasked x tasks' ≡ jobs) same (subst (λ (x : List ℕ). tasked root x ≡ jobs) also given)

module _ (root : List ℕ) (texts : InputFile → List ℕ) (status : Status) (answer : List ℕ) where
  -- the report of the fault of tasks is the answer to a question about their jobs
  pub refused_jobs : (question : TaskQuestion) (fault : Reported) → IsOfJobs question → tasked root (texts inputs.Tasks) ≡ Err fault → status ≡ Refused
      → answer ≡ refused_text fault → IsTasksAnswer question root texts status answer
  refused_jobs (questions.Check proof short) fault of given ends said =
      rw ends (fault, subst (λ (r : Result Jobs Reported). ThenAnswer r (IsDecided short) (judged.Refused fault)) (sym given) refl, said)
  refused_jobs (questions.Verify path short) fault of given ends said =
      rw ends (fault, subst (λ (r : Result Jobs Reported). Then r (λ jobs. IsVerifiedOn short jobs (texts inputs.Proof)) (Err fault)) (sym given) refl, said)
  refused_jobs questions.List fault of given ends said = rw ends (fault, subst (λ (r : Result Jobs Reported). Then r IsListedOf (Err fault)) (sym given) refl, said)
  refused_jobs (questions.Fix proof) fault of given ends said = absurd of
  refused_jobs (questions.Missing path) fault of given ends said = absurd of

module _ (question : TaskQuestion) (root : List ℕ) (texts : InputFile → List ℕ) (jobs : Jobs) (status : Status) (answer : List ℕ)
    (given : tasked root (texts inputs.Tasks) ≡ Ok jobs) where
  -- the answer about jobs to a check is the one about tasks that mean them
  pub check_on : (proof short : Bool) → question ≡ questions.Check proof short → IsJudgedAnswer short jobs proof status answer
      → IsTasksAnswer question root texts status answer
  check_on proof short is h =
      subst (λ (q : TaskQuestion). IsTasksAnswer q root texts status answer) (sym is)
      (judged_more (IsDecided short jobs) (ThenAnswer (tasked root (texts inputs.Tasks)) (IsDecided short)) (NoScheduleOfJobsShows jobs)
      (NoScheduleOfTasksShows root (texts inputs.Tasks)) (λ judged decided. subst (λ (r : Result Jobs Reported). ThenAnswer r (IsDecided short) judged) (sym given) decided)
      (λ shows. shows.1 root (texts inputs.Tasks) given) proof status answer h)

  -- and so is that of a proof
  pub verify_on : (path : Bor (List ℕ)) (short : Bool) (proof : List ℕ) → question ≡ questions.Verify path short → proof ≡ texts inputs.Proof
      → IsVerdictAnswer short jobs proof status answer → IsTasksAnswer question root texts status answer
  verify_on path short proof is read h =
      subst (λ (q : TaskQuestion). IsTasksAnswer q root texts status answer) (sym is)
      (verdict_more (IsVerifiedOn short jobs (texts inputs.Proof)) (Then (tasked root (texts inputs.Tasks)) (λ own. IsVerifiedOn short own (texts inputs.Proof)))
      (ProofOfJobsShows jobs (texts inputs.Proof)) (ProofOfTasksShows root (texts inputs.Tasks) (texts inputs.Proof))
      (λ result verified. subst (λ (r : Result Jobs Reported). Then r (λ own. IsVerifiedOn short own (texts inputs.Proof)) result) (sym given) verified)
      (λ shows. shows.1 root (texts inputs.Tasks) given) status answer
      (subst (λ (text : List ℕ). IsVerdictAnswer short jobs text status answer) read h))

  -- and that of a list
  pub list_on : question ≡ questions.List → IsRacesAnswer jobs status answer → IsTasksAnswer question root texts status answer
  list_on is h =
      subst (λ (q : TaskQuestion). IsTasksAnswer q root texts status answer) (sym is)
      (list_more (IsListedOf jobs) (Then (tasked root (texts inputs.Tasks)) IsListedOf) (NoScheduleOfJobsShows jobs)
      (NoScheduleOfTasksShows root (texts inputs.Tasks)) (λ result listed. subst (λ (r : Result Jobs Reported). Then r IsListedOf result) (sym given) listed)
      (λ shows. shows.1 root (texts inputs.Tasks) given) status answer h)
