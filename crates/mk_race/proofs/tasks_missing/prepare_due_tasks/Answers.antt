use Rattle.std.proofs.Common.{ℕ, ◌≡◌, List, Ok, Err, Result, refl, subst, sym}
use Rattle.std.proofs.lemmas.Result.{err_from_is_err_and}
use Rattle.mk_name.specs.Gives.{HaltsAmong}
use Rattle.mk_name.specs.Names.{Name}
use Rattle.mk_name.specs.Reported.{Reported}
use Rattle.mk_name.specs.declared.fault.Halt.{Halt}
use Rattle.mk_name.specs.declared.fault.Halt.TheVariants as halts
use Rattle.mk_text.specs.Listing.{listing_of}
use Rattle.mk_text.specs.Spelling.{root_of}
use Rattle.mk_due.specs.JobsOf.{AreJobsIn}
use Rattle.mk_race.specs.Stages.{Then, ThenAny}
use Rattle.mk_race.specs.TasksMissing.{IsPreparedBelow, tasks_with}
use Rattle.mk_race.specs.declared.preparing.Prepared.{Prepared}
use Rattle.mk_race.proofs.tasks_missing.prepare_due_tasks.Goals as goal

module _ (root listing tasks text : List ℕ) (listed : List Name) (of_root : root_of root ≡ Ok text) (of_listing : listing_of text listing ≡ Ok listed) where
  -- behind the root and the listing come the jobs
  below : (answer : Result Prepared Reported) → ThenAny (AreJobsIn text listed tasks) (λ jobs answer. answer ≡ Ok (tasks_with text listed jobs)) answer
      → IsPreparedBelow root listing tasks answer
  below answer is =
      subst (λ (r : Result (List ℕ) Reported). Then r (λ root. Then (listing_of root listing) (λ listed. ThenAny (AreJobsIn root listed tasks) (λ jobs answer.
      answer ≡ Ok (tasks_with root listed jobs)))) answer) (sym of_root)
      (subst (λ (l : Result (List Name) Reported). Then l (λ listed. ThenAny (AreJobsIn text listed tasks) (λ jobs answer.
      answer ≡ Ok (tasks_with text listed jobs))) answer) (sym of_listing) is)

  halts_below : (halt : Halt) → HaltsAmong halt (AreJobsIn text listed tasks) → HaltsAmong halt (IsPreparedBelow root listing tasks)
  halts_below halts.Memory is = tt
  halts_below (halts.Fault reported) is = below (Err reported) (Err reported, is, refl)

pub returns-in_err-jobs : goal.returns-in_err-jobs
returns-in_err-jobs c =
    let p = err_from_is_err_and c.from_residual-in_err-jobs.result c.from_residual-in_err-jobs.ensures.1 in
    rw (p.1, p.2) (halts_below c.args.root.now c.args.listing.now c.args.tasks.now c.in_ok-root.root c.in_ok-listing.listing c.in_ok-root.ensures c.in_ok-listing.ensures
    c.in_err-jobs.field-0.0 c.in_err-jobs.ensures.jobs)

pub returns : goal.returns
returns c =
    let prepared = tasks_with c.in_ok-root.root c.in_ok-listing.listing c.in_ok-jobs.jobs in
    below c.args.root.now c.args.listing.now c.args.tasks.now c.in_ok-root.root c.in_ok-listing.listing c.in_ok-root.ensures c.in_ok-listing.ensures
    (Ok prepared) (Ok c.in_ok-jobs.jobs, c.in_ok-jobs.ensures.jobs, refl)
