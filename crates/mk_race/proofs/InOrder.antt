-- A log that is to be put in serial order.
use Rattle.std.proofs.Common.{◌≡◌, ◌<◌, ℕ, Bool, List, Ok, Err, Result, IsTrue, refl, sym, subst, ◌∙◌}
use Rattle.mk_name.specs.Gives.{Answers, HaltsAmong}
use Rattle.mk_name.specs.Names.{Name, has, same_name}
use Rattle.mk_name.specs.declared.fault.Halt.{Halt}
use Rattle.mk_name.specs.declared.fault.Halt.TheVariants as halts
use Rattle.mk_jobs.specs.Jobs.{Jobs, is_listed, name_of, node_count}
use Rattle.mk_sched.specs.Replayed.{IsReplayed}
use Rattle.mk_sched.specs.Serialising.{IsWholeRun}
use Rattle.mk_sched.specs.Steps.{past_of}
use Rattle.mk_sched.specs.Stored.{StoredFiles, store_of}
use Rattle.mk_sched.specs.Stores.{AgreesWith, AgreesWithListing}
use Rattle.mk_log.specs.Logs.{Log}
use Rattle.mk_log.specs.Reading.{IsLogRead}
use Rattle.mk_race.specs.Serialised.{IsCompleteLog, IsLogOrder, IsOrderOn, IsRunOf}
use Rattle.mk_race.specs.declared.preparing.Prepared.{Prepared}
use Rattle.mk_race.specs.declared.serialising.Ordered.{Ordered}

-- the names of a listing are those that these jobs list
abbrev pub AreListed : Jobs → List Name → Type 0
AreListed jobs listed = (n : ℕ) → n < node_count jobs → is_listed jobs n ≡ has same_name listed (name_of jobs n)

module _ (jobs : Jobs) (listed : List Name) (tie : Bool) (limit : ℕ) (log : Log) where
  -- what was replayed is a run
  pub run_of : (files : StoredFiles) (complete : Bool) → IsReplayed jobs (has same_name listed) tie limit log.store log.events files complete → IsRunOf jobs listed limit tie log
  run_of files complete replayed = record { agrees = replayed.agrees; run = replayed.run }

  -- and where it is complete, a whole one
  pub whole_of : (files : StoredFiles) (complete : Bool) → IsReplayed jobs (has same_name listed) tie limit log.store log.events files complete → IsTrue complete → IsCompleteLog jobs listed limit tie log
  whole_of files complete replayed is = record { is_run = run_of files complete replayed; complete = replayed.whole.0 is }

  pub whole_run : IsCompleteLog jobs listed limit tie log → IsWholeRun jobs tie (store_of log.store) (past_of log.events)
  whole_run whole = record { limit = limit; run = whole.is_run.run; complete = whole.complete }

  -- its files agree with the jobs
  pub agreeing : AreListed jobs listed → AgreesWithListing (has same_name listed) (store_of log.store) → AgreesWith jobs (store_of log.store)
  agreeing all agrees n inside = agrees (name_of jobs n) ∙ sym (all n inside)

-- the same log, of which the files were copied
pub replayed_log : (jobs : Jobs) (listed : List Name) (tie : Bool) (limit : ℕ) (inside log : Log) (store files : StoredFiles) (complete : Bool)
    → inside ≡ log → store ≡ inside.store → IsReplayed jobs (has same_name listed) tie limit store inside.events files complete
    → IsReplayed jobs (has same_name listed) tie limit log.store log.events files complete
replayed_log jobs listed tie limit inside log store files complete same copied replayed =
    subst (λ (l : Log). IsReplayed jobs (has same_name listed) tie limit l.store l.events files complete) same
    (subst (λ (s : StoredFiles). IsReplayed jobs (has same_name listed) tie limit s inside.events files complete) copied replayed)

-- a halt of the log is one of its order
pub order_unread : (prepared : Prepared) (log : List ℕ) (limit : ℕ) (tie : Bool) (halt : Halt)
    → HaltsAmong halt (IsLogRead prepared.jobs prepared.root log) → HaltsAmong halt (IsOrderOn prepared log limit tie)
order_unread prepared log limit tie halts.Memory h = tt
order_unread prepared log limit tie (halts.Fault reported) h = (Err reported, h, refl)

-- what comes of the log is what comes of its text
pub order_on : (prepared : Prepared) (log : List ℕ) (limit : ℕ) (tie : Bool) (read : Log) (result : Result Ordered Halt)
    → IsLogRead prepared.jobs prepared.root log (Ok read) → Answers result (IsLogOrder prepared.jobs prepared.listing limit tie read)
    → Answers result (IsOrderOn prepared log limit tie)
order_on prepared log limit tie read (Ok order) is h = (Ok read, is, h)
order_on prepared log limit tie read (Err halts.Memory) is h = tt
order_on prepared log limit tie read (Err (halts.Fault reported)) is h = (Ok read, is, h)
