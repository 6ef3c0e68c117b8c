-- What is reported of a log that is to be put in serial order.
use Rattle.std.specs.Prelude.{ℕ, ◌≡◌, ◌⊎◌, false, List, codes}
use Rattle.mk_name.specs.Shown.{line}
use Rattle.mk_jobs.specs.Jobs.{Jobs}
use Rattle.mk_log.specs.Logs.{Log}
use Rattle.mk_log.specs.Reading.{IsReadAs}
use Rattle.mk_log.specs.Writing.{AreOfNodes, ReadBack, is_text, log_text}
use Rattle.mk_race.specs.declared.serialising.Ordered.{Ordered}
use Rattle.mk_race.specs.declared.serialising.Ordered.TheVariants.{Serial, NotAllowed, NotComplete, Race, NoRoom}
use Rattle.mk_report.specs.ReportText.{race_text}
use Rattle.mk_program.specs.OutcomeText.{not_allowed_text}
use Rattle.mk_files.specs.declared.failures.Failure.{Failure}
use Rattle.mk_files.specs.declared.failures.Failure.TheVariants as failures
use Rattle.mk_program.specs.declared.statuses.Status.{Status}
use Rattle.mk_program.specs.declared.statuses.Status.TheVariants as statuses

-- the text of a log in serial order, which reads back as this log below a root where each of its names is a path that names itself
pub record IsSerialText (jobs : Jobs) (list : Log) (text : List ℕ) : Type 0 where
  pub written : text ≡ log_text jobs list
  pub reads_back : (root : List ℕ) → ReadBack jobs root list → IsReadAs jobs root text list

-- the text of a log in serial order, or why there is none
abbrev pub IsOrderedText : Jobs → Ordered → List ℕ → Type 0
IsOrderedText jobs (Serial list) text = IsSerialText jobs list text
IsOrderedText jobs (NotAllowed place refusal) text = text ≡ not_allowed_text place refusal
IsOrderedText jobs NotComplete text = text ≡ line (codes "not complete")
IsOrderedText jobs (Race trace) text = text ≡ race_text jobs trace
IsOrderedText jobs NoRoom text = text ≡ line (codes "not complete: times too large")

-- how the program ends then
abbrev pub order_status : Ordered → Status
order_status (Serial list) = statuses.Done
order_status (NotAllowed place refusal) = statuses.No
order_status NotComplete = statuses.No
order_status (Race trace) = statuses.No
order_status NoRoom = statuses.No

-- the events of a log in serial order are of nodes
abbrev pub HasNodes : Jobs → Ordered → Type 0
HasNodes jobs (Serial list) = AreOfNodes jobs list.events
HasNodes jobs _ = Unit {0}

-- it is a log in serial order with a name that is no text
abbrev pub IsNoText : Jobs → Ordered → Type 0
IsNoText jobs (Serial list) = is_text jobs list ≡ false
IsNoText jobs _ = ⊥

-- why something is not reported: memory is short, or a name is no text, and then this holds
abbrev pub IsUnreported : Type 0 → Failure → Type 0
IsUnreported Why failure = (failure ≡ failures.Memory) ⊎ ((failure ≡ failures.NotText) × Why)
