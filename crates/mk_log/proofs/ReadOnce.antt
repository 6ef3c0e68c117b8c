-- A text has one answer.
use Rattle.std.proofs.Common.{◌≡◌, ℕ, List, Ok, Err, Option, Some, None, Result, sym, ap, ◌∙◌, subst}
use Rattle.mk_name.specs.Reported.{Reported}
use Rattle.mk_jobs.specs.Jobs.{Jobs}
use Rattle.mk_foot.proofs.OneList.{one_list}
use Rattle.mk_log.specs.Logs.{Log}
use Rattle.mk_log.specs.Once.{ReadOnce}
use Rattle.mk_log.specs.Reading.{IsLogOf, IsLogRead, IsReadAs}
use Rattle.mk_log.specs.declared.entry.Entry.{Entry}

-- entries have one log
one_log : (entries : List Entry) (one other : Log) → IsLogOf entries one → IsLogOf entries other → one ≡ other
one_log entries one other a b =
    let stores : one.store ≡ other.store = one_list one.store other.store a.in_order b.in_order (λ x. a.files x ∙ sym (b.files x)) in
    let events : one.events ≡ other.events = a.events ∙ sym b.events in
    λ i. record { store = stores i; events = events i }

no_fault : {A : Type 0} (o : Option Reported) (reported : Reported) → o ≡ None → o ≡ Some reported → A
no_fault o reported none some = absurd (cc (sym none ∙ some))

pub read_once : ReadOnce
read_once jobs root text (Ok one) (Ok other) a b = ap Ok (one_log _ one other a.1 b.1)
read_once jobs root text (Ok one) (Err reported) a b = no_fault _ reported a.0 b
read_once jobs root text (Err reported) (Ok other) a b = no_fault _ reported b.0 a
read_once jobs root text (Err reported) (Err other) a b = let same : Some reported ≡ Some other = sym a ∙ b in cc

-- so a text that may have a log for an answer reads as that log
pub read_as : (jobs : Jobs) (root text : List ℕ) (log : Log) → IsLogRead jobs root text (Ok log) → IsReadAs jobs root text log
read_as jobs root text log is = λ answer. (
  λ read. read_once jobs root text answer (Ok log) read is,
  λ same. subst (λ (a : Result Log Reported). IsLogRead jobs root text a) (sym same) is,
)
