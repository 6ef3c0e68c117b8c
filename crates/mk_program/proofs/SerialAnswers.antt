-- Lemmas on the answers to logs that are to be put in serial order.
use Rattle.std.proofs.Common.{◌≡◌, ◌≢◌, ◌∙◌, ◌⊎◌, inl, inr, ℕ, Bool, List, Ok, Err, refl, subst, sym}
use Rattle.mk_jobs.specs.Jobs.{Jobs}
use Rattle.mk_log.specs.Logs.{Log}
use Rattle.mk_name.specs.Gives.{HaltsAmong}
use Rattle.mk_name.specs.Shown.{refused_text}
use Rattle.mk_name.specs.Reported.{Reported}
use Rattle.mk_name.specs.declared.fault.Halt.{Halt}
use Rattle.mk_name.specs.declared.fault.Halt.TheVariants.{Fault}
use Rattle.mk_race.specs.Serialised.{IsLawful, IsLawfulBuild, IsLawfulOn, IsSerialised}
use Rattle.mk_race.specs.Stages.{Texts}
use Rattle.mk_race.specs.declared.preparing.Prepared.{Prepared}
use Rattle.mk_race.specs.declared.serialising.Ordered.{Ordered}
use Rattle.mk_race.specs.declared.serialising.Ordered.TheVariants.{Serial, NotAllowed, NotComplete, Race, NoRoom}
use Rattle.mk_race.specs.declared.serialising.Serialised.{Serialised}
use Rattle.mk_sched.specs.Stored.{store_of}
use Rattle.mk_sched.proofs.SerialList.{all_inside}
use Rattle.mk_program.specs.Answers.{HasNoText, IsSerialiseAnswer}
use Rattle.mk_program.specs.OrderText.{HasNodes, IsNoText, IsOrderedText, IsUnreported, order_status}
use Rattle.mk_files.specs.declared.failures.Failure.{Failure}
use Rattle.mk_program.specs.declared.statuses.Status.{Status}
use Rattle.mk_program.specs.declared.statuses.Status.TheVariants.{Done, No, Failed, Refused}

-- what is reported of a log ends as done or as no
pub ends_as : (order : Ordered) → (order_status order ≡ Done) ⊎ (order_status order ≡ No)
ends_as (Serial list) = inl refl
ends_as (NotAllowed place refusal) = inr refl
ends_as NotComplete = inr refl
ends_as (Race trace) = inr refl
ends_as NoRoom = inr refl

pub order_not_failed : (order : Ordered) (status : Status) → status ≡ order_status order → status ≢ Failed
order_not_failed order status ends failed = elim (ends_as order) [
  | inl done ↦ let e : ◌≡◌ {A = Status} Done Failed = sym done ∙ sym ends ∙ failed in cc
  | inr refused ↦ let e : ◌≡◌ {A = Status} No Failed = sym refused ∙ sym ends ∙ failed in cc
]

-- the report of the fault of a log, or of its build, is its answer
pub unordered_is : (texts : Texts) (footprints log : List ℕ) (limit limit' : ℕ) (tie : Bool) (halt : Halt) (fault : Reported) (status : Status) (text : List ℕ)
    → HaltsAmong halt (IsSerialised texts footprints log limit' tie) → halt ≡ Fault fault → limit' ≡ limit → status ≡ Refused → text ≡ refused_text fault
    → IsSerialiseAnswer texts footprints log limit tie status text
unordered_is texts footprints log limit limit' tie halt fault status text given is same ends reported =
    let at : HaltsAmong (Fault fault) (IsSerialised texts footprints log limit' tie) = subst (λ (h : Halt). HaltsAmong h (IsSerialised texts footprints log limit' tie)) is given in
    rw ends (fault, subst (λ (n : ℕ). IsSerialised texts footprints log n tie (Err fault)) same at, reported)

-- what is reported of a log is its answer
pub order_is : (texts : Texts) (footprints log : List ℕ) (limit limit' : ℕ) (tie : Bool) (given : Serialised) (status : Status) (text : List ℕ)
    → IsSerialised texts footprints log limit' tie (Ok given) → IsLawfulBuild texts footprints log tie given → limit' ≡ limit → status ≡ order_status given.order
    → IsOrderedText given.jobs given.order text → IsSerialiseAnswer texts footprints log limit tie status text
order_is texts footprints log limit limit' tie given status text is law same ends reported =
    let at : IsSerialised texts footprints log limit tie (Ok given) = subst (λ (n : ℕ). IsSerialised texts footprints log n tie (Ok given)) same is in
    elim (ends_as given.order) [
      | inl done ↦ subst (λ (s : Status). IsSerialiseAnswer texts footprints log limit tie s text) (sym (ends ∙ done)) (given, at, law, sym done, reported)
      | inr refused ↦ subst (λ (s : Status). IsSerialiseAnswer texts footprints log limit tie s text) (sym (ends ∙ refused)) (given, at, law, sym refused, reported)
    ]

nodes_in : (jobs : Jobs) (tie : Bool) (log : Log) (order : Ordered) → IsLawful jobs tie log order → HasNodes jobs order
nodes_in jobs tie log (Serial list) same = all_inside jobs tie 1 (store_of log.store) list.events same.law.serial.run
nodes_in jobs tie log (NotAllowed place refusal) same = tt
nodes_in jobs tie log NotComplete same = tt
nodes_in jobs tie log (Race trace) same = tt
nodes_in jobs tie log NoRoom same = tt

-- the events of a log in serial order are of nodes
pub has_nodes : (prepared : Prepared) (log : List ℕ) (tie : Bool) (given : Serialised) → given.jobs ≡ prepared.jobs
    → IsLawfulOn prepared log tie given.order → HasNodes given.jobs given.order
has_nodes prepared log tie given jobs law =
    subst (λ (j : Jobs). HasNodes j given.order) (sym jobs) (nodes_in prepared.jobs tie law.read given.order law.lawful)

-- why something is not reported gives why more is not
pub unreported_more : (P Q : Type 0) (failure : Failure) → (P → Q) → IsUnreported P failure → IsUnreported Q failure
unreported_more P Q failure more (inl memory) = inl memory
unreported_more P Q failure more (inr no_text) = inr (no_text.0, more no_text.1)

-- a name that is no text is one of the log over these texts
pub no_text_is : (texts : Texts) (footprints log : List ℕ) (limit limit' : ℕ) (tie : Bool) (given : Serialised)
    → IsSerialised texts footprints log limit' tie (Ok given) → limit' ≡ limit → IsNoText given.jobs given.order → HasNoText texts footprints log limit tie
no_text_is texts footprints log limit limit' tie given is same no_text =
    (given, subst (λ (n : ℕ). IsSerialised texts footprints log n tie (Ok given)) same is, no_text)
