-- Lemmas on the answers to requests for a fix.
use Rattle.std.proofs.Common.{◌≡◌, ◌≢◌, ◌∙◌, ℕ, Bool, List, Ok, Result, subst, sym}
use Rattle.mk_name.specs.Gives.{HaltsAmong}
use Rattle.mk_name.specs.Shown.{refused_text}
use Rattle.mk_name.specs.Reported.{Reported}
use Rattle.mk_name.specs.declared.fault.Halt.{Halt}
use Rattle.mk_name.specs.declared.fault.Halt.TheVariants.{Fault}
use Rattle.mk_race.specs.Fixed.{IsFixing}
use Rattle.mk_race.specs.Stages.{Texts}
use Rattle.mk_race.specs.TasksFixed.{IsTaskFixing}
use Rattle.mk_race.specs.declared.fixing.Fixing.{Fixing}
use Rattle.mk_race.specs.declared.fixing.Fixing.TheVariants.{Fixed, NotFixed}
use Rattle.mk_race.specs.declared.tasks_fixing.TaskFixing.{TaskFixing}
use Rattle.mk_race.specs.declared.tasks_fixing.TaskFixing.TheVariants as tasks_fixed
use Rattle.mk_program.specs.Answers.{IsFixAnswer, IsFixReported, IsTaskFixAnswer, SaysFixing, SaysTasksFixed}
use Rattle.mk_program.specs.declared.statuses.Status.{Status}
use Rattle.mk_program.specs.declared.statuses.Status.TheVariants.{Done, No, Failed, Refused}

-- the report of the fault that keeps a fix back is its answer
pub unfixed_is : {F : Type 0} (Is : Result F Reported → Type 0) (Says : F → Status → List ℕ → Type 0) (halt : Halt) (fault : Reported) (status : Status)
    (text : List ℕ) → HaltsAmong halt Is → halt ≡ Fault fault → status ≡ Refused → text ≡ refused_text fault → SaysFixing Is Says status text
unfixed_is Is Says halt fault status text given is ends reported =
    rw ends (fault, subst (λ (h : Halt). HaltsAmong h Is) is given, reported)

-- what is reported of it is its answer
pub fixed_is : (texts : Texts) (footprints : List ℕ) (proof : Bool) (fixing : Fixing) (status : Status) (text : List ℕ)
    → IsFixing texts footprints (Ok fixing) → IsFixReported texts footprints proof fixing status text → IsFixAnswer texts footprints proof status text
fixed_is texts footprints proof (Fixed lines jobs) status text is reported =
    subst (λ (s : Status). IsFixReported texts footprints proof (Fixed lines jobs) s text → IsFixAnswer texts footprints proof s text) (sym reported.0)
    (λ here. (Fixed lines jobs, is, here)) reported
fixed_is texts footprints proof (NotFixed jobs edges refusal) status text is reported =
    subst (λ (s : Status). IsFixReported texts footprints proof (NotFixed jobs edges refusal) s text → IsFixAnswer texts footprints proof s text) (sym reported.0)
    (λ here. (NotFixed jobs edges refusal, is, here)) reported

-- what is said of tasks ends as done or as no
pub tasks_not_failed : (root tasks : List ℕ) (proof : Bool) (fixing : TaskFixing) (status : Status) (text : List ℕ)
    → SaysTasksFixed root tasks proof fixing status text → status ≢ Failed
tasks_not_failed root tasks proof (tasks_fixed.Fixed lines jobs) status text said failed =
    let e : ◌≡◌ {A = Status} Done Failed = sym said.0 ∙ failed in cc
tasks_not_failed root tasks proof (tasks_fixed.NotFixed needs) status text said failed =
    let e : ◌≡◌ {A = Status} No Failed = sym said.0 ∙ failed in cc

-- what is said of them is their answer
pub tasks_fixed_is : (root tasks : List ℕ) (proof : Bool) (fixing : TaskFixing) (status : Status) (text : List ℕ)
    → IsTaskFixing root tasks (Ok fixing) → SaysTasksFixed root tasks proof fixing status text → IsTaskFixAnswer root tasks proof status text
tasks_fixed_is root tasks proof (tasks_fixed.Fixed lines jobs) status text is said =
    subst (λ (s : Status). SaysTasksFixed root tasks proof (tasks_fixed.Fixed lines jobs) s text → IsTaskFixAnswer root tasks proof s text) (sym said.0)
    (λ here. (tasks_fixed.Fixed lines jobs, is, here)) said
tasks_fixed_is root tasks proof (tasks_fixed.NotFixed needs) status text is said =
    subst (λ (s : Status). SaysTasksFixed root tasks proof (tasks_fixed.NotFixed needs) s text → IsTaskFixAnswer root tasks proof s text) (sym said.0)
    (λ here. (tasks_fixed.NotFixed needs, is, here)) said
