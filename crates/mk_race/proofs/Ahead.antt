-- The plan of a build whose listing was read ahead.
use Rattle.std.proofs.Common.{◌≡◌, ◌∙◌, ℕ, List, [], Ok, Err, Result, ap, refl, subst, sym}
use Rattle.mk_name.specs.Names.{Name}
use Rattle.mk_name.specs.Reported.{Reported}
use Rattle.mk_name.specs.Gives.{Answers}
use Rattle.mk_name.specs.declared.fault.Halt.{Halt}
use Rattle.mk_name.specs.declared.fault.Halt.TheVariants as halts
use Rattle.mk_text.specs.Spelling.{root_of}
use Rattle.mk_include.specs.Includes.{includes_of}
use Rattle.mk_macro.specs.Operands.{operand_macros}
use Rattle.mk_read.specs.declared.input.Build.{Build}
use Rattle.mk_read.specs.declared.input.Input.{Input}
use Rattle.mk_race.specs.Parts.{ForAllRead, IsListedFrom, IsPlannedWith, IsReadFrom}
use Rattle.mk_race.specs.Settings.{goals_of}
use Rattle.mk_race.specs.Stages.{IsPlanned, IsPlannedBelow, Texts, Then, ThenAny, texts_with}
use Rattle.mk_race.specs.declared.planning.Planned.{Planned}

-- a stage whose answers are answers behind another
then_more : {X Y : Type 0} (stage : Result X Reported) (next other : X → Result Y Reported → Type 0) (answer : Result Y Reported)
    → ((x : X) → stage ≡ Ok x → next x answer → other x answer) → Then stage next answer → Then stage other answer
then_more (Ok x) next other answer more is = more x refl is
then_more (Err reported) next other answer more is = is

module _ (texts : Texts) (listed : Result (List Name) Reported) (from : IsListedFrom texts listed) where
  -- the plan with the listing that was read ahead is that of the texts
  pub planned_there : (answer : Result Planned Reported) → IsPlannedWith texts listed answer → IsPlanned texts answer
  planned_there answer =
      then_more (root_of texts.root) _ _ answer (λ root rooted is.
      subst (λ (names : Result (List Name) Reported). IsPlannedBelow texts root names answer) (sym (from root rooted)) is)

  answers_planned : (result : Result Planned Halt) → Answers result (IsPlannedWith texts listed) → Answers result (IsPlanned texts)
  answers_planned (Ok planned) is = planned_there (Ok planned) is
  answers_planned (Err halts.Memory) is = tt
  answers_planned (Err (halts.Fault reported)) is = planned_there (Err reported) is

-- so it is of all texts with this input
pub build_planned : (input : Input) (listed : Result (List Name) Reported) (result : Result Planned Halt)
    → Answers result (IsPlannedWith (texts_with input []) listed)
    → (texts : Texts) → texts ≡ texts_with input texts.listing → IsListedFrom texts listed → Answers result (IsPlanned texts)
build_planned input listed result is texts are from =
    let there : Answers result (IsPlannedWith (texts_with input texts.listing) listed) = is in
    answers_planned texts listed from result (subst (λ (t : Texts). Answers result (IsPlannedWith t listed)) (sym are) there)

-- what is so of the input with each listing is so of all that a build was read from
pub for_read : (build : Build) (Holds : Texts → List ℕ → Type 0)
    → ((listed lines : List ℕ) → IsReadFrom build (texts_with build.input listed) lines → Holds (texts_with build.input listed) lines) → ForAllRead build Holds
for_read build Holds so texts lines from =
    subst (λ (t : Texts). Holds t lines) (sym from.texts_are)
    (so texts.listing lines (subst (λ (t : Texts). IsReadFrom build t lines) from.texts_are from))

-- the root of a plan is that of the texts, and its listing the one that was read
ok_same : {X : Type 0} (x y : X) → ◌≡◌ {A = Result X Reported} (Ok x) (Ok y) → x ≡ y
ok_same x y e = cc

then_ok : {X Y : Type 0} (stage : Result X Reported) (next : X → Result Y Reported → Type 0) (y : Y) → Then stage next (Ok y)
    → (x : X) × (stage ≡ Ok x) × next x (Ok y)
then_ok (Ok x) next y h = (x, refl, h)
then_ok (Err reported) next y h = absurd (cc h)

any_ok : {X Y : Type 0} (stage : Result X Reported → Type 0) (next : X → Result Y Reported → Type 0) (y : Y) → ThenAny stage next (Ok y)
    → (x : X) × next x (Ok y)
any_ok stage next y (Ok x, s, h) = (x, h)
any_ok stage next y (Err reported, s, h) = absurd (cc h)

pub planned_from : (texts : Texts) (listed : Result (List Name) Reported) (planned : Planned) → IsPlannedWith texts listed (Ok planned)
    → (root_of texts.root ≡ Ok planned.root) × (listed ≡ Ok planned.listing)
planned_from texts listed planned is =
    let root = then_ok (root_of texts.root) _ planned is in
    let goals = then_ok (goals_of root.0 texts.operands) _ planned root.2 in
    let macros = then_ok (operand_macros texts.operands) _ planned goals.2 in
    let included = then_ok (includes_of root.0 texts.includes) _ planned macros.2 in
    let names = then_ok listed _ planned included.2 in
    let graphed = any_ok _ _ planned names.2 in
    let same = sym (ok_same _ _ graphed.1) in
    (root.1 ∙ ap (λ (p : Planned). Ok p.root) same, names.1 ∙ ap (λ (p : Planned). Ok p.listing) same)
