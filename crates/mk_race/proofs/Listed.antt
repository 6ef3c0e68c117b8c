-- The jobs of a build are listed where its listing has their names.
use Rattle.std.proofs.Common.{◌≡◌, ◌<◌, ℕ, IfOk, List, [], ◌∷◌, Ok, Err, Result, Option, Some, None, length, get_or, refl, sym, ap, ◌∙◌, subst}
use Rattle.std.specs.Option.{option_map_or}
use Rattle.std.proofs.lemmas.Option.{unwrap_or-slice_get}
use Rattle.mk_name.specs.Names.{Name, has, same_name}
use Rattle.mk_name.specs.Gives.{Answers}
use Rattle.mk_name.specs.Reported.{Reported}
use Rattle.mk_name.specs.declared.fault.Halt.{Halt}
use Rattle.mk_text.specs.Listing.{listing_of}
use Rattle.mk_text.specs.Spelling.{root_of}
use Rattle.mk_include.specs.Includes.{includes_of}
use Rattle.mk_macro.specs.Operands.{operand_macros}
use Rattle.mk_rules.specs.Book.{Book, targets_of}
use Rattle.mk_graph.specs.Answer.{Comes, IsAnswer, too_large, no_rule, cycle, planned}
use Rattle.mk_jobs.specs.Plan.{Node, Plan, names_of, nobody}
use Rattle.mk_foot.specs.Attached.{first_fault, jobs_with, owned_names}
use Rattle.mk_foot.specs.Footprints.{Footprints}
use Rattle.mk_jobs.specs.Jobs.{Jobs, is_listed, name_of, node_count}
use Rattle.mk_race.specs.Laws.{JobsAreListed, StoreAgrees}
use Rattle.mk_race.specs.Settings.{goals_of}
use Rattle.mk_race.specs.Stages.{AreJobs, AreListed, IsPlannedBelow, Texts, Then, ThenAny, with_graph, with_jobs}
use Rattle.mk_race.specs.Unused.{IsNotedWith}
use Rattle.mk_race.specs.declared.planning.Graphed.{Graphed}
use Rattle.mk_race.specs.declared.planning.Planned.{Planned}
use Rattle.mk_race.specs.declared.unused.Noted.{Noted}

-- the value of a stage behind which there is one
then_ok : {X Y : Type 0} (stage : Result X Reported) (next : X → Result Y Reported → Type 0) (y : Y) → Then stage next (Ok y) → (x : X) × next x (Ok y)
then_ok (Ok x) next y h = (x, h)
then_ok (Err reported) next y h = absurd (cc h)

any_ok : {X Y : Type 0} (stage : Result X Reported → Type 0) (next : X → Result Y Reported → Type 0) (y : Y) → ThenAny stage next (Ok y)
    → (x : X) × stage (Ok x) × next x (Ok y)
any_ok stage next y (Ok x, s, h) = (x, s, h)
any_ok stage next y (Err reported, s, h) = absurd (cc h)

same_Ok : {X : Type 0} (x y : X) → ◌≡◌ {A = Result X Reported} (Ok x) (Ok y) → x ≡ y
same_Ok x y e = cc

-- each node of a plan is listed where the listing has its name
abbrev PlanListed : List Name → Plan → Type 0
PlanListed listed plan = (n : ℕ) → n < length plan.nodes → (get_or plan.nodes n nobody).listed ≡ has same_name listed (get_or plan.nodes n nobody).name

plan_listed : (book : Book) (listed goals : List Name) (plan : Plan) (answer : Result Plan Reported) → Comes book listed goals answer → answer ≡ Ok plan → PlanListed listed plan
plan_listed book listed goals plan answer (too_large t) e = absurd (cc e)
plan_listed book listed goals plan answer (no_rule name t l) e = absurd (cc e)
plan_listed book listed goals plan answer (cycle names t a c) e = absurd (cc e)
plan_listed book listed goals plan answer (planned p t a is) e =
    subst (λ (q : Plan). PlanListed listed q) (same_Ok p plan e) (λ n inside. (is.nodes n nobody inside).listed)

answer_listed : (book : Book) (listed goals : List Name) (plan : Plan) → IsAnswer book listed goals (Ok plan) → PlanListed listed plan
answer_listed book listed [] plan e = absurd (cc e)
answer_listed book listed (g ∷ gs) plan comes = plan_listed book listed (g ∷ gs) plan (Ok plan) comes refl

-- so is each node of what is planned below a root
below_listed : (texts : Texts) (root : List ℕ) (names : Result (List Name) Reported) (given : Planned) → IsPlannedBelow texts root names (Ok given)
    → PlanListed given.listing given.plan
below_listed texts root names given is =
    let goals = then_ok (goals_of root texts.operands) _ given is in
    let macros = then_ok (operand_macros texts.operands) _ given goals.1 in
    let included = then_ok (includes_of root texts.includes) _ given macros.1 in
    let listing = then_ok names _ given included.1 in
    let graphed = any_ok _ _ given listing.1 in
    let book = any_ok _ _ graphed.0 graphed.1 in
    let plan = any_ok _ _ graphed.0 book.2 in
    let made : graphed.0 ≡ record { book = book.0; plan = plan.0 } = same_Ok _ _ plan.2 in
    let whole : given ≡ with_graph root listing.0 graphed.0 = same_Ok _ _ graphed.2 in
    subst (λ (p : Planned). PlanListed p.listing p.plan) (sym whole)
    (subst (λ (g : Graphed). PlanListed listing.0 g.plan) (sym made) (answer_listed book.0 listing.0 _ plan.0 plan.1))

-- jobs stand on the plan that they are made of
pub on_plan : (fault : Option Reported) (plan : Plan) (read : Footprints) (jobs : Jobs) → Ok jobs ≡ option_map_or (λ f. Err f) fault (Ok (jobs_with read plan)) → jobs.plan ≡ plan
on_plan None plan read jobs e = ap (λ (j : Jobs). j.plan) (same_Ok _ _ e)
on_plan (Some reported) plan read jobs e = absurd (cc e)

at_number : (listed : List Name) (jobs : Jobs) (n : ℕ) → PlanListed listed jobs.plan → n < node_count jobs → is_listed jobs n ≡ has same_name listed (name_of jobs n)
unfolding is_listed name_of node_count
at_number listed jobs n all inside =
    subst (λ (node : Node). node.listed ≡ has same_name listed node.name) (sym (unwrap_or-slice_get jobs.plan.nodes n nobody)) (all n inside)

-- so are the jobs of a plan that is so
with_listed : (given : Planned) (read : Footprints) (jobs : Jobs) → PlanListed given.listing given.plan
    → AreJobs given.plan given.book read (Ok jobs) → AreListed (with_jobs given jobs)
with_listed given read jobs all made =
    let plan : jobs.plan ≡ given.plan =
    on_plan (first_fault given.plan (owned_names (names_of given.plan.nodes) (targets_of given.book.rules)) read) given.plan read jobs made in
    λ n inside. at_number given.listing jobs n (subst (λ (p : Plan). PlanListed given.listing p) (sym plan) all) inside

pub jobs_are_listed : JobsAreListed
jobs_are_listed texts footprints prepared is =
    let given = any_ok _ _ prepared is in
    let rooted = then_ok (root_of texts.root) _ given.0 given.1 in
    let jobs = any_ok _ _ prepared given.2 in
    let read = any_ok _ _ jobs.0 jobs.1 in
    subst AreListed (sym (same_Ok _ _ jobs.2))
    (with_listed given.0 read.0 jobs.0 (below_listed texts rooted.0 (listing_of rooted.0 texts.listing) given.0 rooted.1) read.2)

-- and so are those of a listing that was read ahead
noted_is_listed : (texts : Texts) (listed : Result (List Name) Reported) (read : Result Footprints Reported) (noted : Noted)
    → IsNotedWith texts listed read (Ok noted) → AreListed noted.prepared
noted_is_listed texts listed read noted is =
    let given = any_ok _ _ noted is in
    let rooted = then_ok (root_of texts.root) _ given.0 given.1 in
    let found = any_ok _ _ noted given.2 in
    let there = then_ok read _ found.0 found.1 in
    subst (λ (n : Noted). AreListed n.prepared) (sym (same_Ok _ _ found.2))
    (with_listed given.0 there.0 found.0.0 (below_listed texts rooted.0 listed given.0 rooted.1) there.1.0)

pub noted_are_listed : (texts : Texts) (listed : Result (List Name) Reported) (read : Result Footprints Reported) (result : Result Noted Halt)
    → Answers result (IsNotedWith texts listed read) → IfOk result (λ noted. AreListed noted.prepared)
noted_are_listed texts listed read (Ok noted) is = noted_is_listed texts listed read noted is
noted_are_listed texts listed read (Err halt) is = tt

pub store_agrees : StoreAgrees
store_agrees texts footprints prepared store is agrees n inside =
    agrees (name_of prepared.jobs n) ∙ sym (jobs_are_listed texts footprints prepared is n inside)
