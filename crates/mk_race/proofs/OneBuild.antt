-- The texts of a build mean one build, or one first fault.
use Rattle.std.proofs.Common.{ℕ, List, Ok, Err, Result, sym, ◌∙◌, subst}
use Rattle.mk_name.specs.Names.{Name}
use Rattle.mk_name.specs.Reported.{Reported}
use Rattle.mk_name.specs.declared.fault.Source.TheVariants as sources
use Rattle.mk_text.specs.Listing.{listing_of}
use Rattle.mk_lines.specs.LogicalLines.{logical_lines}
use Rattle.mk_text.specs.Spelling.{root_of}
use Rattle.mk_include.specs.Includes.{IncludeTexts, includes_of}
use Rattle.mk_macro.specs.Macros.{Macros}
use Rattle.mk_macro.specs.Operands.{operand_macros}
use Rattle.mk_rules.specs.Book.{Book}
use Rattle.mk_rules.specs.Placed.{all_lines}
use Rattle.mk_rules.proofs.SayOnce.{say_once}
use Rattle.mk_graph.specs.Answer.{goals_of as goals_or_default}
use Rattle.mk_graph.specs.Once.{Agree}
use Rattle.mk_graph.proofs.PlannedOnce.{agree_same, planned_once}
use Rattle.mk_jobs.specs.Plan.{Plan}
use Rattle.mk_jobs.specs.Jobs.{Jobs}
use Rattle.mk_foot.proofs.ReadOnce.{read_once}
use Rattle.mk_race.specs.Laws.{BuildIsOne, FirstFaultIsOne}
use Rattle.mk_race.specs.Settings.{goals_of}
use Rattle.mk_race.specs.Stages.{IsBookOf, IsGraphed, IsJobs, IsPlanned, Texts, Then, ThenAny, reported_in}
use Rattle.mk_race.specs.declared.planning.Graphed.{Graphed}
use Rattle.mk_race.specs.declared.planning.Planned.{Planned}

-- one stage behind another
then_agree : {X Y : Type 0} (stage : Result X Reported) (next : X → Result Y Reported → Type 0) (one other : Result Y Reported)
    → ((x : X) → next x one → next x other → Agree one other) → Then stage next one → Then stage next other → Agree one other
then_agree (Ok x) next one other on a b = on x a b
then_agree (Err reported) next one other on a b = agree_same one other (a ∙ sym b)

pair_agree : {X Y : Type 0} (given held : Result X Reported) (next : X → Result Y Reported → Type 0) (one other : Result Y Reported) → Agree given held
    → ((x : X) → next x one → next x other → Agree one other) → Then given next one → Then held next other → Agree one other
pair_agree (Ok x) (Ok y) next one other same on a b = on x a (subst (λ (z : _). next z other) (sym same) b)
pair_agree {X} {Y} (Err reported) (Err fault) next one other same on a b =
    subst (λ (r : Result Y Reported). Agree r other) (sym a) (subst (λ (r : Result Y Reported). Agree {X = Y} (Err reported) r) (sym b) same)
pair_agree (Ok x) (Err fault) next one other same on a b = absurd same
pair_agree (Err reported) (Ok y) next one other same on a b = absurd same

any_agree : {X Y : Type 0} (stage : Result X Reported → Type 0) (next : X → Result Y Reported → Type 0) (one other : Result Y Reported)
    → ((given held : Result X Reported) → stage given → stage held → Agree given held)
    → ((x : X) → next x one → next x other → Agree one other) → ThenAny stage next one → ThenAny stage next other → Agree one other
any_agree stage next one other once on a b = pair_agree a.0 b.0 next one other (once a.0 b.0 a.1 b.1) on a.2 b.2

-- ---- the stages

book_once : (texts : Texts) (root : List ℕ) (included : IncludeTexts) (macros : Macros) (one other : Result Book Reported)
    → IsBookOf texts root included macros one → IsBookOf texts root included macros other → Agree one other
book_once texts root included macros one other =
    then_agree (reported_in sources.Base (logical_lines texts.base)) _ one other
    (λ base. then_agree (reported_in sources.Makefile (logical_lines texts.makefile)) _ one other
    (λ makefile a b. agree_same one other (say_once root included macros (all_lines base makefile) one other a.0 b.0 a.1 b.1).0))

graph_once : (texts : Texts) (root : List ℕ) (goals : List Name) (included : IncludeTexts) (macros : Macros) (listed : List Name) (one other : Result Graphed Reported)
    → IsGraphed texts root goals included macros listed one → IsGraphed texts root goals included macros listed other → Agree one other
graph_once texts root goals included macros listed one other =
    any_agree _ _ one other (book_once texts root included macros)
    (λ book. any_agree _ _ one other (planned_once book listed (goals_or_default book goals)) (λ plan a b. agree_same one other (a ∙ sym b)))

plan_once : (texts : Texts) (one other : Result Planned Reported) → IsPlanned texts one → IsPlanned texts other → Agree one other
plan_once texts one other =
    then_agree (root_of texts.root) _ one other
    (λ root. then_agree (goals_of root texts.operands) _ one other
    (λ goals. then_agree (operand_macros texts.operands) _ one other
    (λ macros. then_agree (includes_of root texts.includes) _ one other
    (λ included. then_agree (listing_of root texts.listing) _ one other
    (λ listed. any_agree _ _ one other (graph_once texts root goals included macros listed) (λ graphed a b. agree_same one other (a ∙ sym b)))))))

jobs_once : (root : List ℕ) (book : Book) (plan : Plan) (footprints : List ℕ) (one other : Result Jobs Reported)
    → IsJobs root book plan footprints one → IsJobs root book plan footprints other → Agree one other
jobs_once root book plan footprints one other =
    any_agree _ _ one other (λ given held a b. agree_same given held (read_once root footprints given held a b)) (λ read a b. agree_same one other (a ∙ sym b))

pub first_fault_is_one : FirstFaultIsOne
first_fault_is_one texts footprints one other =
    any_agree _ _ one other (plan_once texts)
    (λ planned. any_agree _ _ one other (jobs_once planned.root planned.book planned.plan footprints) (λ jobs a b. agree_same one other (a ∙ sym b)))

pub build_is_one : BuildIsOne
build_is_one texts footprints one other a b = first_fault_is_one texts footprints (Ok one) (Ok other) a b
