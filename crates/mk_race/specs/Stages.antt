-- What comes of the texts of a build: the first fault of their stages, or what the graph gives.
use Rattle.std.specs.Prelude.{◌≡◌, ◌<◌, ℕ, List, map, Result, Ok, Err}
use Rattle.mk_name.specs.Names.{Name, has, same_name}
use Rattle.mk_name.specs.Reported.{Reported}
use Rattle.mk_name.specs.declared.fault.Source.{Source}
use Rattle.mk_name.specs.declared.fault.Source.TheVariants as sources
use Rattle.mk_text.specs.Listing.{listing_of}
use Rattle.mk_lines.specs.LogicalLine.{LogicalLine}
use Rattle.mk_lines.specs.LogicalLines.{logical_lines}
use Rattle.mk_text.specs.Spelling.{root_of}
use Rattle.mk_include.specs.Includes.{IncludeTexts, includes_of}
use Rattle.mk_macro.specs.Macros.{Macros}
use Rattle.mk_macro.specs.Operands.{operand_macros}
use Rattle.mk_rules.specs.Book.{Book, targets_of}
use Rattle.mk_rules.specs.Placed.{all_lines}
use Rattle.mk_rules.specs.Reading.{MakefilesSay}
use Rattle.mk_graph.specs.Answer.{IsAnswer}
use Rattle.mk_graph.specs.Answer.{goals_of as goals_or_default}
use Rattle.mk_jobs.specs.Plan.{Plan}
use Rattle.mk_foot.specs.Attached.{attached}
use Rattle.mk_foot.specs.Footprints.{AreFootprintsRead, Footprints}
use Rattle.mk_jobs.specs.Jobs.{Jobs, is_listed, name_of, node_count}
use Rattle.mk_read.specs.declared.input.Input.{Input}
use Rattle.mk_race.specs.Settings.{goals_of}
use Rattle.mk_race.specs.declared.planning.Graphed.{Graphed}
use Rattle.mk_race.specs.declared.planning.Planned.{Planned}
use Rattle.mk_race.specs.declared.preparing.Prepared.{Prepared}

-- a fault ends the stages; a value goes on to the next
abbrev pub Then : {X Y : Type 0} → Result X Reported → (X → Result Y Reported → Type 0) → Result Y Reported → Type 0
Then (Ok value) next answer = next value answer
Then (Err reported) next answer = answer ≡ Err reported

-- the same where a stage may have several answers
abbrev pub ThenAny : {X Y : Type 0} → (Result X Reported → Type 0) → (X → Result Y Reported → Type 0) → Result Y Reported → Type 0
ThenAny {X} stage next answer = (given : Result X Reported) × stage given × Then given next answer

-- the lines of a text, whose faults are reported in this source
abbrev pub reported_in : Source → Result (List LogicalLine) Reported → Result (List LogicalLine) Reported
reported_in source (Ok lines) = Ok lines
reported_in source (Err reported) = Err (record reported { source = source })

-- the book that the lines of the base and of the makefile say, with these texts for their include lines and these macros before them
abbrev pub IsBook : List ℕ → IncludeTexts → Macros → List LogicalLine → List LogicalLine → Result Book Reported → Type 0
IsBook root included macros base makefile answer = (after : Macros) × MakefilesSay root included macros (all_lines base makefile) answer after

-- the texts that a build is planned from
pub record Texts : Type 0 where
  pub root : List ℕ
  pub operands : List (List ℕ)
  pub base : List ℕ
  pub makefile : List ℕ
  pub includes : List (List ℕ × List ℕ)
  pub listing : List ℕ

-- those of a build with this input and this listing
abbrev pub texts_with : Input → List ℕ → Texts
texts_with input listing = record {
  root = input.root.now;
  operands = map (λ operand. operand.now) input.operands.now;
  base = input.base.now;
  makefile = input.makefile.now;
  includes = map (λ pair. (pair.0.now, pair.1.now)) input.includes.now;
  listing = listing;
}

-- the book of the base and of the makefile, with these texts for their include lines and these macros before them
abbrev pub IsBookOf : Texts → List ℕ → IncludeTexts → Macros → Result Book Reported → Type 0
IsBookOf texts root included macros =
    Then (reported_in sources.Base (logical_lines texts.base)) (λ base.
    Then (reported_in sources.Makefile (logical_lines texts.makefile)) (λ makefile. IsBook root included macros base makefile))

-- the book, and then the plan of what the goals need
abbrev pub IsGraphed : Texts → List ℕ → List Name → IncludeTexts → Macros → List Name → Result Graphed Reported → Type 0
IsGraphed texts root goals included macros listed =
    ThenAny (IsBookOf texts root included macros) (λ book. ThenAny (IsAnswer book listed (goals_or_default book goals)) (λ plan answer.
    answer ≡ Ok (record { book = book; plan = plan })))

-- with the plan go the root, the listing and the book that it was made from
abbrev pub with_graph : List ℕ → List Name → Graphed → Planned
with_graph root listed graphed = record { root = root; listing = listed; book = graphed.book; plan = graphed.plan }

-- below a good root: the operands, the paths of the texts for include lines, the listing that was read, and then the book and the plan
abbrev pub IsPlannedBelow : Texts → List ℕ → Result (List Name) Reported → Result Planned Reported → Type 0
IsPlannedBelow texts root listing =
    Then (goals_of root texts.operands) (λ goals. Then (operand_macros texts.operands) (λ macros.
    Then (includes_of root texts.includes) (λ included. Then listing (λ listed.
    ThenAny (IsGraphed texts root goals included macros listed) (λ graphed answer. answer ≡ Ok (with_graph root listed graphed))))))

-- the root, and then what is planned below it
abbrev pub IsPlanned : Texts → Result Planned Reported → Type 0
IsPlanned texts = Then (root_of texts.root) (λ root. IsPlannedBelow texts root (listing_of root texts.listing))

-- the jobs of a plan, whose book this is, and of footprints
abbrev pub AreJobs : Plan → Book → Footprints → Result Jobs Reported → Type 0
AreJobs plan book read answer = answer ≡ attached plan (targets_of book.rules) read

-- the footprints, and then the jobs of them and a plan
abbrev pub IsJobs : List ℕ → Book → Plan → List ℕ → Result Jobs Reported → Type 0
IsJobs root book plan footprints = ThenAny (AreFootprintsRead root footprints) (AreJobs plan book)

-- with the jobs go the root and the listing
abbrev pub with_jobs : Planned → Jobs → Prepared
with_jobs planned jobs = record { root = planned.root; listing = planned.listing; jobs = jobs }

-- the plan, and then the jobs
abbrev pub IsPrepared : Texts → List ℕ → Result Prepared Reported → Type 0
IsPrepared texts footprints =
    ThenAny (IsPlanned texts) (λ planned. ThenAny (IsJobs planned.root planned.book planned.plan footprints) (λ jobs answer.
    answer ≡ Ok (with_jobs planned jobs)))

-- what is so of all texts and footprints that mean a build of these jobs
abbrev pub ForAllBuilds : Jobs → (Texts → List ℕ → Type 0) → Type 0
ForAllBuilds jobs Holds =
    (prepared : Prepared) (texts : Texts) (footprints : List ℕ) → prepared.jobs ≡ jobs → IsPrepared texts footprints (Ok prepared)
    → Holds texts footprints

-- the jobs are listed exactly where the listing has their names
abbrev pub AreListed : Prepared → Type 0
AreListed prepared =
    (n : ℕ) → n < node_count prepared.jobs → is_listed prepared.jobs n ≡ has same_name prepared.listing (name_of prepared.jobs n)
