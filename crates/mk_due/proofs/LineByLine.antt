-- Items line by line: what is known when one more physical line was read.
use Rattle.std.proofs.Common.{ℕ, ◌≡◌, ◌∙◌, ◌+◌, ◌-◌, ◌^◌, List, [], ◌∷◌, ◌++◌, Result, Ok, Err, append_assoc, append-nil, arith, length-append, ap, refl, subst, sym}
use Rattle.std.specs.Prelude.{false, is_some, min}
use Rattle.std.proofs.lemmas.Bool.{cond-false}
use Rattle.mk_name.specs.Gives.{Answers, Gives, Halts, HaltsAmong}
use Rattle.mk_name.specs.Names.{Name}
use Rattle.mk_name.specs.declared.fault.Halt.{Halt}
use Rattle.mk_name.specs.declared.fault.Halt.TheVariants as halts
use Rattle.mk_text.specs.LineFeed.{place_behind}
use Rattle.mk_text.specs.Listing.{lines}
use Rattle.mk_jobs.specs.Jobs.{Jobs}
use Rattle.mk_task.specs.Tasks.{and_then}
use Rattle.mk_due.specs.Items.{AreItems, DueItem, LinesMean, more, none, task_number, waits_among, with_line, with_task, with_text}
use Rattle.mk_due.specs.JobsOf.{AreJobsIn, made}
use Rattle.mk_due.specs.Lines.{DueLine}

-- of no line there are no items
pub begun : (root : List ℕ) (listing : List Name) (items : List DueItem) → items ≡ [] → AreItems root listing [] items
begun root listing items empty = subst (AreItems root listing []) (sym empty) none

-- one line more has been read
pub items_more : (root : List ℕ) (listing : List Name) (done : List (List ℕ)) (line : List ℕ) (place : ℕ) (items all : List DueItem)
    → AreItems root listing done items → place ≡ place_behind done → with_text root listing place items line ≡ Ok all
    → AreItems root listing (done ++ line ∷ []) all
items_more root listing done line place items all are behind is = more line are (subst (λ p. with_text root listing p items line ≡ Ok all) behind is)

pub place_more : (done : List (List ℕ)) (line : List ℕ) (place : ℕ) → place ≡ place_behind done → min (place + 1) (2 ^ 64 - 1) ≡ place_behind (done ++ line ∷ [])
place_more done line place behind = omega (arith, behind, length-append done (line ∷ []))

pub lines_more : (done later left all : List (List ℕ)) (line : List ℕ) → left ≡ line ∷ later → done ++ left ≡ all → (done ++ line ∷ []) ++ later ≡ all
lines_more done later left all line are whole = append_assoc done (line ∷ []) later ∙ ap (λ ls. done ++ ls) (sym are) ∙ whole

-- or it has a fault
pub line_halts : (root : List ℕ) (listing : List Name) (done later left all : List (List ℕ)) (line : List ℕ) (place : ℕ) (items : List DueItem) (halt : Halt)
    → AreItems root listing done items → place ≡ place_behind done → left ≡ line ∷ later → done ++ left ≡ all
    → Halts halt (with_text root listing place items line) → HaltsAmong halt (LinesMean root listing all)
line_halts root listing done later left all line place items halts.Memory are behind here whole h = tt
line_halts root listing done later left all line place items (halts.Fault fault) are behind here whole h = record {
  before = done;
  text = line;
  later = later;
  texts_are = sym whole ∙ ap (λ ls. done ++ ls) here;
  items = items;
  are = are;
  faulty = subst (λ p. with_text root listing p items line ≡ Err fault) behind h;
}

-- no line is left
pub none_left : (root : List ℕ) (listing : List Name) (done all : List (List ℕ)) (items : List DueItem) → done ++ [] ≡ all → AreItems root listing done items → AreItems root listing all items
none_left root listing done all items whole are = subst (λ ls. AreItems root listing ls items) (sym (append-nil done) ∙ whole) are

-- a fault of the lines is that of their jobs
pub jobs_halt : (root : List ℕ) (listing : List Name) (text : List ℕ) (halt : Halt) → HaltsAmong halt (LinesMean root listing (lines text))
    → HaltsAmong halt (AreJobsIn root listing text)
jobs_halt root listing text halts.Memory h = tt
jobs_halt root listing text (halts.Fault fault) h = (Err fault, h, refl)

-- what is made of the items of the lines is what the text means
pub made_answers : (root : List ℕ) (listing : List Name) (text : List ℕ) (items : List DueItem) (result : Result Jobs Halt) → AreItems root listing (lines text) items
    → Gives result (made root (Ok items)) → Answers result (AreJobsIn root listing text)
made_answers root listing text items (Ok jobs) are h = (Ok items, are, sym h)
made_answers root listing text items (Err halts.Memory) are h = tt
made_answers root listing text items (Err (halts.Fault fault)) are h = (Ok items, are, sym h)

-- a line whose label is new, and whose labels are those of tasks
pub line_waits : (listing : List Name) (place : ℕ) (items : List DueItem) (line : DueLine) (waits : List ℕ) → is_some (task_number items line.task.label) ≡ false
    → waits_among place items [] line.task.after ≡ Ok waits → with_line listing place items line ≡ with_task listing place items line.task line.due waits
line_waits listing place items line waits new is =
    cond-false (is_some (task_number items line.task.label)) _ _ new ∙ ap (and_then (with_task listing place items line.task line.due)) is
