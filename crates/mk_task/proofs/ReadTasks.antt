-- Tasks that are read are good.
use Rattle.std.proofs.Common.{ℕ, ◌≡◌, ◌∙◌, ◌<◌, Bool, true, false, cond, List, [], ◌∷◌, ◌++◌, All, Option, None, Some, Result, Ok, Err, arith, get_or, length, refl, sym, ap, subst, inl, inr, length-append}
use Rattle.std.specs.Prelude.{nat_eq, IsTrue}
use Rattle.std.specs.BTreeSet.{insert_key}
use Rattle.std.specs.Ordering.{nat_cmp}
use Rattle.std.proofs.lemmas.Bool.{cases_lt, or_cases, both_ways}
use Rattle.std.proofs.lemmas.List.{get_or_append_left, length-map, map_push}
use Rattle.std.proofs.lemmas.List.Elements.{All-head, All-nil, All-push, All-tail}
use Rattle.std.proofs.lemmas.Map.Views.{All-insert_key}
use Rattle.mk_name.specs.Names.{IsDistinct, Name, has, same_name}
use Rattle.mk_name.specs.Reported.{Reported}
use Rattle.mk_name.specs.declared.fault.Kind.TheVariants.{TaskTwice, UnknownTask}
use Rattle.mk_name.proofs.Names.{distinct_push, name_is_exact, nat_is_exact}
use Rattle.mk_text.specs.Listing.{lines, next_place}
use Rattle.mk_jobs.specs.Numbered.{number_of}
use Rattle.mk_jobs.proofs.Numberings.{number_some}
use Rattle.mk_foot.specs.Json.{is_blank}
use Rattle.mk_task.specs.Good.{AreGood, IsPlain}
use Rattle.mk_task.specs.Lines.{TaskLine, line_of}
use Rattle.mk_task.specs.Tasks.{Task, labels_of, and_then, needs_from, on_number, task_of, tasks_from, tasks_of, reported, with_line, with_needs, with_said, with_text}
use Rattle.mk_task.proofs.Adding.{AreWithin, within_is}
use Rattle.mk_task.proofs.Apart.{IsPlainLine, line_plain}

module _ {X : Type 0} where
  go_on : (t : Reported) (r : Result X Reported) (y : X) (b : Bool) → cond b (Err t) r ≡ Ok y → (b ≡ false) × (r ≡ Ok y)
  go_on t r y true is = absurd (let e : ◌≡◌ {A = Result X Reported} (Err t) (Ok y) = is in cc)
  go_on t r y false is = (refl, is)

-- a line that is read behind earlier tasks: its label is new, its numbers are found, and all are within the limits
record IsRead (place : ℕ) (earlier : List Task) (line : TaskLine) (tasks : List Task) : Type 0 where
  needs : List ℕ
  new : has same_name (labels_of earlier) line.label ≡ false
  found : needs_from place (labels_of earlier) [] line.after ≡ Ok needs
  limits : AreWithin tasks (earlier ++ task_of line needs ∷ [])

needs_read : (place : ℕ) (earlier : List Task) (line : TaskLine) (tasks : List Task) (r : Result (List ℕ) Reported) → has same_name (labels_of earlier) line.label ≡ false
    → needs_from place (labels_of earlier) [] line.after ≡ r → with_needs place earlier line r ≡ Ok tasks → IsRead place earlier line tasks
needs_read place earlier line tasks (Ok needs) new found is = record { needs = needs; new = new; found = found; limits = within_is place (earlier ++ task_of line needs ∷ []) tasks is }
needs_read place earlier line tasks (Err t) new found is = absurd (let e : ◌≡◌ {A = Result (List Task) Reported} (Err t) (Ok tasks) = is in cc)

line_read : (place : ℕ) (earlier : List Task) (line : TaskLine) (tasks : List Task) → with_line place earlier line ≡ Ok tasks → IsRead place earlier line tasks
line_read place earlier line tasks is =
    let first = go_on (reported TaskTwice place (line.label ∷ [])) _ tasks (has same_name (labels_of earlier) line.label) is in
    needs_read place earlier line tasks _ first.0 refl first.1

IsBelow : ℕ → ℕ → Type 0
IsBelow bound n = n < bound

on_below : (place : ℕ) (labels : List Name) (numbers : List ℕ) (x : Name) (after : List Name) (needs : List ℕ)
    → ((more : List ℕ) → needs_from place labels more after ≡ Ok needs → All (IsBelow (length labels)) more → All (IsBelow (length labels)) needs)
    → (o : Option ℕ) → number_of labels x ≡ o → on_number (reported UnknownTask place (x ∷ [])) (λ n. needs_from place labels (insert_key nat_cmp numbers n) after) o ≡ Ok needs
    → All (IsBelow (length labels)) numbers → All (IsBelow (length labels)) needs
unfolding IsBelow
on_below place labels numbers x after needs further None e is below = absurd (let g : ◌≡◌ {A = Result (List ℕ) Reported} (Err (reported UnknownTask place (x ∷ []))) (Ok needs) = is in cc)
on_below place labels numbers x after needs further (Some n) e is below =
    further (insert_key nat_cmp numbers n) is (All-insert_key nat_cmp n (IsBelow (length labels)) numbers below (number_some labels x n e).0)

needs_below : (place : ℕ) (labels : List Name) (numbers : List ℕ) (after : List Name) (needs : List ℕ) → needs_from place labels numbers after ≡ Ok needs
    → All (IsBelow (length labels)) numbers → All (IsBelow (length labels)) needs
unfolding IsBelow
needs_below place labels numbers [] needs is below = let e : ◌≡◌ {A = Result (List ℕ) Reported} (Ok numbers) (Ok needs) = is in let same : numbers ≡ needs = cc in subst (All (IsBelow (length labels))) same below
needs_below place labels numbers (x ∷ after) needs is below = on_below place labels numbers x after needs (λ more. needs_below place labels more after needs) (number_of labels x) refl is below

all_has : (bound : ℕ) (xs : List ℕ) (p : ℕ) → All (IsBelow bound) xs → IsTrue (has nat_eq xs p) → p < bound
unfolding IsBelow
all_has bound [] p below here = absurd (both_ways _ refl here)
all_has bound (x ∷ xs) p below here = elim (or_cases (nat_eq x p) (has nat_eq xs p) here) [
  | inl same ↦ subst (λ n. n < bound) (nat_is_exact.equal x p same) (All-head (IsBelow bound) x xs below)
  | inr later ↦ all_has bound xs p (All-tail (IsBelow bound) x xs below) later
]

get_last : {X : Type 0} (xs : List X) (x d : X) → get_or (xs ++ x ∷ []) (length xs) d ≡ x
get_last [] x d = refl
get_last (y ∷ xs) x d = get_last xs x d

good_more : (root : List ℕ) (place : ℕ) (earlier : List Task) (line : TaskLine) (tasks : List Task) → AreGood root earlier → IsPlainLine root line
    → with_line place earlier line ≡ Ok tasks → AreGood root tasks
unfolding IsBelow
good_more root place earlier line tasks good plain is =
    let read = line_read place earlier line tasks is in
    let task = task_of line read.needs in
    let labels : length (labels_of earlier) ≡ length earlier = length-map earlier (λ (t : Task). t.label) in
    let below : All (IsBelow (length (labels_of earlier))) read.needs = needs_below place (labels_of earlier) [] line.after read.needs read.found (All-nil _) in
    subst (AreGood root) read.limits.same (record {
      few = read.limits.few;
      few_edges = read.limits.few_edges;
      distinct =
          subst (IsDistinct same_name) (sym (map_push (λ (t : Task). t.label) earlier task))
          (distinct_push same_name name_is_exact (labels_of earlier) line.label good.distinct read.new);
      behind = λ i p d inside here. elim (cases_lt i (length earlier)) [
        | inl less ↦ good.behind i p d less (subst (λ (t : Task). IsTrue (has nat_eq t.needs p)) (get_or_append_left earlier (task ∷ []) d i less) here)
        | inr past ↦
            let last : length earlier ≡ i = omega (arith, inside, past, length-append earlier (task ∷ [])) in
            let there : IsTrue (has nat_eq read.needs p) =
            subst (λ (t : Task). IsTrue (has nat_eq t.needs p)) (ap (λ k. get_or (earlier ++ task ∷ []) k d) (sym last) ∙ get_last earlier task d) here in
            omega (arith, last, labels, all_has (length (labels_of earlier)) read.needs p below there)
      ];
      plain = All-push (IsPlain root) earlier task good.plain (record { reads_named = plain.reads_named; writes_named = plain.writes_named; apart = plain.apart });
    })

said_good : (root text : List ℕ) (place : ℕ) (earlier tasks : List Task) (o : Option TaskLine) → AreGood root earlier → line_of root text ≡ o
    → with_said place earlier o ≡ Ok tasks → AreGood root tasks
said_good root text place earlier tasks None good said is = absurd (let e : ◌≡◌ {A = Result (List Task) Reported} (Err _) (Ok tasks) = is in cc)
said_good root text place earlier tasks (Some line) good said is = good_more root place earlier line tasks good (line_plain root text line said) is

text_good : (root text : List ℕ) (place : ℕ) (earlier tasks : List Task) → AreGood root earlier → with_text root place earlier text ≡ Ok tasks → AreGood root tasks
text_good root text place earlier tasks good is = by (is_blank text) is
  where
    by : (b : Bool) → cond b (Ok earlier) (with_said place earlier (line_of root text)) ≡ Ok tasks → AreGood root tasks
    by true e = let f : ◌≡◌ {A = Result (List Task) Reported} (Ok earlier) (Ok tasks) = e in let same : earlier ≡ tasks = cc in subst (AreGood root) same good
    by false e = said_good root text place earlier tasks (line_of root text) good refl e

on_good : (root text : List ℕ) (place : ℕ) (earlier tasks : List Task) (next : List Task → Result (List Task) Reported) (r : Result (List Task) Reported) → AreGood root earlier
    → ((given : List Task) → AreGood root given → next given ≡ Ok tasks → AreGood root tasks)
    → with_text root place earlier text ≡ r → and_then next r ≡ Ok tasks → AreGood root tasks
on_good root text place earlier tasks next (Ok given) good rest here is = rest given (text_good root text place earlier given good here) is
on_good root text place earlier tasks next (Err t) good rest here is = absurd (let e : ◌≡◌ {A = Result (List Task) Reported} (Err t) (Ok tasks) = is in cc)

lines_good : (root : List ℕ) (texts : List (List ℕ)) (place : ℕ) (earlier tasks : List Task) → AreGood root earlier → tasks_from root place earlier texts ≡ Ok tasks → AreGood root tasks
lines_good root [] place earlier tasks good is = let f : ◌≡◌ {A = Result (List Task) Reported} (Ok earlier) (Ok tasks) = is in let same : earlier ≡ tasks = cc in subst (AreGood root) same good
lines_good root (text ∷ more) place earlier tasks good is =
    on_good root text place earlier tasks (λ given. tasks_from root (next_place place) given more) (with_text root place earlier text) good
    (λ given. lines_good root more (next_place place) given tasks) refl is

pub tasks_good : (root text : List ℕ) (tasks : List Task) → tasks_of root text ≡ Ok tasks → AreGood root tasks
tasks_good root text tasks is = lines_good root (lines text) 1 [] tasks (record {
  few = omega arith;
  few_edges = omega arith;
  distinct = tt;
  behind = λ i p d inside here. absurd (omega (arith, inside));
  plain = All-nil (IsPlain root);
}) is
