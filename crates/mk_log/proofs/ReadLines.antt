-- From physical lines to a log: the first line at fault, or all entries.
use Rattle.std.proofs.Common.{◌≡◌, ℕ, ◌+◌, ◌<◌, ◌≤◌, Bool, true, false, List, [], ◌∷◌, ◌++◌, Option, None, Some, length, get_or, take, drop, slice_get, sym, ap, subst, ◌∙◌, refl, arith, map}
use Rattle.std.specs.List.{cons_option, enumerate_from, filter_map}
use Rattle.std.proofs.lemmas.Bool.{cond-true, cond-false}
use Rattle.std.proofs.lemmas.List.{drop_all, drop_more, take_more, take_all, get_or-map, length-map}
use Rattle.std.proofs.lemmas.List.FromFn.{get_or-enumerate_from, length-enumerate_from}
use Rattle.std.specs.Borrow.{Bor}
use Rattle.mk_name.specs.Reported.{Reported}
use Rattle.mk_jobs.specs.Jobs.{Jobs}
use Rattle.mk_log.specs.Reading.{IsLogOf, entries_of, is_good, fault_at, first_fault, reported}
use Rattle.mk_log.specs.Adding.{AddsLine}
use Rattle.mk_log.specs.Nodes.{Build}
use Rattle.mk_log.specs.Logs.{Log}

-- what is known before the physical line of a number: the first fault is among those that are left, and the log is that of the
-- lines so far
pub record ReadsTo (jobs : Jobs) (root : List ℕ) (texts : List (List ℕ)) (number : ℕ) (log : Log) : Type 0 where
  pub first : slice_get (filter_map (fault_at jobs root texts) (drop number (enumerate_from 0 texts))) 0 ≡ first_fault jobs root texts
  pub known : IsLogOf (entries_of jobs root (take number texts)) log

module _ (jobs : Jobs) (root : List ℕ) (texts : List (List ℕ)) (number : ℕ) (text : List ℕ) (within : number < length texts) (is : text ≡ get_or texts number text) where
  text_here : drop number (enumerate_from 0 texts) ≡ (number, text) ∷ drop (number + 1) (enumerate_from 0 texts)
  text_here =
      drop_more (enumerate_from 0 texts) number (0, text) (omega (arith, within, length-enumerate_from 0 texts))
      ∙ ap (λ x. x ∷ drop (number + 1) (enumerate_from 0 texts))
      (get_or-enumerate_from 0 texts number (0, text) within ∙ ap (λ n. (n, get_or texts number text)) (omega arith) ∙ ap (λ x. (number, x)) (sym is))

  -- the fault here, before those that are left
  at_first : (o : Option Reported) → fault_at jobs root texts (number, text) ≡ o
      → slice_get (filter_map (fault_at jobs root texts) (drop number (enumerate_from 0 texts))) 0
      ≡ slice_get (cons_option o (filter_map (fault_at jobs root texts) (drop (number + 1) (enumerate_from 0 texts)))) 0
  at_first o e =
      ap (λ l. slice_get (filter_map (fault_at jobs root texts) l) 0) text_here
      ∙ ap (λ p. slice_get (cons_option p (filter_map (fault_at jobs root texts) (drop (number + 1) (enumerate_from 0 texts)))) 0) e

  module _ (old new : Log) (before : ReadsTo jobs root texts number old) where
    -- a line that is not good is the first fault
    pub bad_first : (good : Bool) → AddsLine jobs root old text good new → good ≡ false → first_fault jobs root texts ≡ Some (reported (number + 1))
    bad_first good adds bad =
        sym before.first
        ∙ at_first (Some (reported (number + 1)))
        (cond-false (is_good jobs root (take number texts) text) None (Some (reported (number + 1))) (sym (adds (take number texts) before.known).0 ∙ bad))

    -- behind a good one the reading goes on
    pub goes_on : (good : Bool) → AddsLine jobs root old text good new → good ≡ true → ReadsTo jobs root texts (number + 1) new
    goes_on good adds fine =
        let added = adds (take number texts) before.known in
        record {
          first = sym (at_first None (cond-true (is_good jobs root (take number texts) text) None (Some (reported (number + 1))) (sym added.0 ∙ fine))) ∙ before.first;
          known = subst (λ (ts : List (List ℕ)). IsLogOf (entries_of jobs root ts) new) (sym (take_more texts number text within ∙ ap (λ t. take number texts ++ t ∷ []) (sym is))) (added.1 fine);
        }

-- how a log grows by a physical line, where the nodes are those of the jobs below the root
pub by_nodes : (jobs : Jobs) (root : List ℕ) (build : Build) (old new : Log) (text : List ℕ) (good : Bool) → build ≡ record { jobs = jobs; root = root }
    → AddsLine build.jobs build.root old text good new → AddsLine jobs root old text good new
by_nodes jobs root build old new text good same adds = subst (λ (b : Build). AddsLine b.jobs b.root old text good new) same adds

-- the text of a physical line
pub text_is : (items : List (Bor (List ℕ))) (n : ℕ) (d : Bor (List ℕ)) → n < length items
    → (get_or items n d).now ≡ get_or (map (λ (l : Bor (List ℕ)). l.now) items) n (get_or items n d).now
text_is items n d within = sym (get_or-map (λ (l : Bor (List ℕ)). l.now) items n d (get_or items n d).now within)

pub text_within : (items : List (Bor (List ℕ))) (n : ℕ) → n < length items → n < length (map (λ (l : Bor (List ℕ)). l.now) items)
text_within items n within = omega (arith, within, length-map items (λ (l : Bor (List ℕ)). l.now))

pub text_past : (items : List (Bor (List ℕ))) (n : ℕ) → length items ≤ n → length (map (λ (l : Bor (List ℕ)). l.now) items) ≤ n
text_past items n past = omega (arith, past, length-map items (λ (l : Bor (List ℕ)). l.now))

-- before the first line nothing is known
pub reads_none : (jobs : Jobs) (root : List ℕ) (texts : List (List ℕ)) (log : Log) → IsLogOf [] log → ReadsTo jobs root texts 0 log
reads_none jobs root texts log known = record { first = refl; known = known }

-- behind the last line there is no fault, and the log is that of all lines
pub reads_all : (jobs : Jobs) (root : List ℕ) (texts : List (List ℕ)) (number : ℕ) (log : Log) → length texts ≤ number
    → ReadsTo jobs root texts number log → (first_fault jobs root texts ≡ None) × IsLogOf (entries_of jobs root texts) log
reads_all jobs root texts number log past all = (
  sym all.first ∙ ap (λ l. slice_get (filter_map (fault_at jobs root texts) l) 0) (drop_all number (enumerate_from 0 texts) (omega (arith, past, length-enumerate_from 0 texts))),
  subst (λ (ts : List (List ℕ)). IsLogOf (entries_of jobs root ts) log) (take_all number texts past) all.known,
)
