-- The worked case of a task that is due again, computed.
use Rattle.std.proofs.Common.{ℕ, zero, suc, ◌≡◌, ◌<◌, inl, inr, true, false, [], ◌∷◌, List, Ok, Some, refl, ap, ◌∙◌, subst, reverse, ltb-true, nat_lt, codes, Contains, arith}
use Rattle.std.proofs.lemmas.Bool.{false≢true}
use Rattle.std.specs.Str.{chars, is_utf8}
use lib.Utf8.{encode}
use Rattle.json.specs.Json.{value}
use Rattle.json.specs.Lex.{lex, punctuate}
use Rattle.json.specs.Text.{content}
use Rattle.mk_name.specs.Names.{Name, same_name}
use Rattle.mk_jobs.specs.Jobs.{IsPrerequisite, has_recipe, is_listed, is_phony, may_read, may_write, name_of, node_count, prerequisites_of, reads_of, writes_of}
use Rattle.mk_sched.specs.Stores.{File, outdates}
use Rattle.mk_sched.specs.Serial.{IsLast}
use Rattle.mk_sched.specs.Table.{AllowedInTurn, start_from}
use Rattle.mk_sched.proofs.Basics.{split}
use Rattle.mk_sched.proofs.ByTable.{runs_by_table}
use Rattle.mk_sched.proofs.Computed.{each_passes, later_than}
use Rattle.mk_due.specs.Items.{DueItem, always_node, due_node, leaf, more, none, order_item, order_name, task_item}
use Rattle.mk_due.specs.JobsOf.{AreJobsIn}
use Rattle.mk_due.specs.Lines.{Due}
use Rattle.mk_due.specs.RunAgain.{RunAgain, at_rest, first_line, m, made_again, o, of_source, old_tree, said_second, second_line, t, two_lines, two_tasks}
use Rattle.mk_due.specs.Running.{IsSaid, LetsRest, older}

nothing_in : (x : ℕ) → Contains [] x → ⊥
nothing_in x inside = omega (arith, inside.1)

each_node : (P : ℕ → Type 0) → P 0 → P 1 → P 2 → P 3 → (n : ℕ) → n < node_count two_tasks → P n
unfolding node_count
each_node P p q r s zero inside = p
each_node P p q r s (suc zero) inside = q
each_node P p q r s (suc (suc zero)) inside = r
each_node P p q r s (suc (suc (suc zero))) inside = s
each_node P p q r s (suc (suc (suc (suc n)))) inside = absurd (omega arith)

writer_is : (n : ℕ) (x : Name) → may_write two_tasks n x ≡ true → n ≡ 3
unfolding prerequisites_of has_recipe is_phony is_listed writes_of may_write
writer_is zero x writes = absurd (false≢true writes)
writer_is (suc zero) x writes = absurd (false≢true writes)
writer_is (suc (suc zero)) x writes = absurd (false≢true writes)
writer_is (suc (suc (suc zero))) x writes = refl
writer_is (suc (suc (suc (suc n)))) x writes = absurd (false≢true writes)

smaller : (n p : ℕ) → IsPrerequisite two_tasks p n → p < n
unfolding prerequisites_of
smaller zero p step = absurd (nothing_in p step)
smaller (suc zero) p step = absurd (nothing_in p step)
smaller (suc (suc zero)) p step = ltb-true p 2 (each_passes (λ k. nat_lt k 2) (0 ∷ []) refl p step)
smaller (suc (suc (suc zero))) p step = ltb-true p 3 (each_passes (λ k. nat_lt k 3) (1 ∷ 2 ∷ []) refl p step)
smaller (suc (suc (suc (suc n)))) p step = absurd (nothing_in p step)

own_names : (k : ℕ) → k < node_count two_tasks → may_write two_tasks 3 (name_of two_tasks k) ≡ true → 3 ≡ k
unfolding prerequisites_of has_recipe is_phony is_listed writes_of may_write name_of
own_names = each_node (λ k. may_write two_tasks 3 (name_of two_tasks k) ≡ true → 3 ≡ k)
    (λ writes. absurd (false≢true writes)) (λ writes. absurd (false≢true writes)) (λ writes. absurd (false≢true writes)) (λ writes. refl)

own : (n k : ℕ) → k < node_count two_tasks → may_write two_tasks n (name_of two_tasks k) ≡ true → n ≡ k
own n k inside writes =
    let is = writer_is n (name_of two_tasks k) writes in
    is ∙ own_names k inside (subst (λ j. may_write two_tasks j (name_of two_tasks k) ≡ true) is writes)

rests : (time : ℕ) → LetsRest false (old_tree time) said_second
rests time due own_file says some =
    let one : of_source ≡ due = cc in
    let there : old_tree time o ≡ Some own_file = ap (λ (d : Due). old_tree time d.makes) one ∙ some in
    let file : record { bytes = []; time = 2 } ≡ own_file = cc in
    subst (λ (f : File). outdates false (Some f) (old_tree time (order_name o)) ≡ false) file refl

tree_last : IsLast 3 (old_tree 3)
tree_last x found is = split (same_name t x)
    (λ here. let at : found.time ≡ 3 = cc (rw here at is) in omega arith)
    (λ other. split (same_name o x)
    (λ here. let at : found.time ≡ 2 = cc (rw (other, here) at is) in omega arith)
    (λ another. split (same_name (order_name o) x)
    (λ here. let at : found.time ≡ 0 = cc (rw (other, another, here) at is) in omega arith)
    (λ no. cc (rw (other, another, no) at is))))

rest_allowed : AllowedInTurn two_tasks false 1 (start_from (old_tree 1)) (reverse at_rest)
unfolding node_count prerequisites_of has_recipe is_phony is_listed reads_of writes_of may_read may_write name_of
rest_allowed = (
  (record { in_jobs = omega arith; not_passed = refl; not_running = refl; prerequisites = each_passes _ [] refl }, refl, refl, omega arith),
  (
    refl,
    (
      (record { in_jobs = omega arith; not_passed = refl; not_running = refl; prerequisites = each_passes _ [] refl }, inl refl),
      (
        (record { in_jobs = omega arith; not_passed = refl; not_running = refl; prerequisites = each_passes _ (0 ∷ []) refl }, inl refl),
        (
          (record { in_jobs = omega arith; not_passed = refl; not_running = refl; prerequisites = each_passes _ (1 ∷ 2 ∷ []) refl }, inr refl),
          tt,
        ),
      ),
    ),
  ),
)

again_allowed : AllowedInTurn two_tasks false 1 (start_from (old_tree 3)) (reverse made_again)
unfolding node_count prerequisites_of has_recipe is_phony is_listed reads_of writes_of may_read may_write name_of
again_allowed = (
  (record { in_jobs = omega arith; not_passed = refl; not_running = refl; prerequisites = each_passes _ [] refl }, refl, refl, omega arith),
  (
    refl,
    (
      (record { in_jobs = omega arith; not_passed = refl; not_running = refl; prerequisites = each_passes _ [] refl }, inl refl),
      (
        (record { in_jobs = omega arith; not_passed = refl; not_running = refl; prerequisites = each_passes _ (0 ∷ []) refl }, inl refl),
        (
          (record { in_jobs = omega arith; not_passed = refl; not_running = refl; prerequisites = each_passes _ (1 ∷ 2 ∷ []) refl }, refl, refl, omega arith),
          (
            (refl, refl, refl),
            (
              (refl, refl, later_than 3 (old_tree 3) tree_last),
              (refl, tt),
            ),
          ),
        ),
      ),
    ),
  ),
)

abbrev first_items : List DueItem
first_items = task_item 1 (record { label = m; after = []; reads = []; writes = [] }) (always_node m []) ∷ []

abbrev both_items : List DueItem
both_items =
    task_item 1 (record { label = m; after = []; reads = []; writes = [] }) (always_node m [])
    ∷ leaf (t ∷ []) 2 o t ∷ order_item 2 o (0 ∷ []) ∷ task_item 2 said_second.task (due_node (t ∷ []) o (1 ∷ 2 ∷ [])) ∷ []

meant : AreJobsIn (codes "/") (t ∷ []) two_lines (Ok two_tasks)
unfolding is_utf8 chars encode value punctuate lex content
meant = (Ok both_items, more {items = first_items} second_line (more {items = []} first_line none refl) refl, refl)

said : IsSaid (codes "/") two_lines said_second
unfolding is_utf8 chars encode value punctuate lex content
said = record { said = second_line; among = refl; not_blank = refl; reads = refl }

pub run_again : RunAgain
run_again = record {
  meant = meant;
  valid = record { smaller = smaller; own = own };
  said = said;
  no_own = λ time label. refl;
  rests = rests;
  fresh = (runs_by_table two_tasks false 1 (old_tree 1) (reverse at_rest)).1 rest_allowed;
  fresh_complete = each_node _ refl refl refl refl;
  is_at_rest = refl;
  newer = (runs_by_table two_tasks false 1 (old_tree 3) (reverse made_again)).1 again_allowed;
  newer_complete = each_node _ refl refl refl refl;
  is_due = older t refl refl;
  runs = refl;
}
