-- Files that are wrong by themselves, and what it means that there are none.
use Rattle.std.proofs.Common.{ℕ, ◌≡◌, ◌<◌, ◌↔◌, ◌&&◌, not, Bool, true, false, List, [], ◌∷◌, Contains, Option, Some, None, is_some, length, refl, sym, ap, subst, ◌∙◌, inl, inr, arith}
use Rattle.std.specs.List.{Any}
use Rattle.std.proofs.lemmas.Bool.{and_from, and_parts, both_ways, cases_Bool, or_cases}
use Rattle.std.proofs.lemmas.List.{get_or_default, length-map}
use Rattle.std.proofs.lemmas.List.Folds.{Any-from_list_any, list_any-from_Any}
use Rattle.mk_name.specs.Names.{Name, has, same_name}
use Rattle.mk_path.specs.declared.path.Path.{Path}
use Rattle.mk_path.specs.Paths.{covers, is_over, path_at, same_path}
use Rattle.mk_path.proofs.Overs.{covers_own_name, over_self, path_is}
use Rattle.mk_jobs.specs.Jobs.{Jobs, is_live, may_write, name_of, node_count, writes_of}
use Rattle.mk_jobs.specs.Shape.{IsWellFormed}
use Rattle.mk_jobs.proofs.JobsLemmas.{live_node}
use Rattle.mk_missing.specs.declared.users.Users.{Users}
use Rattle.mk_missing.specs.Files.{IsFile, IsLastIfAny, writes_file}
use Rattle.mk_missing.specs.Kinds.{IsPresentName}
use Rattle.mk_missing.specs.Users.{AreUsers, files_of}
use Rattle.mk_missing.specs.Violations.{ArePlacesWhere, IsListedOutput, IsPresent, IsWrittenTree, ListsNoOutputs, WriteNoTrees}
use Rattle.mk_missing.proofs.Fresh.{covers_file}
use Rattle.mk_missing.proofs.Presents.{AreThose, not_true}
use Rattle.mk_missing.proofs.Standing.{writes_name}

-- a file with a last writer is written
writer_of : (jobs : Jobs) (p : Path) (last : Option ℕ) → IsLastIfAny jobs p last → is_some last ≡ true → (w : ℕ) × (writes_file jobs w p ≡ true)
writer_of jobs p (Some w) is some = (w, is.writes)
writer_of jobs p None is some = absurd (both_ways false refl some)

last_if : (jobs : Jobs) (p : Path) (last : Option ℕ) (w : ℕ) → IsLastIfAny jobs p last → writes_file jobs w p ≡ true → is_some last ≡ true
last_if jobs p (Some v) w is writes = refl
last_if jobs p None w is writes = absurd (is w writes)

pub tree_is : (jobs : Jobs) (user : Users) → AreUsers jobs user → (user.file.tree && is_some user.last ≡ true) ↔ IsWrittenTree jobs user.file
tree_is jobs user are = (
  λ test.
      let parts = and_parts user.file.tree (is_some user.last) test in
      let by = writer_of jobs user.file user.last are.last parts.1 in
      record { tree = parts.0; writer = by.0; writes = by.1 },
  λ is. and_from user.file.tree (is_some user.last) is.tree (last_if jobs user.file user.last is.writer are.last is.writes),
)

pub listed_is : (jobs : Jobs) (listing : List Name) (user : Users) (present : Bool) → AreUsers jobs user → (present ≡ true) ↔ IsPresentName jobs user.file.name
    → (not user.file.tree && is_some user.last && has same_name listing user.file.name && not present ≡ true) ↔ IsListedOutput jobs listing user.file
listed_is jobs listing user present are is = (
  λ test.
      let p = user.file in
      let last = and_parts (not p.tree && is_some user.last && has same_name listing p.name) (not present) test in
      let third = and_parts (not p.tree && is_some user.last) (has same_name listing p.name) last.0 in
      let first = and_parts (not p.tree) (is_some user.last) third.0 in
      let by = writer_of jobs p user.last are.last first.1 in
      record {
        file = not_true p.tree first.0;
        writer = by.0;
        writes = by.1;
        listed = third.1;
        other = λ n name there. both_ways present (not_true present last.1) (is.1 (n, name, there));
      },
  λ output.
      let p = user.file in
      let absent : present ≡ false = elim (cases_Bool present) [ inr nay ↦ nay | inl so ↦ let at = is.0 so in absurd (output.other at.0 at.1 at.2) ] in
      and_from (not p.tree && is_some user.last && has same_name listing p.name) (not present)
      (and_from (not p.tree && is_some user.last) (has same_name listing p.name)
      (and_from (not p.tree) (is_some user.last) (ap not output.file) (last_if jobs p user.last output.writer are.last output.writes)) output.listed) (ap not absent),
)

-- a name is that of a present node if the node of this name is present
pub present_some : (jobs : Jobs) (x : Name) (n : ℕ) (test : Bool) → IsWellFormed jobs → n < node_count jobs → name_of jobs n ≡ x → (test ≡ true) ↔ IsPresent jobs n → (test ≡ true) ↔ IsPresentName jobs x
present_some jobs x n test shape inside name is = (
  λ so. (n, name, is.0 so),
  λ at. is.1 (subst (IsPresent jobs) (shape.distinct at.0 n (live_node jobs at.0 at.2.live) inside (at.1 ∙ sym name)) at.2),
)

pub present_nobody : (jobs : Jobs) (x : Name) → ((n : ℕ) → n < node_count jobs → name_of jobs n ≡ x → ⊥) → (false ≡ true) ↔ IsPresentName jobs x
present_nobody jobs x none = (λ so. absurd (both_ways false refl so), λ at. absurd (none at.0 (live_node jobs at.0 at.2.live) at.1))

-- places up to the end of the files are all places
pub places_are : (users : List Users) (Holds : Path → Type 0) (found : List ℕ) (end : ℕ) → end ≡ length users → AreThose (λ k. Holds (path_at (files_of users) k)) found end → ArePlacesWhere (files_of users) Holds found
places_are users Holds found end whole are =
    let long = length-map users (λ (user : Users). user.file) in
    record {
      rise = are.rise;
      exact = λ k. (
        λ there. let at = (are.exact k).0 there in (omega (arith, at.0, whole, long), at.1),
        λ at. (are.exact k).1 (omega (arith, at.0, whole, long), at.1),
      );
    }

no_place : (k : ℕ) → Contains [] k → ⊥
no_place k there = omega (arith, there.1)

nothing_if : (places : List ℕ) → ((k : ℕ) → Contains places k → ⊥) → places ≡ []
nothing_if [] none = refl
nothing_if (k ∷ ks) none = absurd (none k (0, omega arith, refl))

module _ (jobs : Jobs) (listing : List Name) (shape : IsWellFormed jobs) (files : List Path) (up : (p : Path) → IsFile jobs p → Contains files p) where
  -- a file that holds has a place
  has_place : (Holds : Path → Type 0) (places : List ℕ) (p : Path) → ArePlacesWhere files Holds places → places ≡ [] → IsFile jobs p → Holds p → ⊥
  has_place Holds places p are none is holds =
      let k = up p is in
      let at : path_at files k.0 ≡ p = get_or_default files k.0 (record { name = []; tree = false }) p k.1 ∙ k.2 in
      no_place k.0 (subst (λ (ks : List ℕ). Contains ks k.0) none ((are.exact k.0).1 (k.1, subst Holds (sym at) holds)))

  writes_self : (n : ℕ) (p : Path) → Contains (writes_of jobs n) p → writes_file jobs n p ≡ true
  writes_self n p there = list_any-from_Any (λ q. is_over jobs.root q p) (writes_of jobs n) (there.0, p, there.1, there.2, over_self jobs.root p)

  module _ (outputs trees : List ℕ) (are_outputs : ArePlacesWhere files (IsListedOutput jobs listing) outputs) (are_trees : ArePlacesWhere files (IsWrittenTree jobs) trees) where
    pub no_trees_if : trees ≡ [] → WriteNoTrees jobs
    no_trees_if none n p there = elim (cases_Bool p.tree) [
      | inr nay ↦ nay
      | inl so ↦ absurd (has_place (IsWrittenTree jobs) trees p are_trees none (n, inr there) (record { tree = so; writer = n; writes = writes_self n p there }))
    ]

    pub no_trees_then : WriteNoTrees jobs → trees ≡ []
    no_trees_then never = nothing_if trees (λ k there.
        let is = ((are_trees.exact k).0 there).1 in
        let p = path_at files k in
        let any : Any (λ q. is_over jobs.root q p ≡ true) (writes_of jobs is.writer) = Any-from_list_any (λ q. is_over jobs.root q p) (writes_of jobs is.writer) is.writes in
        let file = never is.writer any.1 (any.0, any.2, any.3) in
        elim (or_cases (same_path any.1 p) (any.1.tree && covers jobs.root any.1 p.name) any.4) [
          | inl same ↦ both_ways p.tree (ap (λ (q : Path). q.tree) (sym (path_is jobs.root any.1 p same)) ∙ file) is.tree
          | inr above ↦ both_ways any.1.tree file (and_parts any.1.tree (covers jobs.root any.1 p.name) above).0
        ])

    pub no_outputs_if : ((n : ℕ) → IsPresent jobs n → ⊥) → outputs ≡ [] → WriteNoTrees jobs → ListsNoOutputs jobs listing
    unfolding may_write
    no_outputs_if absent none never n x may = elim (cases_Bool (has same_name listing x)) [
      | inr nay ↦ nay
      | inl so ↦
          let any : Any (λ q. covers jobs.root q x ≡ true) (writes_of jobs n) = Any-from_list_any (λ q. covers jobs.root q x) (writes_of jobs n) (and_parts (is_live jobs n) _ may).1 in
          let there : Contains (writes_of jobs n) any.1 = (any.0, any.2, any.3) in
          let file = never n any.1 there in
          absurd (has_place (IsListedOutput jobs listing) outputs any.1 are_outputs none (n, inr there) (record {
            file = file;
            writer = n;
            writes = writes_self n any.1 there;
            listed = subst (λ (y : Name). has same_name listing y ≡ true) (sym (covers_file jobs.root any.1 x file any.4)) so;
            other = λ m name present. absent m present;
          }))
    ]

    pub no_outputs_then : ListsNoOutputs jobs listing → outputs ≡ []
    no_outputs_then never = nothing_if outputs (λ k there.
        let is = ((are_outputs.exact k).0 there).1 in
        let p = path_at files k in
        both_ways (has same_name listing p.name) (never is.writer p.name (writes_name jobs shape is.writer p p.name (covers_own_name jobs.root p) is.writes)) is.listed)
