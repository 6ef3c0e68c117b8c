-- Who uses a file, and of whom something of a kind can be wrong.
use Rattle.std.proofs.Common.{ℕ, ◌≡◌, ◌<◌, ◌⊎◌, Bool, true, false, All, Contains, IfNone, IfSome, is_some, not, Option, Some, None, refl, sym, ap, subst, ◌∙◌, inl, inr, arith}
use Rattle.std.proofs.lemmas.Bool.{both_ways, cases_Bool}
use Rattle.std.proofs.lemmas.List.Elements.{All-contains}
use Rattle.mk_path.specs.declared.path.Path.{Path}
use Rattle.mk_jobs.specs.Jobs.{Before, Jobs, node_count}
use Rattle.mk_jobs.specs.Shape.{IsWellFormed}
use Rattle.mk_missing.specs.Watching.{RunsWith}
use Rattle.mk_missing.specs.Files.{IsInputFile, IsLastIfAny, writes_file}
use Rattle.mk_missing.specs.Finding.{IsInTime, IsTogether, IsWatched}
use Rattle.mk_missing.specs.Kinds.{IsFine, nodes_of}
use Rattle.mk_missing.specs.Users.{AreUsers}
use Rattle.mk_missing.specs.Violations.{IsLate, IsShared}
use Rattle.mk_missing.specs.declared.kind.Kind.{Kind}
use Rattle.mk_missing.specs.declared.kind.Kind.TheVariants.{Unwatched, Late, Shared}
use Rattle.mk_missing.specs.declared.users.Users.{Users}
use Rattle.mk_missing.proofs.Gathering.{reader_node, writer_node}
use Rattle.mk_missing.proofs.Keeping.{contains_or}

module _ (jobs : Jobs) (users : Users) (are : AreUsers jobs users) where
  -- a node whose input the file is is among its users, and of others nothing is asked
  input_or : (n : ℕ) → Contains users.inputs.items n ⊎ (IsInputFile jobs n users.file → ⊥)
  input_or n = elim (contains_or users.inputs.items n) [ inl there ↦ inl there | inr none ↦ inr (λ input. none ((are.inputs n).1 input)) ]

  pub watched_or : (n : ℕ) → Contains users.inputs.items n ⊎ IsWatched jobs n users.file
  watched_or n = elim (input_or n) [ inl there ↦ inl there | inr none ↦ inr (λ input. absurd (none input)) ]

  pub in_time_or : (n : ℕ) → Contains users.inputs.items n ⊎ IsInTime jobs n users.file
  in_time_or n = elim (input_or n) [ inl there ↦ inl there | inr none ↦ inr (λ input. absurd (none input)) ]

  pub together_or : (n : ℕ) → Contains users.writers.items n ⊎ IsTogether jobs n users.file
  together_or n = elim (cases_Bool (writes_file jobs n users.file)) [
    | inl so ↦ inl ((are.writers n).1 so)
    | inr nay ↦ inr (λ writes. absurd (both_ways (writes_file jobs n users.file) nay writes))
  ]

  -- a node is one with which something of a kind can be wrong, or all is fine
  pub fine_or : (kind : Kind) (n : ℕ) → Contains (nodes_of kind users) n ⊎ IsFine jobs kind n users.file
  fine_or Unwatched n = watched_or n
  fine_or Late n = in_time_or n
  fine_or Shared n = together_or n

  -- of an input: no writer is found late, or one
  pub in_time_if : (n : ℕ) (found : Option ℕ) (fine : Bool) → is_some found ≡ not fine → IfNone found (All (λ m. Before jobs m n) users.writers.items) → fine ≡ true → IsInTime jobs n users.file
  in_time_if n (Some m) fine is all so = absurd (both_ways (not fine) (ap not so) (sym is))
  in_time_if n None fine is all so = λ input m writes. All-contains (λ m. Before jobs m n) users.writers.items m all ((are.writers m).1 writes)

  pub late_if : (n : ℕ) (found : Option ℕ) (fine : Bool) → is_some found ≡ not fine → IfSome found (λ m. Contains users.writers.items m × (Before jobs m n → ⊥)) → Contains users.inputs.items n
      → fine ≡ false → IsLate jobs n users.file
  late_if n (Some m) fine is late there nay = record { input = (are.inputs n).0 there; writer = m; writes = (are.writers m).0 late.0; late = late.1 }
  late_if n None fine is late there nay = absurd (both_ways false refl (is ∙ ap not nay))

  -- users are nodes
  pub input_inside : (n : ℕ) → IsWellFormed jobs → Contains users.inputs.items n → n < node_count jobs
  input_inside n shape there = reader_node jobs n users.file shape ((are.inputs n).0 there).reads

  pub writer_inside : (n : ℕ) → IsWellFormed jobs → Contains users.writers.items n → n < node_count jobs
  writer_inside n shape there = writer_node jobs n users.file shape ((are.writers n).0 there)

-- and so is the last writer
pub last_inside : (jobs : Jobs) (p : Path) (last : Option ℕ) → IsWellFormed jobs → IsLastIfAny jobs p last → IfSome last (λ w. w < node_count jobs)
last_inside jobs p (Some w) shape is = writer_node jobs w p shape is.writes
last_inside jobs p None shape is = tt

-- a writer by the last one
pub together_if : (jobs : Jobs) (p : Path) (last : Option ℕ) (n : ℕ) → IsLastIfAny jobs p last → IfSome last (λ w. (n ≡ w) ⊎ RunsWith jobs n w) → IsTogether jobs n p
together_if jobs p (Some w) n is test = λ writes v also. subst (λ m. (n ≡ m) ⊎ RunsWith jobs n m) (let one = is.last v also.writes in let other = also.last w is.writes in omega (arith, one, other)) test
together_if jobs p None n is test = λ writes v also. absurd (is n writes)

pub apart_if : (jobs : Jobs) (p : Path) (last : Option ℕ) (n : ℕ) → IsLastIfAny jobs p last → writes_file jobs n p ≡ true → (IfSome last (λ w. (n ≡ w) ⊎ RunsWith jobs n w) → ⊥) → IsShared jobs n p
apart_if jobs p (Some w) n is writes apart = record { writes = writes; writer = w; last = is; other = λ same. apart (inl same); apart = λ runs. apart (inr runs) }
apart_if jobs p None n is writes apart = absurd (is n writes)
