-- Two stores with the same sources whose nodes are settled are alike, writer by writer.
use Rattle.std.proofs.Common.{ℕ, zero, suc, ◌≡◌, ◌<◌, Bool, true, sym, ◌∙◌, subst, arith}
use Rattle.std.proofs.lemmas.Bool.{false≢true, false_from_ne_true}
use Rattle.mk_name.specs.Names.{Name}
use Rattle.mk_jobs.specs.Jobs.{Jobs, IsValid, Before, node_count, is_live, may_write}
use Rattle.mk_jobs.proofs.JobsLemmas.{before_less, writer_live, live_node}
use Rattle.mk_sched.specs.Stores.{Store, bytes_of}
use Rattle.mk_sched.specs.Programs.{Program}
use Rattle.mk_sched.proofs.Basics.{split}
use Rattle.mk_missing.specs.Watching.{IsLastWriter, IsInput, IsDeclared}
use Rattle.mk_missing.specs.Incremental.{SameSources}
use Rattle.mk_missing.specs.Laws.{IsSettled, AllSettled, SettledOnce}
use Rattle.mk_missing.proofs.Alike.{left_alike}

-- of these nodes, among which are all nodes before each, the live ones are settled in the first store
module _ (jobs : Jobs) (programs : ℕ → Program) (fixed : Name → Bool) (a b : Store) (valid : IsValid jobs) (declared : IsDeclared jobs fixed)
    (sources : SameSources jobs a b) (Among : ℕ → Type 0) (closed : (m n : ℕ) → Before jobs m n → Among n → Among m)
    (some_a : (n : ℕ) → Among n → is_live jobs n ≡ true → IsSettled jobs programs a n) (all_b : AllSettled jobs programs b) where
  -- a name that only such nodes below the bound may write has the same bytes in both: its greatest writer did the same from the same inputs
  pub same_below : (bound : ℕ) (x : Name) → ((m : ℕ) → may_write jobs m x ≡ true → (m < bound) × Among m) → bytes_of (a x) ≡ bytes_of (b x)
  same_below zero x below = sources x (λ n. false_from_ne_true _ (λ writes. let less = (below n writes).0 in absurd (omega arith)))
  same_below (suc k) x below = split (may_write jobs k x)
      (λ writes.
      let live = writer_live jobs k x writes in
      let among = (below k writes).1 in
      let in_a = some_a k among live in
      let in_b = all_b k live in
      let last : IsLastWriter jobs k x = record { writes = writes; last = λ m other. let less = (below m other).0 in omega arith } in
      let inputs = λ (y : Name) (input : IsInput jobs k y). in_a.inputs y input ∙ same_below k y (λ m other. let before = declared.earlier k m y input other in (before_less valid before, closed m k before among)) ∙ sym (in_b.inputs y input) in
      in_a.stays x last ∙ left_alike jobs programs k in_a.start in_b.start in_a.history in_b.history in_a.does in_b.does in_a.afresh in_b.afresh inputs x writes ∙ sym (in_b.stays x last))
      (λ idle. same_below k x (λ m other.
      let near = below m other in
      let less = near.0 in
      let different : m ≡ k → ⊥ = λ is. false≢true (sym idle ∙ subst (λ i. may_write jobs i x ≡ true) is other) in
      (omega arith, near.1)))

pub settled_once : SettledOnce
settled_once jobs programs fixed a b valid declared sources all_a all_b x =
    same_below jobs programs fixed a b valid declared sources (λ n. Unit {0}) (λ m n before among. tt) (λ n among. all_a n) all_b (node_count jobs) x
    (λ m writes. (live_node jobs m (writer_live jobs m x writes), tt))
