-- Lemmas on jobs.
use Rattle.std.proofs.Common.{ℕ, ◌≡◌, ◌<◌, true, length, inl, inr, lt_trans}
use Rattle.std.proofs.lemmas.Bool.{cases_lt, cases_Bool, and_parts, false≢true}
use Rattle.std.proofs.lemmas.Option.{slice_get_past}
use Rattle.mk_name.specs.Names.{Name}
use Rattle.mk_jobs.specs.Jobs.{Jobs, Before, edge, further, IsValid, ClashOn, node_count, has_recipe, is_live, may_read, may_write, may_touch}
use Rattle.mk_jobs.specs.Shape.{IsWellFormed}
use Rattle.mk_jobs.specs.Laws.{AreLive}

-- a chain of edges rises
pub before_less : {jobs : Jobs} {a b : ℕ} → IsValid jobs → Before jobs a b → a < b
before_less valid (edge p) = valid.smaller _ _ p
before_less valid (further chain p) = lt_trans (before_less valid chain) (valid.smaller _ _ p)

-- what has a recipe is a node
recipe_node : (jobs : Jobs) (n : ℕ) → has_recipe jobs n ≡ true → n < node_count jobs
unfolding node_count has_recipe
recipe_node jobs n made = elim (cases_lt n (length jobs.plan.nodes)) [
  | inl below ↦ below
  | inr past ↦ absurd (false≢true (rw (slice_get_past jobs.plan.nodes n past) at made))
]

-- who may read or write is live
pub reader_live : (jobs : Jobs) (n : ℕ) (x : Name) → may_read jobs n x ≡ true → is_live jobs n ≡ true
unfolding may_read
reader_live jobs n x reads = (and_parts _ _ reads).0

pub writer_live : (jobs : Jobs) (n : ℕ) (x : Name) → may_write jobs n x ≡ true → is_live jobs n ≡ true
unfolding may_write
writer_live jobs n x writes = (and_parts _ _ writes).0

-- what is live is a node
pub live_node : (jobs : Jobs) (n : ℕ) → is_live jobs n ≡ true → n < node_count jobs
live_node jobs n live = recipe_node jobs n (and_parts _ _ live).0

-- who may touch a name is live
pub toucher_live : (jobs : Jobs) (n : ℕ) (x : Name) → may_touch jobs n x ≡ true → is_live jobs n ≡ true
toucher_live jobs n x touches = elim (cases_Bool (may_read jobs n x)) [
  | inl reads ↦ reader_live jobs n x reads
  | inr not_read ↦ writer_live jobs n x (rw not_read at touches)
]

-- two nodes that clash are live nodes
pub clash_live : {jobs : Jobs} {a b : ℕ} {x : Name} → ClashOn jobs a b x → AreLive jobs a b
clash_live {jobs} {a} {b} {x} clash =
    let left = toucher_live jobs a x clash.first in
    let right = toucher_live jobs b x clash.second in
    record { first_live = left; second_live = right; first_node = live_node jobs a left; second_node = live_node jobs b right }

-- well-formed jobs are valid
pub shape_valid : {jobs : Jobs} → IsWellFormed jobs → IsValid jobs
shape_valid {jobs} shape = record {
  smaller = shape.smaller;
  own = λ n m below writes. shape.distinct n m (live_node jobs n (writer_live jobs n _ writes)) below (shape.own n m below writes);
}
