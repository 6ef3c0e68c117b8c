-- Marks of nodes, and of all that they stand behind.
use Rattle.std.proofs.Common.{ℕ, ◌≡◌, ◌≢◌, ◌∙◌, ◌<◌, ◌≤◌, Bool, true, false, List, [], ◌∷◌, Option, None, Some, arith, get_or, length, replicate, set, refl, sym, ap, subst, inl, inr}
use Rattle.std.specs.Prelude.{◌&&◌, ◌||◌, find, nat_eq, not}
use Rattle.std.specs.List.{list_any}
use Rattle.std.specs.Option.{option_map_or}
use Rattle.std.proofs.lemmas.Bool.{both_ways, cases_Bool, cond-false, or_left, or_right}
use Rattle.std.proofs.lemmas.List.{get_or-map, get_or-set_same, get_or-set_other, length-map}
use Rattle.mk_name.specs.Names.{Name, has}
use Rattle.mk_name.proofs.Names.{nat_is_exact}
use Rattle.mk_jobs.specs.Jobs.{has_commands}
use Rattle.mk_jobs.specs.Numbered.{number_of}
use Rattle.mk_jobs.proofs.Numberings.{number_some}
use Rattle.mk_jobs.specs.Plan.{NeedsStandBefore, Node, names_of}
use Rattle.mk_due.specs.Awaited.{first_early, is_early, is_made, needs_at, with_needs}
use Rattle.mk_due.specs.Good.{AreBelow}
use Rattle.mk_due.specs.Items.{DueItem, nodes_of}

pub or_false : (b : Bool) → (b || false) ≡ b
or_false true = refl
or_false false = refl

or_true : (b : Bool) → (b || true) ≡ true
or_true true = refl
or_true false = refl

or_assoc : (a b c : Bool) → ((a || b) || c) ≡ (a || (b || c))
or_assoc true b c = refl
or_assoc false b c = refl

-- no mark is set where all are false
pub none_marked : (count k : ℕ) → get_or (replicate count false) k false ≡ false
none_marked ℕ.zero k = refl
none_marked (ℕ.suc n) ℕ.zero = refl
none_marked (ℕ.suc n) (ℕ.suc k) = none_marked n k

-- one mark more
mark_more : (marks : List Bool) (n k : ℕ) → n < length marks → get_or (set marks n true) k false ≡ (get_or marks k false || nat_eq n k)
mark_more marks n k inside = elim (cases_Bool (nat_eq n k)) [
  | inl same ↦
      ap (λ j. get_or (set marks n true) j false) (sym (nat_is_exact.equal n k same)) ∙ get_or-set_same marks n true false inside
      ∙ sym (ap (λ b. get_or marks k false || b) same ∙ or_true (get_or marks k false))
  | inr other ↦
      let apart : k ≢ n = λ e. both_ways (nat_eq n k) other (subst (λ j. nat_eq n j ≡ true) (sym e) (nat_is_exact.itself n)) in
      get_or-set_other marks n k true false apart ∙ sym (ap (λ b. get_or marks k false || b) other ∙ or_false (get_or marks k false))
]

-- the marks so far, and the nodes that are left
pub mark_step : (marks : List Bool) (n k : ℕ) (rest : List ℕ) → n < length marks
    → (get_or (set marks n true) k false || has nat_eq rest k) ≡ (get_or marks k false || has nat_eq (n ∷ rest) k)
mark_step marks n k rest inside =
    ap (λ b. b || has nat_eq rest k) (mark_more marks n k inside) ∙ or_assoc (get_or marks k false) (nat_eq n k) (has nat_eq rest k)

-- marks of what a node stands behind, if it is marked, and if it is not
pub marked_needs : (m b : Bool) (old : Bool) → m ≡ true → (old || b) ≡ (old || (m && b))
marked_needs m b old is = ap (λ t. old || (t && b)) (sym is)

pub unmarked_needs : (m b : Bool) (old : Bool) → m ≡ false → old ≡ (old || (m && b))
unmarked_needs m b old is = sym (ap (λ t. old || (t && b)) is ∙ or_false old)

-- what a node of items stands behind, and whether it is made
pub needs_are : (items : List DueItem) (n : ℕ) (d : DueItem) → n < length items → needs_at (nodes_of items) n ≡ (get_or items n d).node.prerequisites
needs_are items n d inside =
    let long : n < length (nodes_of items) = subst (λ k. n < k) (sym (length-map items (λ (item : DueItem). item.node))) inside in
    get_or-map (λ (node : Node). node.prerequisites) (nodes_of items) n d.node [] long
    ∙ ap (λ (node : Node). node.prerequisites) (get_or-map (λ (item : DueItem). item.node) items n d d.node inside)

pub made_is : (items : List DueItem) (n : ℕ) (d : DueItem) → n < length items → is_made (nodes_of items) n ≡ has_commands (get_or items n d).node.maker
made_is items n d inside =
    let long : n < length (nodes_of items) = subst (λ k. n < k) (sym (length-map items (λ (item : DueItem). item.node))) inside in
    get_or-map (λ (node : Node). has_commands node.maker) (nodes_of items) n d.node false long
    ∙ ap (λ (node : Node). has_commands node.maker) (get_or-map (λ (item : DueItem). item.node) items n d d.node inside)

-- one node less to go down
pub down : (nodes : List Node) (n k : ℕ) (old new : ℕ → Bool) → ((p : ℕ) → new p ≡ (old p || (old n && has nat_eq (needs_at nodes n) p)))
    → with_needs nodes n new k ≡ with_needs nodes (ℕ.suc n) old k
down nodes n k old new is = ap (λ (t : ℕ → Bool). with_needs nodes n t k) (λ i p. is p i)

-- what is in a test stays in it
pub needs_more : (nodes : List Node) (n : ℕ) (test : ℕ → Bool) (p : ℕ) → test p ≡ true → with_needs nodes n test p ≡ true
needs_more nodes ℕ.zero test p is = is
needs_more nodes (ℕ.suc n) test p is = needs_more nodes n _ p (or_left (test p) (test n && has nat_eq (needs_at nodes n) p) is)

-- what is not early stays so where more is awaited
early_by : (nodes : List Node) (f g : ℕ → Bool) (o : Option ℕ) → ((n : ℕ) → f n ≡ true → g n ≡ true)
    → option_map_or (λ n. is_made nodes n && not (f n)) o false ≡ false → option_map_or (λ n. is_made nodes n && not (g n)) o false ≡ false
early_by nodes f g None more is = refl
early_by nodes f g (Some n) more is = by (is_made nodes n) (f n) (g n) (more n) is
  where
    by : (m a b : Bool) → (a ≡ true → b ≡ true) → (m && not a) ≡ false → (m && not b) ≡ false
    by false a b grows e = refl
    by true true b grows e = ap not (grows refl)
    by true false b grows e = absurd (both_ways true e refl)

or_none : (a b : Bool) → (a || b) ≡ false → (a ≡ false) × (b ≡ false)
or_none true b e = absurd (both_ways true e refl)
or_none false b e = (refl, e)

none_early : (nodes : List Node) (f g : ℕ → Bool) → ((n : ℕ) → f n ≡ true → g n ≡ true) → (needs : List Name)
    → list_any (is_early nodes f) needs ≡ false → find (is_early nodes g) needs ≡ None
none_early nodes f g more [] is = refl
none_early nodes f g more (x ∷ needs) is =
    let parts = or_none (is_early nodes f x) (list_any (is_early nodes f) needs) is in
    cond-false (is_early nodes g x) (Some x) _ (early_by nodes f g (number_of (names_of nodes) x) more parts.0) ∙ none_early nodes f g more needs parts.1

pub none_behind : (nodes : List Node) (n : ℕ) (test : ℕ → Bool) (needs : List Name) → list_any (is_early nodes test) needs ≡ false
    → None ≡ find (is_early nodes (with_needs nodes n test)) needs
none_behind nodes n test needs is = sym (none_early nodes test (with_needs nodes n test) (needs_more nodes n test) needs is)

-- what a node of items stands behind is below it
has_at : (xs : List ℕ) (k d : ℕ) → k < length xs → has nat_eq xs (get_or xs k d) ≡ true
has_at [] k d inside = absurd (omega (arith, inside))
has_at (x ∷ xs) ℕ.zero d inside = or_left (nat_eq x x) (has nat_eq xs x) (nat_is_exact.itself x)
has_at (x ∷ xs) (ℕ.suc k) d inside = or_right (nat_eq x (get_or xs k d)) (has nat_eq xs (get_or xs k d)) (has_at xs k d (omega (arith, inside)))

pub needs_below : (items : List DueItem) (n bound : ℕ) (d : DueItem) → NeedsStandBefore (nodes_of items) → n < length items → n ≤ bound
    → AreBelow bound (get_or items n d).node.prerequisites
needs_below items n bound d behind inside within = λ k e at.
    let needs = (get_or items n d).node.prerequisites in
    let long : n < length (nodes_of items) = subst (λ k. n < k) (sym (length-map items (λ (item : DueItem). item.node))) inside in
    let same : (get_or (nodes_of items) n d.node).prerequisites ≡ needs = ap (λ (node : Node). node.prerequisites) (get_or-map (λ (item : DueItem). item.node) items n d d.node inside) in
    let less = behind n (get_or needs k e) d.node long (subst (λ (ps : List ℕ). has nat_eq ps (get_or needs k e) ≡ true) (sym same) (has_at needs k e at)) in
    omega (arith, less, within)

-- whether a file is early whose number is known
pub early_is : (items : List DueItem) (names : List Name) (test : ℕ → Bool) (x : Name) (n : ℕ) (d : DueItem) → names ≡ names_of (nodes_of items)
    → number_of names x ≡ Some n → is_early (nodes_of items) test x ≡ (has_commands (get_or items n d).node.maker && not (test n))
early_is items names test x n d are is =
    let there : number_of (names_of (nodes_of items)) x ≡ Some n = ap (λ ns. number_of ns x) (sym are) ∙ is in
    let below = (number_some (names_of (nodes_of items)) x n there).0 in
    let inside : n < length items =
    subst (λ k. n < k) (length-map (nodes_of items) (λ (node : Node). node.name) ∙ length-map items (λ (item : DueItem). item.node)) below in
    ap (λ o. option_map_or (λ n. is_made (nodes_of items) n && not (test n)) o false) there ∙ ap (λ b. b && not (test n)) (made_is items n d inside)

-- marks of nodes that are waited for
pub same_early : (items : List DueItem) (marks : List Bool) (waits : List ℕ) (needs : List Name) → ((n : ℕ) → get_or marks n false ≡ has nat_eq waits n)
    → find (is_early (nodes_of items) (with_needs (nodes_of items) (length items) (λ n. get_or marks n false))) needs ≡ first_early (nodes_of items) waits needs
same_early items marks waits needs same =
    ap (λ (t : ℕ → Bool). find (is_early (nodes_of items) (with_needs (nodes_of items) (length items) t)) needs) (λ i n. same n i)
    ∙ ap (λ k. find (is_early (nodes_of items) (with_needs (nodes_of items) k (has nat_eq waits))) needs) (sym (length-map items (λ (item : DueItem). item.node)))
