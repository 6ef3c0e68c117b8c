-- The names of a plan's nodes, and the places of what they need.
use Rattle.std.proofs.Common.{◌≡◌, ℕ, ◌<◌, List, [], ◌∷◌, length, get_or, take, sym, ◌∙◌, ap, subst, inl, inr, refl, arith, Some, None, Option}
use Rattle.std.specs.Prelude.{IsTrue, nat_eq, map, Vec}
use Rattle.std.specs.Option.{option_map}
use Rattle.std.specs.Global.{Global}
use Rattle.std.proofs.lemmas.Bool.{both_ways, false_from_ne_true}
use Rattle.std.proofs.lemmas.List.{get_or-map, get_or-take, length-map, length-take-le}
use Rattle.mk_name.specs.Names.{Name, same_name, has, IsDistinct}
use Rattle.mk_name.proofs.Names.{name_is_exact, nat_is_exact, in_head, in_tail, in_cons_cases}
use Rattle.mk_graph.specs.Assembled.{node_of, IsAssembled, IsNumbering}
use Rattle.mk_rules.specs.Book.{Book}
use Rattle.mk_jobs.specs.Numbered.{name_at, number_of}
use Rattle.mk_jobs.specs.Plan.{AreFoundBy, Node, Plan, names_of}
use Rattle.mk_graph.specs.Rows.{row, StandAfterNeeds}
use Rattle.mk_graph.proofs.Bridge.{has_back}
use Rattle.mk_jobs.proofs.Numberings.{number_at, number_some}
use Rattle.mk_graph.proofs.Rowing.{in_at, place_of}
use Rattle.mk_graph.proofs.Steps.{In}

-- the nodes of some numbers have the numbers' names
pub names_of_nodes : (book : Book) (listing names : List Name) (rows : List (Vec ℕ Global)) (places ns : List ℕ) → map (λ (m : Node). m.name) (map (λ n. node_of book listing (name_at names n) (map (λ p. get_or places p 0) (row rows n))) ns) ≡ map (name_at names) ns
names_of_nodes book listing names rows places [] = refl
names_of_nodes book listing names rows places (n ∷ ns) = ap (λ xs. name_at names n ∷ xs) (names_of_nodes book listing names rows places ns)

-- distinct numbers have distinct names
pub distinct_names : (names : List Name) (ns : List ℕ) → IsDistinct same_name names → ((n : ℕ) → In ns n → n < length names) → IsDistinct nat_eq ns → IsDistinct same_name (map (name_at names) ns)
distinct_names names [] u w d = tt
distinct_names names (n ∷ ns) u w d = (
  false_from_ne_true _ (λ t.
      let k = has_back same_name name_is_exact (name_at names) ns (name_at names n) t in
      let here = number_at names n u (w n (in_head nat_eq nat_is_exact n ns)) in
      let there = number_at names k.0 u (w k.0 (in_tail nat_eq nat_is_exact n k.0 ns k.1)) in
      let e : Some k.0 ≡ Some n = sym there ∙ ap (number_of names) k.2 ∙ here in
      let same : k.0 ≡ n = cc in
      both_ways _ d.0 (subst (λ (m : ℕ). In ns m) same k.1)),
  distinct_names names ns u (λ m i. w m (in_tail nat_eq nat_is_exact n m ns i)) d.1,
)

-- a prerequisite's place comes before
pub placed_before : (order places : List ℕ) → IsNumbering order places → (i : ℕ) (qs : List ℕ) → i < length order → ((q : ℕ) → In qs q → In (take i order) q) → (p : ℕ) → In (map (λ q. get_or places q 0) qs) p → p < i
placed_before order places at i [] h w p m = absurd (both_ways _ refl m)
placed_before order places at i (q ∷ qs) h w p m =
    elim (in_cons_cases nat_eq nat_is_exact (get_or places q 0) p (map (λ r. get_or places r 0) qs) m) [
      | inl e ↦
          (let k = place_of (take i order) q (w q (in_head nat_eq nat_is_exact q qs)) in
          let l = length-take-le i order (omega arith) in
          let less : k.0 < i = omega (arith, k.1, l) in
          let here : get_or places q 0 ≡ k.0 = ap (λ r. get_or places r 0) (sym k.2 ∙ get_or-take i order k.0 0 less) ∙ at k.0 (omega arith) in
          subst (λ (r : ℕ). r < i) (sym here ∙ e) less)
      | inr r ↦ placed_before order places at i qs h (λ x j. w x (in_tail nat_eq nat_is_exact q x qs j)) p r
    ]

-- each node stands after what it needs
pub nodes_rising : (book : Book) (listing names : List Name) (rows : List (Vec ℕ Global)) (order places : List ℕ) (nodes : List Node) → IsNumbering order places → StandAfterNeeds (row rows) order → nodes ≡ map (λ n. node_of book listing (name_at names n) (map (λ p. get_or places p 0) (row rows n))) order → (i p : ℕ) (d : Node) → i < length nodes → IsTrue (has nat_eq (get_or nodes i d).prerequisites p) → p < i
nodes_rising book listing names rows order places nodes at rising is i p d h m =
    let node_at : ℕ → Node = λ n. node_of book listing (name_at names n) (map (λ q. get_or places q 0) (row rows n)) in
    let k : i < length order = omega (arith, ap length is, length-map order node_at) in
    placed_before order places at i (row rows (get_or order i 0)) k (λ q j. rising i q k j) p
    (subst (λ (x : Node). In x.prerequisites p) (ap (λ ns. get_or ns i d) is ∙ get_or-map node_at order i 0 d k) m)

module _ (names : List Name) (order places : List ℕ) (distinct : IsDistinct same_name names) (within : (n : ℕ) → In order n → n < length names) (once : IsDistinct nat_eq order) (at : IsNumbering order places) where
  name_there : (k : ℕ) → k < length order → name_at (map (name_at names) order) k ≡ name_at names (get_or order k 0)
  name_there k h = get_or-map (name_at names) order k 0 [] h

  number_there : (k : ℕ) → k < length order → number_of (map (name_at names) order) (name_at names (get_or order k 0)) ≡ Some k
  number_there k h =
      ap (number_of (map (name_at names) order)) (sym (name_there k h))
      ∙ number_at (map (name_at names) order) k (distinct_names names order distinct within once) (omega (arith, h, length-map order (name_at names)))

  -- a name's place in an order of all numbers stands beside its number
  found_there : ((n : ℕ) → n < length names → In order n) → (x : Name) (o p : Option ℕ) → number_of names x ≡ o → number_of (map (name_at names) order) x ≡ p → p ≡ option_map (λ n. get_or places n 0) o
  found_there all x (Some n) p e f =
      let here = number_some names x n e in
      let k = place_of order n (all n here.0) in
      sym f ∙ ap (number_of (map (name_at names) order)) (sym here.1 ∙ ap (name_at names) (sym k.2)) ∙ number_there k.0 k.1
      ∙ ap Some (sym (at k.0 k.1) ∙ ap (λ m. get_or places m 0) k.2)
  found_there all x None None e f = refl
  found_there all x None (Some j) e f =
      let here = number_some (map (name_at names) order) x j f in
      let inside : j < length order = omega (arith, here.0, length-map order (name_at names)) in
      let there = number_at names (get_or order j 0) distinct (within (get_or order j 0) (in_at order j inside)) in
      absurd (let clash : Some (get_or order j 0) ≡ None = sym there ∙ ap (number_of names) (sym (name_there j inside) ∙ here.1) ∙ e in cc)

-- the nodes of an order of all numbers are found by the numbers of their names
pub found_nodes : (book : Book) (listing names : List Name) (rows : List (Vec ℕ Global)) (order places : List ℕ) (nodes : List Node) → IsDistinct same_name names → ((n : ℕ) → In order n → n < length names) → ((n : ℕ) → n < length names → In order n) → IsDistinct nat_eq order → IsNumbering order places
    → nodes ≡ map (λ n. node_of book listing (name_at names n) (map (λ p. get_or places p 0) (row rows n))) order → AreFoundBy nodes names places
found_nodes book listing names rows order places nodes distinct within all once at is x =
    ap (λ ns. number_of ns x) (ap names_of is ∙ names_of_nodes book listing names rows places order)
    ∙ found_there names order places distinct within once at all x (number_of names x) (number_of (map (name_at names) order) x) refl refl

-- a plan of the nodes of an order is the plan of the graph
pub assembled_is : (book : Book) (listing names : List Name) (rows : List (Vec ℕ Global)) (order places : List ℕ) (nodes : List Node) (waits : ℕ) (plan : Plan) → IsNumbering order places → nodes ≡ map (λ n. node_of book listing (name_at names n) (map (λ p. get_or places p 0) (row rows n))) order → waits ≡ book.wait_uses → plan ≡ record { nodes = nodes; wait_uses = waits } → IsAssembled book listing names rows order plan
assembled_is book listing names rows order places nodes waits plan at is same made = record { places = places; placed = at; nodes = ap (λ (p : Plan). p.nodes) made ∙ is; waits = ap (λ (p : Plan). p.wait_uses) made ∙ same }
