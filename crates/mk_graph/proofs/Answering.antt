-- What `plan` answers, from what its parts found.
use Rattle.std.proofs.Common.{◌≡◌, ℕ, zero, suc, ◌<◌, ◌≤◌, Bool, false, List, [], ◌∷◌, length, take, drop, sym, ap, ap₂, subst, inl, inr, refl, arith, ◌+◌, ◌∙◌, Some, None, Option}
use Rattle.std.specs.Prelude.{IsTrue, nat_eq, map, Vec}
use Rattle.std.specs.List.{flat_map, sum_by}
use Rattle.std.specs.Prelude.{Result}
use Rattle.std.specs.Global.{Global}
use Rattle.mk_name.specs.declared.fault.Halt.{Halt}
use Rattle.std.proofs.lemmas.Bool.{both_ways, cases_lt}
use Rattle.std.proofs.lemmas.List.{length-map, take-append-drop}
use Rattle.std.proofs.lemmas.List.Sums.{sum_by-cons}
use Rattle.mk_name.specs.Names.{Name, same_name, IsDistinct}
use Rattle.mk_name.proofs.Names.{name_is_exact, nat_is_exact, distinct_kept, in_head, in_tail, in_left, in_push, in_joined, kept_has}
use Rattle.mk_name.specs.Gives.{Answers}
use Rattle.mk_graph.specs.Answer.{IsLeastUnmade, AllMade, IsTooLarge, Comes, IsAnswer, goals_of, goal_list}
use Rattle.mk_jobs.specs.Plan.{Plan, edge_limit, node_limit}
use Rattle.mk_rules.specs.Book.{Book, default_goal}
use Rattle.mk_graph.specs.Collected.{IsGraph}
use Rattle.mk_graph.specs.Graph.{IsNode, AreNodes, Leads, count_edges}
use Rattle.mk_graph.specs.Least.{upto, IsLeastPassing}
use Rattle.mk_graph.specs.Makers.{is_unmade, needs}
use Rattle.mk_jobs.specs.Numbered.{name_at, number_of}
use Rattle.mk_graph.specs.Rows.{row, InRange, IsRing}
use Rattle.mk_graph.specs.Walk.{IsOrder}
use Rattle.mk_graph.proofs.Bridge.{node_back, node_inside, node_map, distinct_map, has_back}
use Rattle.mk_graph.proofs.Graphs.{numbers_of}
use Rattle.mk_jobs.proofs.Numberings.{has_at, number_at}
use Rattle.mk_graph.proofs.Rowing.{place_of, row_past}
use Rattle.mk_graph.proofs.Steps.{In}

module _ (book : Book) (listing goals names : List Name) (rows : List (Vec ℕ Global)) (starts : List ℕ) (g : IsGraph book listing goals names rows starts) where
  pub row_within : (i n : ℕ) → In (row rows i) n → n < length names
  row_within i n h =
      elim (cases_lt i (length names)) [
        | inl l ↦ (g.rows_stand i l).within n h
        | inr m ↦ absurd (both_ways _ refl (subst (λ (xs : List ℕ). In xs n) (row_past rows i (let e = g.long in omega arith)) h))
      ]

  pub in_range : InRange rows
  in_range i n h = let a = row_within i n h in let e = g.long in omega arith

  pub starts_within : (n : ℕ) → In starts n → n < length rows
  starts_within n h = let a = g.starts_stand.within n h in let e = g.long in omega arith

  pub ring_some : (ring : List ℕ) → IsRing (row rows) starts ring → 0 < length ring
  ring_some ring r = let l = ap length r.ring_is in omega arith

  pub ring_within : (ring : List ℕ) → IsRing (row rows) starts ring → (n : ℕ) → In ring n → n < length names
  ring_within ring r n h = node_inside same_name (needs book listing) goals (name_at names) (length names) (row rows) starts (numbers_of book listing goals names rows starts g) n (r.nodes n h)

  pub order_within : (order : List ℕ) → IsOrder (row rows) starts order → (n : ℕ) → In order n → n < length names
  order_within order o n h = node_inside same_name (needs book listing) goals (name_at names) (length names) (row rows) starts (numbers_of book listing goals names rows starts g) n (o.nodes n h)

  pub order_distinct : (order : List ℕ) → IsOrder (row rows) starts order → IsDistinct nat_eq order
  order_distinct order o = subst (λ (xs : List ℕ). IsDistinct nat_eq xs) (sym o.serial.order_is) (distinct_kept nat_eq nat_is_exact [] (flat_map o.serial.tree starts) tt)

  -- an order has all that one of its numbers needs
  order_closed : (order : List ℕ) → IsOrder (row rows) starts order → (n p : ℕ) → In order n → In (row rows n) p → In order p
  order_closed order o n p here h =
      let k = place_of order n here in
      let before = o.rising k.0 p k.1 (subst (λ (m : ℕ). In (row rows m) p) (sym k.2) h) in
      subst (λ (xs : List ℕ). In xs p) (take-append-drop k.0 order) (in_left nat_eq nat_is_exact (take k.0 order) (drop k.0 order) p before)

  order_leads : (order : List ℕ) → IsOrder (row rows) starts order → (edges a b : ℕ) → In order a → Leads nat_eq (row rows) edges a b → In order b
  order_leads order o zero a b here l = subst (λ (m : ℕ). In order m) l here
  order_leads order o (suc edges) a b here l = order_closed order o l.0 b (order_leads order o edges a l.0 here l.1) l.2

  order_starts : (order : List ℕ) → IsOrder (row rows) starts order → (s : ℕ) → In starts s → In order s
  order_starts order o s h =
      let tree = o.serial.tree in
      let last = in_push nat_eq nat_is_exact (flat_map tree (row rows s)) s in
      let there = subst (λ (xs : List ℕ). In xs s) (sym (o.serial.trees s (s, zero, h, refl))) last in
      subst (λ (xs : List ℕ). In xs s) (sym o.serial.order_is)
      (kept_has nat_eq nat_is_exact [] (flat_map tree starts) s (in_joined nat_eq nat_is_exact nat_eq nat_is_exact tree starts s s h there))

  -- each number of a name stands in the order
  pub order_all : (order : List ℕ) → IsOrder (row rows) starts order → (n : ℕ) → n < length names → In order n
  order_all order o n h =
      let m = node_back same_name (needs book listing) goals (name_at names) (length names) (row rows) starts (numbers_of book listing goals names rows starts g) (name_at names n) (g.nodes (name_at names n) (has_at names n h)) in
      let found : Some m.0 ≡ Some n = sym (number_at names m.0 g.distinct m.2) ∙ ap (number_of names) m.3 ∙ number_at names n g.distinct h in
      let same : m.0 ≡ n = cc in
      let node = m.1 in
      subst (λ (k : ℕ). In order k) same (order_leads order o node.1 node.0 m.0 (order_starts order o node.0 node.2) node.3)

  -- the names in an order are nodes of the graph
  order_nodes : (order : List ℕ) → IsOrder (row rows) starts order → AreNodes same_name (needs book listing) goals (map (name_at names) order)
  order_nodes order o = record {
    distinct = distinct_map same_name (needs book listing) goals (name_at names) (length names) (row rows) starts (numbers_of book listing goals names rows starts g) order (order_within order o) (order_distinct order o);
    each = λ x h. let k = has_back same_name name_is_exact (name_at names) order x h in
        subst (λ (z : Name). IsNode same_name (needs book listing) goals z) k.2 (node_map same_name (needs book listing) goals (name_at names) (length names) (row rows) starts (numbers_of book listing goals names rows starts g) k.0 (o.nodes k.0 k.1));
  }

  pub order_few : (order : List ℕ) → IsOrder (row rows) starts order → (IsTooLarge book listing goals → ⊥) → length order ≤ node_limit
  order_few order o small =
      elim (cases_lt node_limit (length order)) [
        | inl many ↦ absurd (small (map (name_at names) order, order_nodes order o, inl (let l = length-map order (name_at names) in omega arith)))
        | inr few ↦ omega arith
      ]

  -- as many edges by numbers as by names
  edges_are : (order : List ℕ) → ((n : ℕ) → In order n → n < length names) → sum_by (λ n. length (row rows n)) order ≡ count_edges (needs book listing) (map (name_at names) order)
  edges_are [] within = refl
  edges_are (n ∷ order) within =
      let stand = g.rows_stand n (within n (in_head nat_eq nat_is_exact n order)) in
      sum_by-cons (λ m. length (row rows m)) n order
      ∙ ap₂ (λ a b. a + b)
      (sym (length-map (row rows n) (name_at names)) ∙ ap length stand.names_are)
      (edges_are order (λ m h. within m (in_tail nat_eq nat_is_exact n m order h)))
      ∙ sym (sum_by-cons (λ x. length (needs book listing x)) (name_at names n) (map (name_at names) order))

  pub order_few_edges : (order : List ℕ) → IsOrder (row rows) starts order → (IsTooLarge book listing goals → ⊥) → sum_by (λ n. length (row rows n)) order ≤ edge_limit
  order_few_edges order o small =
      let same = edges_are order (order_within order o) in
      elim (cases_lt edge_limit (sum_by (λ n. length (row rows n)) order)) [
        | inl many ↦ absurd (small (map (name_at names) order, order_nodes order o, inr (subst (λ k. edge_limit < k) same many)))
        | inr few ↦ few
      ]

  pub all_made : IsLeastPassing (is_unmade book listing) names (length names) None → AllMade book listing goals
  all_made p x h =
      let n = node_back same_name (needs book listing) goals (name_at names) (length names) (row rows) starts (numbers_of book listing goals names rows starts g) x h in
      subst (λ (z : Name). is_unmade book listing z ≡ false) n.3 (p n.0 n.2)

  pub least_is : (k : ℕ) → IsLeastPassing (is_unmade book listing) names (length names) (Some k) → IsLeastUnmade book listing goals (name_at names k)
  least_is k p =
      record {
        node = g.nodes (name_at names k) (has_at names k p.0);
        unmade = p.1;
        least = λ x h u.
            let n = node_back same_name (needs book listing) goals (name_at names) (length names) (row rows) starts (numbers_of book listing goals names rows starts g) x h in
            subst (λ (z : Name). IsTrue (upto (name_at names k) z)) n.3 (p.2 n.0 n.2 (subst (λ (z : Name). IsTrue (is_unmade book listing z)) (sym n.3) u));
      }

pub passing_none : (test : Name → Bool) (names : List Name) (n : ℕ) (o : Option ℕ) → ((x : ℕ) → o ≡ Some x → ⊥) → IsLeastPassing test names n o → IsLeastPassing test names n None
passing_none test names n None h p = p
passing_none test names n (Some k) h p = absurd (h k refl)

pub graph_at : (book : Book) (listing goals names : List Name) (rows other : List (Vec ℕ Global)) (starts some : List ℕ) → other ≡ rows → some ≡ starts → IsGraph book listing goals names rows starts → IsGraph book listing goals names other some
graph_at book listing goals names rows other starts some e f g = subst (λ (rs : List (Vec ℕ Global)). IsGraph book listing goals names rs some) (sym e) (subst (λ (ss : List ℕ). IsGraph book listing goals names rows ss) (sym f) g)

-- an order of a graph is one of the same rows and goals
pub order_at : (rows other : List (Vec ℕ Global)) (starts some order same : List ℕ) → rows ≡ other → starts ≡ some → same ≡ order → IsOrder (row rows) starts order → IsOrder (row other) some same
order_at rows other starts some order same e f h o =
    subst (λ (rs : List (Vec ℕ Global)). IsOrder (row rs) some same) e (subst (λ (ss : List ℕ). IsOrder (row rows) ss same) f (subst (λ (ns : List ℕ). IsOrder (row rows) starts ns) (sym h) o))

-- goals that are given are the goals
pub answer_given : (book : Book) (listing goals : List Name) (r : Result Plan Halt) → 0 < length goals → Answers r (Comes book listing goals) → Answers r (IsAnswer book listing (goals_of book goals))
answer_given book listing [] r h a = absurd (omega arith)
answer_given book listing (g ∷ gs) r h a = a

-- without goals the default goal is the goal
pub default_is : (book : Book) (goals : List Name) (goal : Name) → length goals ≡ 0 → default_goal book.rules ≡ Some goal → goals_of book goals ≡ goal ∷ []
default_is book [] goal h e = ap goal_list e
default_is book (g ∷ gs) goal h e = absurd (omega arith)

pub default_none : (book : Book) (goals : List Name) → length goals ≡ 0 → default_goal book.rules ≡ None → goals_of book goals ≡ []
default_none book [] h e = ap goal_list e
default_none book (g ∷ gs) h e = absurd (omega arith)
