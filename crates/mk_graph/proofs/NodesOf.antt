-- The nodes of a plan, from the graph by numbers.
use Rattle.std.proofs.Common.{◌≡◌, ℕ, zero, suc, ◌+◌, ◌<◌, List, [], ◌∷◌, ◌++◌, length, get_or, set, take, drop, Bool, sym, ◌∙◌, ap, subst, inl, inr, refl, arith}
use Rattle.std.specs.Prelude.{nat_eq, map, Vec}
use Rattle.std.specs.Global.{Global}
use Rattle.std.proofs.lemmas.Bool.{both_ways, cases_eq}
use Rattle.std.proofs.lemmas.List.{get_or-set_same, get_or-set_other, length-map, get_or-map, map_more, map_push, take-append-drop}
use Rattle.mk_name.specs.Names.{Name, has, same_name, IsDistinct}
use Rattle.mk_name.proofs.Names.{nat_is_exact, in_head, in_tail, in_left}
use Rattle.mk_graph.specs.Assembled.{node_of, IsNumbering}
use Rattle.mk_graph.specs.Answer.{IsNodeOf, IsPlan}
use Rattle.mk_rules.specs.Book.{Book, is_phony}
use Rattle.mk_graph.specs.Makers.{maker_of, needs}
use Rattle.mk_jobs.specs.declared.maker.Maker.{Maker}
use Rattle.mk_graph.specs.Collected.{IsGraph}
use Rattle.mk_graph.specs.Graph.{IsSerialOrder}
use Rattle.mk_jobs.specs.Numbered.{name_at}
use Rattle.mk_jobs.specs.Plan.{Node, NumberedNode, Plan, with_name, with_names}
use Rattle.mk_graph.specs.Rows.{row}
use Rattle.mk_graph.specs.Walk.{IsOrder}
use Rattle.mk_graph.proofs.Bridge.{Numbers, serial_order_map, no_cycle_map, node_inside}
use Rattle.mk_graph.proofs.Graphs.{numbers_of}
use Rattle.mk_graph.proofs.NodeNames.{names_of_nodes, placed_before}
use Rattle.mk_graph.proofs.Rowing.{in_at, place_of}
use Rattle.mk_graph.proofs.Steps.{In}

pub distinct_at : (xs : List ℕ) (i k : ℕ) → IsDistinct nat_eq xs → i < k → k < length xs → get_or xs i 0 ≡ get_or xs k 0 → ⊥
distinct_at [] i k d h l e = absurd (omega arith)
distinct_at (x ∷ xs) zero zero d h l e = absurd (omega arith)
distinct_at (x ∷ xs) zero (suc k) d h l e = both_ways _ d.0 (subst (λ (n : ℕ). In xs n) (sym e) (in_at xs k (omega arith)))
distinct_at (x ∷ xs) (suc i) zero d h l e = absurd (omega arith)
distinct_at (x ∷ xs) (suc i) (suc k) d h l e = distinct_at xs i k d.1 (omega arith) (omega arith) e

pub placed_more : (order places : List ℕ) (count i : ℕ) → IsDistinct nat_eq order → i < length order → get_or order i 0 < length places → ((k : ℕ) → k < i → get_or places (get_or order k 0) 0 ≡ k) → (k : ℕ) → k < i + 1 → get_or (set places (get_or order i 0) i) (get_or order k 0) 0 ≡ k
placed_more order places count i d h inside p k l =
    elim (cases_eq k i) [
      | inl e ↦ subst (λ (n : ℕ). get_or (set places (get_or order i 0) i) (get_or order n 0) 0 ≡ n) (sym e) (get_or-set_same places (get_or order i 0) i 0 inside)
      | inr n ↦ let less : k < i = omega arith in get_or-set_other places (get_or order i 0) (get_or order k 0) i 0 (distinct_at order k i d less h) ∙ p k less
    ]

-- a node of what was looked up of its name
pub looked_node : (book : Book) (listing names : List Name) (n : ℕ) (needs found : List ℕ) (m : Maker) (real listed : Bool) → m ≡ maker_of book listing (name_at names n) → real ≡ is_phony book (name_at names n) → listed ≡ has same_name listing (name_at names n) → found ≡ needs
    → with_name names (record { name = n; prerequisites = found; maker = m; phony = real; listed = listed }) ≡ node_of book listing (name_at names n) needs
looked_node book listing names n needs found m real listed made is_real is_listed same =
    ap (λ k. with_name names (record { name = n; prerequisites = found; maker = k; phony = real; listed = listed })) made
    ∙ ap (λ p. with_name names (record { name = n; prerequisites = found; maker = maker_of book listing (name_at names n); phony = p; listed = listed })) is_real
    ∙ ap (λ l. with_name names (record { name = n; prerequisites = found; maker = maker_of book listing (name_at names n); phony = is_phony book (name_at names n); listed = l })) is_listed
    ∙ ap (node_of book listing (name_at names n)) same

-- one more node
pub nodes_more : (names : List Name) (f : ℕ → Node) (order : List ℕ) (i : ℕ) (old new : List NumberedNode) (n : NumberedNode) → i < length order → with_names names old ≡ map f (take i order) → new ≡ old ++ n ∷ [] → with_name names n ≡ f (get_or order i 0)
    → with_names names new ≡ map f (take (i + 1) order)
nodes_more names f order i old new n h e is at =
    ap (with_names names) is ∙ map_push (with_name names) old n ∙ ap (λ ns. ns ++ with_name names n ∷ []) e ∙ ap (λ m. map f (take i order) ++ m ∷ []) at ∙ sym (map_more f order i 0 h)

module _ (book : Book) (listing goals names : List Name) (rows : List (Vec ℕ Global)) (starts order places : List ℕ) (g : IsGraph book listing goals names rows starts) (o : IsOrder (row rows) starts order) (at : IsNumbering order places) where
  -- the node of a number
  abbrev pub node_at : ℕ → Node
  node_at n = node_of book listing (name_at names n) (map (λ p. get_or places p 0) (row rows n))

  order_below : (n : ℕ) → In order n → n < length names
  order_below n h = node_inside same_name (needs book listing) goals (name_at names) (length names) (row rows) starts (numbers_of book listing goals names rows starts g) n (o.nodes n h)

  -- the name at the place of a number of the order
  name_back : (q : ℕ) → In order q → get_or (map (name_at names) order) (get_or places q 0) [] ≡ name_at names q
  name_back q h =
      let k = place_of order q h in
      ap (λ m. get_or (map (name_at names) order) (get_or places m 0) []) (sym k.2)
      ∙ ap (λ j. get_or (map (name_at names) order) j []) (at k.0 k.1)
      ∙ get_or-map (name_at names) order k.0 0 [] k.1 ∙ ap (name_at names) k.2

  names_back : (qs : List ℕ) → ((q : ℕ) → In qs q → In order q) → map (λ k. get_or (map (name_at names) order) k []) (map (λ p. get_or places p 0) qs) ≡ map (name_at names) qs
  names_back [] h = refl
  names_back (q ∷ qs) h = ap (λ x. x ∷ map (λ k. get_or (map (name_at names) order) k []) (map (λ p. get_or places p 0) qs)) (name_back q (h q (in_head nat_eq nat_is_exact q qs))) ∙ ap (λ xs. name_at names q ∷ xs) (names_back qs (λ p i. h p (in_tail nat_eq nat_is_exact q p qs i)))

  in_order : (i q : ℕ) → i < length order → In (row rows (get_or order i 0)) q → In order q
  in_order i q h m = subst (λ (xs : List ℕ). In xs q) (take-append-drop i order) (in_left nat_eq nat_is_exact (take i order) (drop i order) q (o.rising i q h m))

  node_is : (i : ℕ) (d : Node) → i < length order → get_or (map node_at order) i d ≡ node_at (get_or order i 0)
  node_is i d h = get_or-map node_at order i 0 d h

  pub plan_is : (plan : Plan) → plan.nodes ≡ map node_at order → plan.wait_uses ≡ book.wait_uses → IsPlan book listing goals plan
  plan_is plan is waits =
      record {
        order = subst (λ (xs : List Name). IsSerialOrder same_name (needs book listing) goals xs) (sym named) (serial_order_map same_name (needs book listing) goals (name_at names) (length names) (row rows) starts w order o.serial order_below);
        no_cycle = no_cycle_map same_name (needs book listing) goals (name_at names) (length names) (row rows) starts w o.no_cycle;
        nodes = λ i d h. let k = inside i h in
            subst (λ (m : Node). IsNodeOf book listing (map (λ (x : Node). x.name) plan.nodes) m) (sym (ap (λ ns. get_or ns i d) is ∙ node_is i d k)) (record {
              prerequisites = ap (λ xs. map (λ j. get_or xs j []) (map (λ p. get_or places p 0) (row rows (get_or order i 0)))) named ∙ names_back (row rows (get_or order i 0)) (λ q m. in_order i q k m) ∙ (g.rows_stand (get_or order i 0) (order_below (get_or order i 0) (in_at order i k))).names_are;
              maker = refl;
              phony = refl;
              listed = refl;
            });
        rising = λ i p d h m. let k = inside i h in
            placed_before order places at i (row rows (get_or order i 0)) k (λ q j. o.rising i q k j) p (subst (λ (x : Node). In x.prerequisites p) (ap (λ ns. get_or ns i d) is ∙ node_is i d k) m);
        waits = waits;
      }
    where
      w : Numbers same_name (needs book listing) goals (name_at names) (length names) (row rows) starts
      w = numbers_of book listing goals names rows starts g

      named : map (λ (x : Node). x.name) plan.nodes ≡ map (name_at names) order
      named = ap (map (λ (x : Node). x.name)) is ∙ names_of_nodes book listing names rows places order

      inside : (i : ℕ) → i < length plan.nodes → i < length order
      inside i h = let l = ap length is in omega (arith, l, length-map order node_at)
