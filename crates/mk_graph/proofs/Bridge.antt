-- From numbers to the nodes that they stand for.
use Rattle.std.proofs.Common.{◌≡◌, ℕ, zero, suc, ◌<◌, Bool, true, List, [], ◌∷◌, ◌++◌, sym, ◌∙◌, ap, subst, inl, inr, refl}
use Rattle.std.specs.Prelude.{◌||◌, IsTrue, nat_eq, map}
use Rattle.std.specs.List.{flat_map}
use Rattle.std.proofs.lemmas.Bool.{cases_Bool, both_ways, cases_eq, ne_eqb, eq-eqb, or_left, or_right, or_cases, false_from_ne_true}
use Rattle.std.proofs.lemmas.List.{map-append, map_push}
use Rattle.mk_name.specs.Names.{has, kept, IsDistinct}
use Rattle.mk_name.proofs.Names.{IsExact, nat_is_exact, in_head, in_tail, in_push_cases, kept_new, kept_old, kept_has}
use Rattle.mk_graph.specs.Graph.{Leads, IsNode, IsSerialOrder, HasNoCycle, EachNeedsNext}
use Rattle.mk_graph.proofs.Steps.{In}

-- the numbers below size have names of their own, and the rows are what they need
pub record Numbers {X : Type 0} (same : X → X → Bool) (needs : X → List X) (goals : List X) (name : ℕ → X) (size : ℕ) (next : ℕ → List ℕ) (starts : List ℕ) : Type 0 where
  pub exact : IsExact same
  pub number : X → ℕ
  pub number_is : (i : ℕ) → i < size → number (name i) ≡ i
  pub rows : (i : ℕ) → i < size → map name (next i) ≡ needs (name i)
  pub inside : (i p : ℕ) → i < size → In (next i) p → p < size
  pub starts_are : map name starts ≡ goals
  pub starts_inside : (g : ℕ) → In starts g → g < size

abbrev pub Below : ℕ → List ℕ → Type 0
Below size xs = (n : ℕ) → In xs n → n < size

flat_map-map : {X : Type 0} (name : ℕ → X) (f : X → List X) (xs : List ℕ) → flat_map f (map name xs) ≡ flat_map (λ n. f (name n)) xs
flat_map-map name f [] = refl
flat_map-map name f (x ∷ xs) = ap (λ ys. f (name x) ++ ys) (flat_map-map name f xs)

map-flat_map : {X : Type 0} (name : ℕ → X) (f : ℕ → List ℕ) (xs : List ℕ) → map name (flat_map f xs) ≡ flat_map (λ n. map name (f n)) xs
map-flat_map name f [] = refl
map-flat_map name f (x ∷ xs) = map-append name (f x) (flat_map f xs) ∙ ap (λ ys. map name (f x) ++ ys) (map-flat_map name f xs)

flat_map-agree : {X : Type 0} (f g : ℕ → List X) (xs : List ℕ) → ((y : ℕ) → In xs y → f y ≡ g y) → flat_map f xs ≡ flat_map g xs
flat_map-agree f g [] h = refl
flat_map-agree f g (x ∷ xs) h =
    ap (λ ys. ys ++ flat_map f xs) (h x (in_head nat_eq nat_is_exact x xs)) ∙ ap (λ ys. g x ++ ys) (flat_map-agree f g xs (λ y i. h y (in_tail nat_eq nat_is_exact x y xs i)))

module _ {X : Type 0} (same : X → X → Bool) (exact : IsExact same) (name : ℕ → X) where
  pub in_map : (xs : List ℕ) (n : ℕ) → In xs n → IsTrue (has same (map name xs) (name n))
  in_map [] n h = absurd (both_ways _ refl h)
  in_map (x ∷ xs) n h =
      elim (or_cases (nat_eq x n) _ h) [
        | inl e ↦ or_left _ _ (subst (λ (k : ℕ). same (name x) (name k) ≡ true) (nat_is_exact.equal x n e) (exact.itself (name x)))
        | inr i ↦ or_right (same (name x) (name n)) _ (in_map xs n i)
      ]

  pub has_back : (xs : List ℕ) (y : X) → IsTrue (has same (map name xs) y) → (n : ℕ) × In xs n × (name n ≡ y)
  has_back [] y h = absurd (both_ways _ refl h)
  has_back (x ∷ xs) y h =
      elim (or_cases (same (name x) y) _ h) [
        | inl e ↦ (x, in_head nat_eq nat_is_exact x xs, exact.equal (name x) y e)
        | inr i ↦ let r = has_back xs y i in (r.0, in_tail nat_eq nat_is_exact x r.0 xs r.1, r.2)
      ]

module _ {X : Type 0} (same : X → X → Bool) (needs : X → List X) (goals : List X) (name : ℕ → X) (size : ℕ) (next : ℕ → List ℕ) (starts : List ℕ) (w : Numbers same needs goals name size next starts) where
  apart : (i j : ℕ) → i < size → j < size → name i ≡ name j → i ≡ j
  apart i j h g e = sym (w.number_is i h) ∙ ap w.number e ∙ w.number_is j g

  same_is : (i j : ℕ) → i < size → j < size → same (name i) (name j) ≡ nat_eq i j
  same_is i j h g =
      elim (cases_eq i j) [
        | inl e ↦ subst (λ (k : ℕ). same (name i) (name k) ≡ true) e (w.exact.itself (name i)) ∙ sym (eq-eqb i j e)
        | inr n ↦ false_from_ne_true _ (λ t. n (apart i j h g (w.exact.equal (name i) (name j) t))) ∙ sym (ne_eqb i j n)
      ]

  has_map : (xs : List ℕ) (n : ℕ) → Below size xs → n < size → has same (map name xs) (name n) ≡ has nat_eq xs n
  has_map [] n b h = refl
  has_map (x ∷ xs) n b h =
      ap (λ t. t || has same (map name xs) (name n)) (same_is x n (b x (in_head nat_eq nat_is_exact x xs)) h)
      ∙ ap (λ t. nat_eq x n || t) (has_map xs n (λ k i. b k (in_tail nat_eq nat_is_exact x k xs i)) h)

  needs_back : (n : ℕ) (y : X) → n < size → IsTrue (has same (needs (name n)) y) → (p : ℕ) × In (next n) p × (name p ≡ y)
  needs_back n y h i = has_back same w.exact name (next n) y (subst (λ (ys : List X). IsTrue (has same ys y)) (sym (w.rows n h)) i)

  pub needs_has : (n p : ℕ) → n < size → In (next n) p → IsTrue (has same (needs (name n)) (name p))
  needs_has n p h i = subst (λ (ys : List X). IsTrue (has same ys (name p))) (w.rows n h) (in_map same w.exact name (next n) p i)

  leads_inside : (edges a b : ℕ) → a < size → Leads nat_eq next edges a b → b < size
  leads_inside zero a b h l = subst (λ (k : ℕ). k < size) l h
  leads_inside (suc n) a b h l = w.inside l.0 b (leads_inside n a l.0 h l.1) l.2

  leads_map : (edges a b : ℕ) → a < size → Leads nat_eq next edges a b → Leads same needs edges (name a) (name b)
  leads_map zero a b h l = ap name l
  leads_map (suc n) a b h l = (name l.0, leads_map n a l.0 h l.1, needs_has l.0 b (leads_inside n a l.0 h l.1) l.2)

  leads_back : (edges a : ℕ) (y : X) → a < size → Leads same needs edges (name a) y → (b : ℕ) × Leads nat_eq next edges a b × (b < size) × (name b ≡ y)
  leads_back zero a y h l = (a, refl, h, l)
  leads_back (suc n) a y h l =
      let c = leads_back n a l.0 h l.1 in
      let p = needs_back c.0 y c.2 (subst (λ (x : X). IsTrue (has same (needs x) y)) (sym c.3) l.2) in
      (p.0, (c.0, c.1, p.1), w.inside c.0 p.0 c.2 p.1, p.2)

  pub node_inside : (n : ℕ) → IsNode nat_eq next starts n → n < size
  node_inside n h = leads_inside h.1 h.0 n (w.starts_inside h.0 h.2) h.3

  pub node_map : (n : ℕ) → IsNode nat_eq next starts n → IsNode same needs goals (name n)
  node_map n h = (name h.0, h.1, subst (λ (ys : List X). IsTrue (has same ys (name h.0))) w.starts_are (in_map same w.exact name starts h.0 h.2), leads_map h.1 h.0 n (w.starts_inside h.0 h.2) h.3)

  pub node_back : (y : X) → IsNode same needs goals y → (n : ℕ) × IsNode nat_eq next starts n × (n < size) × (name n ≡ y)
  node_back y h =
      let g = has_back same w.exact name starts h.0 (subst (λ (ys : List X). IsTrue (has same ys h.0)) (sym w.starts_are) h.2) in
      let l = leads_back h.1 g.0 y (w.starts_inside g.0 g.1) (subst (λ (x : X). Leads same needs h.1 x y) (sym g.2) h.3) in
      (l.0, (g.0, h.1, g.1, l.1), l.2, l.3)

  pub no_cycle_map : HasNoCycle nat_eq next starts → HasNoCycle same needs goals
  no_cycle_map none y edges h l =
      let n = node_back y h in
      let b = leads_back (suc edges) n.0 y n.2 (subst (λ (x : X). Leads same needs (suc edges) x y) (sym n.3) l) in
      none n.0 edges n.1 (subst (λ (k : ℕ). Leads nat_eq next (suc edges) n.0 k) (apart b.0 n.0 b.2 n.2 (b.3 ∙ sym n.3)) b.1)

  pub kept_map : (front xs : List ℕ) → Below size front → Below size xs → map name (kept nat_eq front xs) ≡ kept same (map name front) (map name xs)
  kept_map front [] f b = refl
  kept_map front (x ∷ xs) f b =
      elim (cases_Bool (has nat_eq front x)) [
        | inl t ↦ ap (map name) (kept_old nat_eq nat_is_exact front x xs t) ∙ kept_map front xs f rest ∙ sym (kept_old same w.exact (map name front) (name x) (map name xs) (in_map same w.exact name front x t))
        | inr n ↦ ap (map name) (kept_new nat_eq nat_is_exact front x xs n) ∙ kept_map (front ++ x ∷ []) xs more rest
            ∙ ap (λ ys. kept same ys (map name xs)) (map_push name front x)
            ∙ sym (kept_new same w.exact (map name front) (name x) (map name xs) (has_map front x f here ∙ n))
      ]
    where
      here : x < size
      here = b x (in_head nat_eq nat_is_exact x xs)

      rest : Below size xs
      rest k i = b k (in_tail nat_eq nat_is_exact x k xs i)

      more : Below size (front ++ x ∷ [])
      more k i = elim (in_push_cases nat_eq nat_is_exact front x k i) [ inl j ↦ f k j | inr e ↦ subst (λ (m : ℕ). m < size) e here ]

  pub distinct_map : (xs : List ℕ) → Below size xs → IsDistinct nat_eq xs → IsDistinct same (map name xs)
  distinct_map [] b d = tt
  distinct_map (x ∷ xs) b d =
      (has_map xs x (λ k i. b k (in_tail nat_eq nat_is_exact x k xs i)) (b x (in_head nat_eq nat_is_exact x xs)) ∙ d.0, distinct_map xs (λ k i. b k (in_tail nat_eq nat_is_exact x k xs i)) d.1)

  pub chain_map : (xs : List ℕ) → Below size xs → EachNeedsNext nat_eq next xs → EachNeedsNext same needs (map name xs)
  chain_map [] b c = tt
  chain_map (x ∷ []) b c = tt
  chain_map (x ∷ y ∷ ys) b c = (needs_has x y (b x (in_head nat_eq nat_is_exact x (y ∷ ys))) c.0, chain_map (y ∷ ys) (λ k i. b k (in_tail nat_eq nat_is_exact x k (y ∷ ys) i)) c.1)

  -- the tree of a name, by its number
  name_tree : (ℕ → List ℕ) → X → List X
  name_tree tree y = map name (tree (w.number y))

  name_trees : (tree : ℕ → List ℕ) (xs : List ℕ) → Below size xs → flat_map (name_tree tree) (map name xs) ≡ map name (flat_map tree xs)
  unfolding name_tree
  name_trees tree xs b =
      flat_map-map name (name_tree tree) xs
      ∙ flat_map-agree (λ n. name_tree tree (name n)) (λ n. map name (tree n)) xs (λ y i. ap (λ k. map name (tree k)) (w.number_is y (b y i)))
      ∙ sym (map-flat_map name tree xs)

  pub serial_order_map : (order : List ℕ) → IsSerialOrder nat_eq next starts order → Below size order → IsSerialOrder same needs goals (map name order)
  unfolding name_tree
  serial_order_map order s b =
      record {
        tree = name_tree s.tree;
        trees = λ y h. let n = node_back y h in
            ap (λ k. map name (s.tree k)) (ap w.number (sym n.3) ∙ w.number_is n.0 n.2)
            ∙ ap (map name) (s.trees n.0 n.1)
            ∙ map_push name (flat_map s.tree (next n.0)) n.0
            ∙ ap (λ ys. ys ++ name n.0 ∷ []) (sym (name_trees s.tree (next n.0) (λ p i. w.inside n.0 p n.2 i)) ∙ ap (flat_map (name_tree s.tree)) (w.rows n.0 n.2))
            ∙ ap (λ x. flat_map (name_tree s.tree) (needs x) ++ x ∷ []) n.3;
        order_is = ap (map name) s.order_is
            ∙ kept_map [] (flat_map s.tree starts) (λ k i. absurd (both_ways _ refl i)) (λ k i. b k (subst (λ (ks : List ℕ). In ks k) (sym s.order_is) (kept_has nat_eq nat_is_exact [] (flat_map s.tree starts) k i)))
            ∙ ap (kept same []) (sym (name_trees s.tree starts w.starts_inside) ∙ ap (flat_map (name_tree s.tree)) w.starts_are);
      }
