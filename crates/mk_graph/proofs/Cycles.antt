-- From a ring of numbers to a cycle of names.
use Rattle.std.proofs.Common.{◌≡◌, ℕ, ◌+◌, List, [], ◌∷◌, ◌++◌, length, get_or, take, drop, sym, ◌∙◌, ap, subst, inl, inr, refl, append_assoc}
use Rattle.std.specs.Prelude.{IsTrue, nat_eq, map, Vec}
use Rattle.std.specs.Global.{Global}
use Rattle.std.proofs.lemmas.Bool.{both_ways}
use Rattle.std.proofs.lemmas.List.{append-nil, map-append, take-append-drop, drop_more, take_more}
use Rattle.mk_name.specs.Names.{Name, same_name, IsDistinct}
use Rattle.mk_name.proofs.Names.{name_is_exact, nat_is_exact, in_head, in_tail, in_cons_cases, in_left, in_right, in_cases, not_in}
use Rattle.mk_rules.specs.Book.{Book}
use Rattle.mk_graph.specs.Makers.{needs}
use Rattle.mk_graph.specs.Collected.{IsGraph}
use Rattle.mk_graph.specs.Graph.{EachNeedsNext, IsCycle}
use Rattle.mk_graph.specs.Least.{upto, IsLeastPlace}
use Rattle.mk_jobs.specs.Numbered.{name_at}
use Rattle.mk_graph.specs.Rows.{row, IsRing}
use Rattle.mk_graph.proofs.Bridge.{Numbers, Below, has_back, node_map, node_inside, chain_map, distinct_map}
use Rattle.mk_graph.proofs.Graphs.{numbers_of}
use Rattle.mk_graph.proofs.Rowing.{in_at, place_of}
use Rattle.mk_graph.proofs.Steps.{In}

-- two lists without repeats and without common items
Apart : List ℕ → List ℕ → Type 0
Apart xs ys = IsDistinct nat_eq xs × IsDistinct nat_eq ys × ((n : ℕ) → In xs n → In ys n → ⊥)

distinct_parts : (xs ys : List ℕ) → IsDistinct nat_eq (xs ++ ys) → Apart xs ys
unfolding Apart
distinct_parts [] ys d = (tt, d, λ n h i. both_ways _ refl h)
distinct_parts (x ∷ xs) ys d =
    let r = distinct_parts xs ys d.1 in (
      (not_in nat_eq nat_is_exact xs x (λ h. both_ways _ d.0 (in_left nat_eq nat_is_exact xs ys x h)), r.0),
      r.1,
      λ n h i. elim (in_cons_cases nat_eq nat_is_exact x n xs h) [
        | inl e ↦ both_ways _ d.0 (in_right nat_eq nat_is_exact xs ys x (subst (λ (k : ℕ). In ys k) (sym e) i))
        | inr j ↦ r.2 n j i
      ],
    )

distinct_joined : (xs ys : List ℕ) → Apart xs ys → IsDistinct nat_eq (xs ++ ys)
unfolding Apart
distinct_joined [] ys a = a.1
distinct_joined (x ∷ xs) ys a = (
  not_in nat_eq nat_is_exact (xs ++ ys) x (λ h. elim (in_cases nat_eq nat_is_exact xs ys x h) [ inl l ↦ both_ways _ a.0.0 l | inr r ↦ a.2 x (in_head nat_eq nat_is_exact x xs) r ]),
  distinct_joined xs ys (a.0.1, a.1, λ n h i. a.2 n (in_tail nat_eq nat_is_exact x n xs h) i),
)

distinct_turned : (xs ys : List ℕ) → IsDistinct nat_eq (xs ++ ys) → IsDistinct nat_eq (ys ++ xs)
unfolding Apart
distinct_turned xs ys d = let a = distinct_parts xs ys d in distinct_joined ys xs (a.1, a.0, λ n h i. a.2 n i h)

chain_front : (needs : ℕ → List ℕ) (xs : List ℕ) (y : ℕ) (ys : List ℕ) → EachNeedsNext nat_eq needs (xs ++ y ∷ ys) → EachNeedsNext nat_eq needs (xs ++ y ∷ [])
chain_front needs [] y ys c = tt
chain_front needs (x ∷ []) y ys c = (c.0, tt)
chain_front needs (x ∷ z ∷ zs) y ys c = (c.0, chain_front needs (z ∷ zs) y ys c.1)

chain_back : (needs : ℕ → List ℕ) (xs : List ℕ) (y : ℕ) (ys : List ℕ) → EachNeedsNext nat_eq needs (xs ++ y ∷ ys) → EachNeedsNext nat_eq needs (y ∷ ys)
chain_back needs [] y ys c = c
chain_back needs (x ∷ []) y ys c = c.1
chain_back needs (x ∷ z ∷ zs) y ys c = chain_back needs (z ∷ zs) y ys c.1

chain_joined : (needs : ℕ → List ℕ) (xs : List ℕ) (y : ℕ) (ys : List ℕ) → EachNeedsNext nat_eq needs (xs ++ y ∷ []) → EachNeedsNext nat_eq needs (y ∷ ys) → EachNeedsNext nat_eq needs (xs ++ y ∷ ys)
chain_joined needs [] y ys c d = d
chain_joined needs (x ∷ []) y ys c d = (c.0, d)
chain_joined needs (x ∷ z ∷ zs) y ys c d = (c.0, chain_joined needs (z ∷ zs) y ys c.1 d)

-- a ring from one of its nodes on, round to it
chain_turned : (needs : ℕ → List ℕ) (front : List ℕ) (x : ℕ) (back : List ℕ) (first : ℕ) (others : List ℕ) → front ++ x ∷ back ≡ first ∷ others → EachNeedsNext nat_eq needs ((front ++ x ∷ back) ++ first ∷ []) → EachNeedsNext nat_eq needs ((x ∷ back) ++ front ++ x ∷ [])
chain_turned needs [] x back first others e c =
    let same : x ≡ first = cc in
    subst (λ (xs : List ℕ). EachNeedsNext nat_eq needs (xs ++ x ∷ [])) (sym (append-nil (x ∷ back))) (subst (λ (k : ℕ). EachNeedsNext nat_eq needs ((x ∷ back) ++ k ∷ [])) (sym same) c)
chain_turned needs (f ∷ fs) x back first others e c =
    let same : f ≡ first = cc in
    let whole : EachNeedsNext nat_eq needs ((f ∷ fs) ++ (x ∷ (back ++ f ∷ []))) = subst (λ (xs : List ℕ). EachNeedsNext nat_eq needs xs) (append_assoc (f ∷ fs) (x ∷ back) (f ∷ [])) (subst (λ (k : ℕ). EachNeedsNext nat_eq needs (((f ∷ fs) ++ x ∷ back) ++ k ∷ [])) (sym same) c) in
    subst (λ (xs : List ℕ). EachNeedsNext nat_eq needs xs) (sym (append_assoc (x ∷ back) (f ∷ fs) (x ∷ [])))
    (chain_joined needs (x ∷ back) f (fs ++ x ∷ []) (chain_back needs (f ∷ fs) x (back ++ f ∷ []) whole) (chain_front needs (f ∷ fs) x (back ++ f ∷ []) whole))

pub cycle_is : (book : Book) (listing goals names : List Name) (rows : List (Vec ℕ Global)) (starts ring : List ℕ) (least : ℕ) → IsGraph book listing goals names rows starts → IsRing (row rows) starts ring → IsLeastPlace names ring (length ring) least → IsCycle same_name upto (needs book listing) goals (map (name_at names) (drop least ring ++ take (least + 1) ring))
cycle_is book listing goals names rows starts ring least g r p =
    record {
      first = name_at names x;
      others = map (name_at names) (back ++ front);
      closed = ap (map (name_at names)) numbers ∙ map-append (name_at names) (x ∷ back ++ front) (x ∷ []);
      chain = subst (λ (ns : List ℕ). EachNeedsNext same_name (needs book listing) (map (name_at names) ns)) (sym numbers)
          (chain_map same_name (needs book listing) goals (name_at names) (length names) (row rows) starts w (x ∷ (back ++ front) ++ x ∷ []) (λ n h. elim (in_cases nat_eq nat_is_exact (x ∷ back ++ front) (x ∷ []) n h) [ inl l ↦ below n l | inr e ↦ below n (in_left nat_eq nat_is_exact (x ∷ []) (back ++ front) n e) ])
          (chain_turned (row rows) front x back r.first r.others (sym parts ∙ r.ring_is) (subst (λ (ns : List ℕ). EachNeedsNext nat_eq (row rows) (ns ++ r.first ∷ [])) parts r.chain)));
      distinct = distinct_map same_name (needs book listing) goals (name_at names) (length names) (row rows) starts w (x ∷ back ++ front) below
          (distinct_turned front (x ∷ back) (subst (λ (ns : List ℕ). IsDistinct nat_eq ns) parts r.distinct));
      least = λ n h. let k = has_back same_name name_is_exact (name_at names) (back ++ front) n h in
          let place = place_of ring k.0 (inside k.0 (in_tail nat_eq nat_is_exact x k.0 (back ++ front) k.1)) in
          subst (λ (z : Name). IsTrue (upto (name_at names x) z)) (ap (name_at names) place.2 ∙ k.2) (p.1 place.0 place.1);
      node = node_map same_name (needs book listing) goals (name_at names) (length names) (row rows) starts w x (r.nodes x (in_at ring least p.0));
    }
  where
    x : ℕ
    x = get_or ring least 0

    front : List ℕ
    front = take least ring

    back : List ℕ
    back = drop (least + 1) ring

    w : Numbers same_name (needs book listing) goals (name_at names) (length names) (row rows) starts
    w = numbers_of book listing goals names rows starts g

    parts : ring ≡ front ++ x ∷ back
    parts = sym (take-append-drop least ring) ∙ ap (λ ns. front ++ ns) (drop_more ring least 0 p.0)

    numbers : drop least ring ++ take (least + 1) ring ≡ x ∷ (back ++ front) ++ x ∷ []
    numbers = ap (λ ns. ns ++ take (least + 1) ring) (drop_more ring least 0 p.0) ∙ ap (λ ns. (x ∷ back) ++ ns) (take_more ring least 0 p.0) ∙ sym (append_assoc (x ∷ back) front (x ∷ []))

    inside : (n : ℕ) → In (x ∷ back ++ front) n → In ring n
    inside n h = subst (λ (ns : List ℕ). In ns n) (sym parts) (elim (in_cases nat_eq nat_is_exact (x ∷ back) front n h) [ inl l ↦ in_right nat_eq nat_is_exact front (x ∷ back) n l | inr f ↦ in_left nat_eq nat_is_exact front (x ∷ back) n f ])

    below : Below (length names) (x ∷ back ++ front)
    below n h = node_inside same_name (needs book listing) goals (name_at names) (length names) (row rows) starts w n (r.nodes n (inside n h))
