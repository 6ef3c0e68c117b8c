-- The goals of a book and a listing lead to one plan, or to one fault.
use Rattle.std.proofs.Common.{◌≡◌, ℕ, zero, suc, ◌<◌, ◌≤◌, Bool, true, List, [], ◌∷◌, ◌++◌, length, get_or, Option, Some, Result, Ok, Err, refl, sym, ap, ◌∙◌, subst, inl, inr, arith, length-append}
use Rattle.std.specs.Prelude.{IsTrue, map, nat_eq}
use Rattle.std.specs.List.{flat_map}
use Rattle.std.specs.declared.cmp.Ordering.{Ordering}
use Rattle.std.specs.declared.cmp.Ordering.TheVariants.{Less, Equal, Greater}
use Rattle.std.specs.Ordering.{is_le, is_eq, nat_cmp, ordering_reverse}
use Rattle.std.specs.Cmp.Lexicographic.{nat_list_cmp_total, slice_cmp, texts_ties}
use Rattle.std.proofs.lemmas.Bool.{both_ways}
use Rattle.std.proofs.lemmas.List.{ext_get_or, get_or-map, length-map}
use Rattle.mk_name.specs.Names.{IsDistinct, Name, firsts, has, same_name}
use Rattle.mk_name.specs.Reported.{Reported}
use Rattle.mk_name.specs.declared.fault.Kind.TheVariants as kinds
use Rattle.mk_name.proofs.Names.{In, IsExact, distinct_kept, in_cons_cases, in_head, in_tail, name_is_exact, nat_is_exact}
use Rattle.mk_rules.specs.Book.{Book, is_phony}
use Rattle.mk_graph.specs.Answer.{AllMade, Comes, IsLeastUnmade, IsNodeOf, IsPlan, cycle, graph_fault, no_rule, planned, too_large}
use Rattle.mk_graph.specs.Graph.{EachNeedsNext, HasNoCycle, IsCycle, IsNode, IsSerialOrder, IsTreeOfNeeds, Leads}
use Rattle.mk_graph.specs.Least.{upto}
use Rattle.mk_graph.specs.Makers.{maker_of, needs}
use Rattle.mk_graph.specs.Once.{Agree, PlannedOnce}
use Rattle.mk_jobs.specs.Numbered.{number_of}
use Rattle.mk_jobs.specs.Plan.{Node, Plan, nobody}
use Rattle.mk_jobs.proofs.Numberings.{number_at}

-- ---- the serial order

module _ {X : Type 0} (same : X → X → Bool) (exact : IsExact same) (need : X → List X) (goals : List X) where
  node_goal : (goal : X) → In same goals goal → IsNode same need goals goal
  node_goal goal h = (goal, 0, h, refl)

  node_next : (n m : X) → IsNode same need goals n → In same (need n) m → IsNode same need goals m
  node_next n m node h = (node.0, suc node.1, node.2, (n, node.3, h))

  joined_same : (t u : X → List X) (ms : List X) → ((m : X) → In same ms m → t m ≡ u m) → flat_map t ms ≡ flat_map u ms
  joined_same t u [] h = refl
  joined_same t u (m ∷ ms) h =
      ap (λ (xs : List X). xs ++ flat_map t ms) (h m (in_head same exact m ms))
      ∙ ap (λ (xs : List X). u m ++ xs) (joined_same t u ms (λ k i. h k (in_tail same exact m k ms i)))

  joined_long : (t : X → List X) (ms : List X) (m : X) → In same ms m → length (t m) ≤ length (flat_map t ms)
  joined_long t [] m h = absurd (both_ways _ refl h)
  joined_long t (x ∷ xs) m h =
      elim (in_cons_cases same exact x m xs h) [
        | inl e ↦ subst (λ (z : X). length (t z) ≤ length (t x ++ flat_map t xs)) e (omega (arith, length-append (t x) (flat_map t xs)))
        | inr i ↦ let r = joined_long t xs m i in omega (arith, length-append (t x) (flat_map t xs))
      ]

  module _ (t u : X → List X) (ts : (n : X) → IsNode same need goals n → IsTreeOfNeeds need t n) (us : (n : X) → IsNode same need goals n → IsTreeOfNeeds need u n) where
    shorter : (n m : X) → IsNode same need goals n → In same (need n) m → length (t m) < length (t n)
    shorter n m node h =
        let is = ap length (ts n node) in
        let part = joined_long t (need n) m h in
        let more = length-append (flat_map t (need n)) (n ∷ []) in
        omega arith

    tree_same : (fuel : ℕ) (n : X) → IsNode same need goals n → length (t n) < fuel → t n ≡ u n
    tree_same zero n node low = absurd (omega arith)
    tree_same (suc fuel) n node low =
        ts n node
        ∙ ap (λ (xs : List X). xs ++ n ∷ []) (joined_same t u (need n) (λ m h. tree_same fuel m (node_next n m node h) (let s = shorter n m node h in omega arith)))
        ∙ sym (us n node)

  order_same : (one other : List X) → IsSerialOrder same need goals one → IsSerialOrder same need goals other → one ≡ other
  order_same one other a b =
      a.order_is
      ∙ ap (firsts same) (joined_same a.tree b.tree goals (λ g h. tree_same a.tree b.tree a.trees b.trees (suc (length (a.tree g))) g (node_goal g h) (omega arith)))
      ∙ sym b.order_is

  order_distinct : (order : List X) → IsSerialOrder same need goals order → IsDistinct same order
  order_distinct order s = subst (λ (xs : List X). IsDistinct same xs) (sym s.order_is) (distinct_kept same exact [] (flat_map s.tree goals) tt)

  -- a chain in front of an edge, and the chain of a cycle
  leads_front : (edges : ℕ) (a b c : X) → In same (need a) b → Leads same need edges b c → Leads same need (suc edges) a c
  leads_front zero a b c h l = (a, refl, subst (λ (z : X). In same (need a) z) l h)
  leads_front (suc edges) a b c h l = (l.0, leads_front edges a b l.0 h l.1, l.2)

  chain_leads : (a : X) (xs : List X) (c : X) → EachNeedsNext same need (a ∷ xs ++ c ∷ []) → (edges : ℕ) × Leads same need (suc edges) a c
  chain_leads a [] c h = (0, (a, refl, h.0))
  chain_leads a (x ∷ xs) c h = let rest = chain_leads x xs c h.1 in (suc rest.0, leads_front (suc rest.0) a x c h.0 rest.1)

  cycle_is_there : (on : X → X → Bool) (names : List X) → IsCycle same on need goals names → HasNoCycle same need goals → ⊥
  cycle_is_there on names is none =
      let leads = chain_leads is.first is.others is.first (subst (λ (xs : List X). EachNeedsNext same need xs) is.closed is.chain) in
      none is.first leads.0 is.node leads.1

-- ---- the nodes

number_same : (names : List Name) (i j : ℕ) → IsDistinct same_name names → i < length names → j < length names → get_or names i [] ≡ get_or names j [] → i ≡ j
number_same names i j distinct below under same =
    let both : ◌≡◌ {A = Option ℕ} (Some i) (Some j) = sym (number_at names i distinct below) ∙ ap (number_of names) same ∙ number_at names j distinct under in
    cc

row_same : (names : List Name) (one other : List ℕ) → IsDistinct same_name names → ((n : ℕ) → In nat_eq one n → n < length names) → ((n : ℕ) → In nat_eq other n → n < length names)
    → map (λ k. get_or names k []) one ≡ map (λ k. get_or names k []) other → one ≡ other
row_same names [] [] distinct below under same = refl
row_same names [] (j ∷ js) distinct below under same = absurd (cc same)
row_same names (i ∷ is) [] distinct below under same = absurd (cc same)
row_same names (i ∷ is) (j ∷ js) distinct below under same =
    let head : get_or names i [] ≡ get_or names j [] = cc in
    let tail : map (λ k. get_or names k []) is ≡ map (λ k. get_or names k []) js = cc in
    ap (λ n. n ∷ is) (number_same names i j distinct (below i (in_head nat_eq nat_is_exact i is)) (under j (in_head nat_eq nat_is_exact j js)) head)
    ∙ ap (λ ns. j ∷ ns) (row_same names is js distinct (λ n h. below n (in_tail nat_eq nat_is_exact i n is h)) (λ n h. under n (in_tail nat_eq nat_is_exact j n js h)) tail)

module _ (book : Book) (listing goals : List Name) where
  names_in : Plan → List Name
  names_in plan = map (λ (n : Node). n.name) plan.nodes

  node_same : (names more : List Name) (one other : Node) → names ≡ more → IsDistinct same_name names → one.name ≡ other.name
      → ((p : ℕ) → In nat_eq one.prerequisites p → p < length names) → ((p : ℕ) → In nat_eq other.prerequisites p → p < length names)
      → IsNodeOf book listing names one → IsNodeOf book listing more other → one ≡ other
  node_same names more one other both distinct name below under a b =
      let row : one.prerequisites ≡ other.prerequisites = row_same names one.prerequisites other.prerequisites distinct below under
      (a.prerequisites ∙ ap (needs book listing) name ∙ sym b.prerequisites ∙ ap (λ (ns : List Name). map (λ k. get_or ns k []) other.prerequisites) (sym both)) in
      let maker = a.maker ∙ ap (maker_of book listing) name ∙ sym b.maker in
      let phony = a.phony ∙ ap (is_phony book) name ∙ sym b.phony in
      let listed = a.listed ∙ ap (has same_name listing) name ∙ sym b.listed in
      λ i. record { name = name i; prerequisites = row i; maker = maker i; phony = phony i; listed = listed i }

  plan_same : (one other : Plan) → IsPlan book listing goals one → IsPlan book listing goals other → one ≡ other
  plan_same one other a b =
      let names : map (λ (n : Node). n.name) one.nodes ≡ map (λ (n : Node). n.name) other.nodes = order_same same_name name_is_exact (needs book listing) goals _ _ a.order b.order in
      let distinct = order_distinct same_name name_is_exact (needs book listing) goals _ a.order in
      let count : length (map (λ (n : Node). n.name) one.nodes) ≡ length one.nodes = length-map one.nodes (λ (n : Node). n.name) in
      let counted : length (map (λ (n : Node). n.name) other.nodes) ≡ length other.nodes = length-map other.nodes (λ (n : Node). n.name) in
      let long : length one.nodes ≡ length other.nodes = sym count ∙ ap length names ∙ counted in
      let nodes : one.nodes ≡ other.nodes = ext_get_or nobody one.nodes other.nodes long (λ i below.
      let under : i < length other.nodes = omega arith in
      let name : (get_or one.nodes i nobody).name ≡ (get_or other.nodes i nobody).name =
      sym (get_or-map (λ (n : Node). n.name) one.nodes i nobody [] below) ∙ ap (λ (ns : List Name). get_or ns i []) names ∙ get_or-map (λ (n : Node). n.name) other.nodes i nobody [] under in
      node_same _ _ _ _ names distinct name
      (λ p h. let r = a.rising i p nobody below h in omega arith) (λ p h. let r = b.rising i p nobody under h in omega arith)
      (a.nodes i nobody below) (b.nodes i nobody under)) in
      let waits = a.waits ∙ sym b.waits in
      λ i. record { nodes = nodes i; wait_uses = waits i }

  -- ---- the faults

  tied : (a b : Name) (o : Ordering) → slice_cmp nat_cmp a b ≡ o → is_le o ≡ true → is_le (ordering_reverse o) ≡ true → a ≡ b
  tied a b Less e l r = absurd (both_ways _ refl r)
  tied a b Equal e l r = name_is_exact.equal a b (texts_ties a b ∙ ap is_eq e)
  tied a b Greater e l r = absurd (both_ways _ refl l)

  upto_both : (a b : Name) → IsTrue (upto a b) → IsTrue (upto b a) → a ≡ b
  upto_both a b l r = tied a b (slice_cmp nat_cmp a b) refl l (ap is_le (sym (nat_list_cmp_total.antisymm b a)) ∙ r)

  least_same : (a b : Name) → IsLeastUnmade book listing goals a → IsLeastUnmade book listing goals b → a ≡ b
  least_same a b p q = upto_both a b (p.least b q.node q.unmade) (q.least a p.node p.unmade)

  made : (name : Name) → IsLeastUnmade book listing goals name → AllMade book listing goals → ⊥
  made name p all = both_ways _ (all name p.node) p.unmade

  comes_once : (one other : Result Plan Reported) → Comes book listing goals one → Comes book listing goals other → Agree one other
  comes_once _ _ (too_large t) (too_large s) = inl refl
  comes_once _ _ (too_large t) (no_rule name s l) = absurd (s t)
  comes_once _ _ (too_large t) (cycle names s all c) = absurd (s t)
  comes_once _ _ (too_large t) (planned plan s all is) = absurd (s t)
  comes_once _ _ (no_rule name s l) (too_large t) = absurd (s t)
  comes_once _ _ (no_rule name s l) (no_rule other t m) = inl (ap (λ (n : Name). graph_fault kinds.NoRule (n ∷ [])) (least_same name other l m))
  comes_once _ _ (no_rule name s l) (cycle names t all c) = absurd (made name l all)
  comes_once _ _ (no_rule name s l) (planned plan t all is) = absurd (made name l all)
  comes_once _ _ (cycle names s all c) (too_large t) = absurd (s t)
  comes_once _ _ (cycle names s all c) (no_rule name t l) = absurd (made name l all)
  comes_once _ _ (cycle names s all c) (cycle others t every d) = inr (refl, refl)
  comes_once _ _ (cycle names s all c) (planned plan t every is) = absurd (cycle_is_there same_name name_is_exact (needs book listing) goals upto names c is.no_cycle)
  comes_once _ _ (planned plan s all is) (too_large t) = absurd (s t)
  comes_once _ _ (planned plan s all is) (no_rule name t l) = absurd (made name l all)
  comes_once _ _ (planned plan s all is) (cycle names t every c) = absurd (cycle_is_there same_name name_is_exact (needs book listing) goals upto names c is.no_cycle)
  comes_once _ _ (planned plan s all is) (planned other t every so) = plan_same plan other is so

pub agree_same : {X : Type 0} (one other : Result X Reported) → one ≡ other → Agree one other
agree_same (Ok x) (Ok y) e = cc
agree_same (Err reported) (Err other) e = inl (cc)
agree_same (Ok x) (Err reported) e = absurd (cc e)
agree_same (Err reported) (Ok x) e = absurd (cc e)

pub planned_once : PlannedOnce
planned_once book listing [] one other a b = agree_same one other (a ∙ sym b)
planned_once book listing (g ∷ gs) one other a b = comes_once book listing (g ∷ gs) one other a b
