-- The stack of open trees, as the sweep goes on.
use Rattle.std.proofs.Common.{ℕ, zero, suc, nat_eq, Bor, ◌≡◌, ◌<◌, ◌≤◌, ◌+◌, ◌-◌, ◌⊎◌, Bool, true, false, List, [], ◌∷◌, ◌++◌, length, take, get_or, map, reverse, Option, Some, None, Less, Equal, Greater, refl, sym, ap, subst, ◌∙◌, inl, inr, arith}
use Rattle.std.specs.Cmp.Lexicographic.{other_text, same_text, slice_cmp}
use Rattle.std.specs.List.{slice_get, starts_with}
use Rattle.std.specs.List.Sorted.{IsStrictlySortedBy}
use Rattle.std.specs.Ordering.{bool_cmp, nat_cmp, ordering_then}
use Rattle.std.proofs.lemmas.Bool.{both_ways, cases_lt, cases_order}
use Rattle.std.proofs.lemmas.List.{get_or-take, length-map, length-take, length-take-le, reverse-append, take_all, take_more, take-take}
use Rattle.std.proofs.lemmas.Option.{get_or_from_slice_get, slice_get_within}
use Rattle.std.proofs.lemmas.Map.Keys.{Less-from_sorted}
use Rattle.mk_name.specs.Names.{Name}
use Rattle.mk_path.specs.declared.path.Path.{Path}
use Rattle.mk_index.specs.declared.sweep.Open.{Open}
use Rattle.mk_path.specs.Covering.{tree_at}
use Rattle.mk_path.specs.Laws.{IsFolderOf}
use Rattle.mk_index.specs.Nearest.{FindsTree, IsInner, IsInnermost, IsTreeAt}
use Rattle.mk_path.specs.Paths.{path_cmp, path_at}
use Rattle.mk_index.specs.Sweep.{AreOpen, BeginsWithTop, IsBegin, IsStackAt, KeepsBegins, name_of}
use Rattle.mk_path.proofs.Begin.{own_folder}
use Rattle.mk_path.proofs.Between.{NotAfter, begins_between, less_names, nat_tied, not_after_itself}
use Rattle.mk_index.proofs.FolderKinds.{shorter_folder}
use Rattle.mk_path.proofs.Numbering.{behind, behind_at}

-- a text stands after its beginnings
after_begin : (k : ℕ) (x : Name) → k < length x → slice_cmp nat_cmp x (take k x) ≡ Greater
after_begin zero [] below = absurd (omega arith)
after_begin zero (a ∷ x) below = refl
after_begin (suc k) [] below = absurd (omega arith)
after_begin (suc k) (a ∷ x) below = ap (λ o. ordering_then o (slice_cmp nat_cmp x (take k x))) (nat_tied a a refl) ∙ after_begin k x (omega (arith, below))

level : (x : Name) → slice_cmp nat_cmp x x ≡ Equal
level [] = refl
level (a ∷ x) = ap (λ o. ordering_then o (slice_cmp nat_cmp x x)) (nat_tied a a refl) ∙ level x

begin_before : (x y : Name) → IsBegin x y → NotAfter x y → ⊥
begin_before x y begin not_after = not_after (ap (slice_cmp nat_cmp x) begin.is ∙ after_begin (length y) x begin.less)

-- no tree stands before a file of its name, nor before another tree of it
tree_first : (b : Bool) → bool_cmp true b ≡ Less → ⊥
tree_first true less = cc
tree_first false less = cc

tree_not_before : (y : Name) (p : Path) → p.name ≡ y → path_cmp (tree_at y) p ≡ Less → ⊥
tree_not_before y p same less =
    tree_first p.tree (sym (ap (λ o. ordering_then o (bool_cmp true p.tree)) (ap (slice_cmp nat_cmp y) same ∙ level y)) ∙ less)

-- the stack written from its top on
pub innermost_is : (stack : List Open) (top : Open) → slice_get stack (length stack - 1) ≡ Some top → reverse stack ≡ top ∷ reverse (take (length stack - 1) stack)
innermost_is stack top at =
    let n = length stack - 1 in
    let below = slice_get_within stack n top at in
    let whole : stack ≡ take n stack ++ top ∷ [] = sym (take_all (n + 1) stack (omega (arith, below)))
    ∙ take_more stack n top below ∙ ap (λ (o : Open). take n stack ++ o ∷ []) (get_or_from_slice_get stack n top top at) in
    ap reverse whole ∙ reverse-append (take n stack) (top ∷ [])

module _ (paths : List Path) (rise : IsStrictlySortedBy path_cmp paths) where
  before : (i j : ℕ) → i < j → j < length paths → path_cmp (path_at paths i) (path_at paths j) ≡ Less
  before i j less below = Less-from_sorted path_cmp paths i j (record { name = []; tree = false }) rise less below

  named : (v : ℕ) (y : Name) → IsTreeAt paths v y → (path_at paths v).name ≡ y
  named v y tree = ap (λ (p : Path). p.name) tree.1

  -- a tree with a beginning of a path's name stands before the path
  earlier : (t v : ℕ) (y : Name) → t < length paths → IsBegin (path_at paths t).name y → IsTreeAt paths v y → v < t
  earlier t v y below begin tree = elim (cases_order v t) [
    | inl same ↦ absurd (begin_before (path_at paths t).name y begin (subst (λ (z : Name). NotAfter (path_at paths t).name z) (ap (λ i. (path_at paths i).name) (sym same) ∙ named v y tree) (not_after_itself (path_at paths t).name)))
    | inr (inl less) ↦ less
    | inr (inr more) ↦ absurd (begin_before (path_at paths t).name y begin
        (subst (λ (z : Name). NotAfter (path_at paths t).name z) (named v y tree) (less_names (path_at paths t) (path_at paths v) (before t v more tree.0))))
  ]

  -- the trees that have a beginning of the next name are this path, or have a beginning of its name
  of_next : (t v : ℕ) (y : Name) → t + 1 < length paths → IsBegin (path_at paths (t + 1)).name y → IsTreeAt paths v y → (v ≡ t) ⊎ IsBegin (path_at paths t).name y
  of_next t v y below begin tree =
      let p = path_at paths t in
      let q = path_at paths (t + 1) in
      let less = earlier (t + 1) v y below begin tree in
      elim (cases_order v t) [
        | inl same ↦ inl same
        | inr (inl under) ↦
            let first = before v t under (omega (arith, below)) in
            let low : NotAfter (take (length y) q.name) p.name = subst (λ (z : Name). NotAfter z p.name) (named v y tree ∙ begin.is) (less_names (path_at paths v) p first) in
            let high : NotAfter p.name q.name = less_names p q (before t (t + 1) (omega arith) below) in
            let same : take (length y) p.name ≡ y = begins_between (length y) q.name p.name (omega (arith, begin.less)) low high ∙ sym begin.is in
            elim (cases_lt (length y) (length p.name)) [
              | inl short ↦ inr (record { less = short; is = sym same })
              | inr long ↦ absurd (tree_not_before y p (sym (take_all (length y) p.name long) ∙ same) (ap (λ z. path_cmp z p) (sym tree.1) ∙ first))
            ]
        | inr (inr over) ↦ absurd (omega (arith, over, less))
      ]

  pub stack_of_first : IsStackAt paths 0 []
  stack_of_first = record {
    are = tt;
    begins = λ below v y begin tree. let none = earlier 0 v y below begin tree in omega (arith, none);
  }

  -- a file leaves the stack as it is
  pub stack_of_file : (t : ℕ) (stack : List Open) → (path_at paths t).tree ≡ false → AreOpen paths stack → KeepsBegins paths (path_at paths t).name stack → IsStackAt paths (t + 1) stack
  stack_of_file t stack file are begins = record {
    are = are;
    begins = λ below. keeps stack begins (λ v y begin tree. elim (of_next t v y below begin tree) [
      | inl same ↦ absurd (both_ways (path_at paths t).tree file (ap (λ i. (path_at paths i).tree) (sym same) ∙ ap (λ (p : Path). p.tree) tree.1))
      | inr further ↦ further
    ]);
  }
    where
      keeps : {x z : Name} (stack : List Open) → KeepsBegins paths x stack → ((v : ℕ) (y : Name) → IsBegin z y → IsTreeAt paths v y → IsBegin x y) → KeepsBegins paths z stack
      keeps [] begins into = λ v y begin tree. begins v y (into v y begin tree) tree
      keeps (top ∷ stack) begins into = λ v y begin tree. begins v y (into v y begin tree) tree

  -- a tree is put on top
  pub stack_of_tree : (t : ℕ) (inner : Option ℕ) (stack : List Open) → t < length paths → (path_at paths t).tree ≡ true → AreOpen paths stack
      → KeepsBegins paths (path_at paths t).name stack → ((root : List ℕ) → FindsTree root paths (IsInner (path_at paths t).name) inner)
      → IsStackAt paths (t + 1) (record { tree = t; inner = inner } ∷ stack)
  stack_of_tree t inner stack within tree_is are begins found = record {
    are = ((within, ap (λ b. record { name = (path_at paths t).name; tree = b }) tree_is), found, begins, are);
    begins = λ below v y begin tree. elim (of_next t v y below begin tree) [
      | inl same ↦ inl (sym (named v y tree) ∙ ap (λ i. (path_at paths i).name) same)
      | inr further ↦ inr further
    ];
  }

module _ (paths : List Path) where
  -- a tree goes whose name is not a beginning
  pub closed : (x : Name) (top : Open) (stack : List Open) → AreOpen paths (top ∷ stack) → KeepsBegins paths x (top ∷ stack)
      → (name_of paths top ≡ take (length (name_of paths top)) x → ⊥) → KeepsBegins paths x stack
  closed x top stack are begins other = keeps stack are.2
    where
      keeps : (stack : List Open) → KeepsBegins paths (name_of paths top) stack → KeepsBegins paths x stack
      keeps [] below = λ v y begin tree. elim (begins v y begin tree) [
        | inl same ↦ other (subst (λ (z : Name). z ≡ take (length z) x) same begin.is)
        | inr further ↦ below v y further tree
      ]
      keeps (next ∷ stack) below = λ v y begin tree. elim (begins v y begin tree) [
        | inl same ↦ absurd (other (subst (λ (z : Name). z ≡ take (length z) x) same begin.is))
        | inr further ↦ below v y further tree
      ]

  -- what a name spells is a beginning of it
  inner_begin : (x y : Name) → IsInner x y → IsBegin x y
  inner_begin x y inner =
      let long : length y ≡ inner.place = ap length inner.is ∙ length-take-le inner.place x (omega (arith, inner.less)) in
      record { less = omega (arith, long, inner.less); is = inner.is ∙ ap (λ k. take k x) (sym long) }

  spelled_at : (x y : Name) → IsInner x y → (0 < length y) × (length y < length x) × (get_or x (length y) 0 ≡ 47)
  spelled_at x y inner =
      let long : length y ≡ inner.place = ap length inner.is ∙ length-take-le inner.place x (omega (arith, inner.less)) in
      (omega (arith, long, inner.some), omega (arith, long, inner.less), ap (λ k. get_or x k 0) long ∙ inner.slash)

  -- a name and a beginning of it spell the same, as far as that goes
  inner_from : (x b y : Name) → b ≡ take (length b) x → length b ≤ length x → IsInner b y → IsInner x y
  inner_from x b y is most inner = record {
    place = inner.place;
    some = inner.some;
    less = omega (arith, inner.less, most);
    slash = sym (get_or-take (length b) x inner.place 0 inner.less) ∙ ap (λ (z : Name). get_or z inner.place 0) (sym is) ∙ inner.slash;
    is = inner.is ∙ ap (take inner.place) is ∙ take-take inner.place (length b) x (omega (arith, inner.less));
  }

  inner_into : (x b y : Name) → b ≡ take (length b) x → IsBegin b y → IsInner x y → IsInner b y
  inner_into x b y is begin inner =
      let at = spelled_at x y inner in
      record {
        place = length y;
        some = at.0;
        less = begin.less;
        slash = ap (λ (z : Name). get_or z (length y) 0) is ∙ get_or-take (length b) x (length y) 0 begin.less ∙ at.2;
        is = begin.is;
      }

  pub inner_none : (root : List ℕ) (x : Name) → KeepsBegins paths x [] → FindsTree root paths (IsInner x) None
  inner_none root x begins = λ v y inner tree. begins v y (inner_begin x y inner) tree

  pub inner_top : (root : List ℕ) (x : Name) (top : Open) (stack : List Open) → AreOpen paths (top ∷ stack) → KeepsBegins paths x (top ∷ stack)
      → BeginsWithTop paths x (top ∷ stack) → (0 < length (name_of paths top)) × (length (name_of paths top) < length x) × (get_or x (length (name_of paths top)) 0 ≡ 47)
      → IsInnermost root paths (IsInner x) top.tree
  inner_top root x top stack are begins is at =
      let b = name_of paths top in
      record {
        name = b;
        one = record { place = length b; some = at.0; less = at.1; slash = at.2; is = is };
        tree = are.0;
        folder = λ v y inner tree. elim (begins v y (inner_begin x y inner) tree) [
          | inl same ↦ subst (λ (z : Name). IsFolderOf root z b) (sym same) (own_folder root b)
          | inr further ↦
              let place = spelled_at x y inner in
              subst (λ (z : Name). IsFolderOf root z b) (sym (inner_begin x y inner).is)
              (subst (λ (z : Name). IsFolderOf root (take (length y) x) z) (sym is) (shorter_folder root x (length y) (length b) place.0 (omega (arith, further.less)) at.1 place.2))
        ];
      }

  pub inner_further : (root : List ℕ) (x : Name) (top : Open) (stack : List Open) → AreOpen paths (top ∷ stack) → KeepsBegins paths x (top ∷ stack)
      → BeginsWithTop paths x (top ∷ stack) → ((0 < length (name_of paths top)) × (length (name_of paths top) < length x) × (get_or x (length (name_of paths top)) 0 ≡ 47) → ⊥)
      → FindsTree root paths (IsInner x) top.inner
  inner_further root x top stack are begins is other = passed top.inner (are.1 root)
    where
      b : Name
      b = name_of paths top

      into : (v : ℕ) (y : Name) → IsInner x y → IsTreeAt paths v y → IsInner b y
      into v y inner tree = elim (begins v y (inner_begin x y inner) tree) [
        | inl same ↦ absurd (other (subst (λ (z : Name). (0 < length z) × (length z < length x) × (get_or x (length z) 0 ≡ 47)) same (spelled_at x y inner)))
        | inr further ↦ inner_into x b y is further inner
      ]

      most : length b ≤ length x
      most = let long = length-take (length b) x in omega (arith, long, ap length is)

      passed : (o : Option ℕ) → FindsTree root paths (IsInner b) o → FindsTree root paths (IsInner x) o
      passed None none = λ v y inner tree. none v y (into v y inner tree) tree
      passed (Some u) found = record {
        name = found.name;
        one = inner_from x b found.name is most found.one;
        tree = found.tree;
        folder = λ v y inner tree. found.folder v y (into v y inner tree) tree;
      }

-- what the code tests of the top
pub behind_name : (paths : List (Bor Path)) (top : Open) (p : Bor Path) → top.tree < length (map behind paths)
    → name_of (map behind paths) top ≡ (get_or paths top.tree p).now.name
behind_name paths top p below = ap (λ (q : Path). q.name) (behind_at paths top.tree p (omega (arith, below, length-map paths behind)))

pub begins_told : (name needle z : Name) (told : Bool) → told ≡ true → told ≡ starts_with nat_eq name needle → needle ≡ z → z ≡ take (length z) name
begins_told name needle z told true_is is same = same_text z (take (length z) name) (sym true_is ∙ is ∙ ap (starts_with nat_eq name) same)

pub begins_denied : (name needle z : Name) (told : Bool) → told ≡ false → told ≡ starts_with nat_eq name needle → needle ≡ z → z ≡ take (length z) name → ⊥
begins_denied name needle z told false_is is same = other_text z (take (length z) name) (sym false_is ∙ is ∙ ap (starts_with nat_eq name) same)

-- a tree that is pushed is the top
pub pushed : (stack new : List Open) (top : Open) → new ≡ stack ++ top ∷ [] → reverse new ≡ top ∷ reverse stack
pushed stack new top is = ap reverse is ∙ reverse-append stack (top ∷ [])
