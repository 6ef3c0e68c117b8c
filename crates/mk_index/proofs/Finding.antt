-- The innermost tree of some names, found in parts.
use Rattle.std.proofs.Common.{ℕ, ◌≡◌, ◌<◌, ◌≤◌, ◌+◌, ◌⊎◌, Bool, true, false, List, [], ◌∷◌, ◌++◌, length, take, get_or, map, codes, Bor, Contains, Option, Some, None, Err, Equal, refl, sym, ap, subst, ◌∙◌, inl, inr, arith, zero, suc}
use Rattle.std.specs.List.{filter}
use Rattle.std.specs.List.Sorted.{IsBinarySearchResult, IsSearchInRange, IsStrictlySortedBy}
use Rattle.std.proofs.lemmas.Bool.{both_ways, cases_Bool, cases_order, cases_lt, cond-true, cond-false}
use Rattle.std.proofs.lemmas.List.{get_or-map, get_or_default, length-map, length_push, get_or_push, get_or_append_left}
use Rattle.std.proofs.lemmas.List.Elements.{All-contains, All-contains_itself, All-filter, Contains-get_or}
use Rattle.std.proofs.lemmas.List.Kept.{IsStrictlySortedBy-filter}
use Rattle.mk_name.specs.Names.{Name}
use Rattle.mk_path.specs.declared.path.Path.{Path}
use Rattle.mk_path.specs.Covering.{tree_at}
use Rattle.mk_path.specs.Laws.{IsFolderOf}
use Rattle.mk_index.specs.Nearest.{AreNearest, AreTrees, FindsTree, IsInner, IsInnermost, IsNext, IsOther, IsOuter, IsOverName, IsOverPath, IsOverText, IsOwn, IsTreeAt, depth_of, is_tree}
use Rattle.mk_path.specs.Paths.{path_cmp, path_at}
use Rattle.mk_path.proofs.Begin.{own_folder}
use Rattle.mk_path.proofs.Between.{IsBound, miss_behind, none_longer}
use Rattle.mk_index.proofs.FolderKinds.{absolute_take, kinds, outer_of_inner, over_folder, over_name_folder, over_name_less, shorter_folder, slash_folder}
use Rattle.mk_path.proofs.Numbering.{behind, behind_some, equal_path_is, not_missed}
use Rattle.mk_text.specs.Spelling.{is_absolute, top_of}

-- what a filter keeps
filter_has : (p : Path → Bool) (xs : List Path) (x : Path) → p x ≡ true → Contains xs x → Contains (filter p xs) x
filter_has p [] x passes there = absurd (omega (arith, there.1))
filter_has p (y ∷ ys) x passes (zero, below, is) =
    subst (λ (zs : List Path). Contains zs x) (sym (cond-true (p y) (y ∷ filter p ys) (filter p ys) (ap p is ∙ passes))) (0, omega arith, is)
filter_has p (y ∷ ys) x passes (suc k, below, is) =
    let rest = filter_has p ys x passes (k, omega arith, is) in
    elim (cases_Bool (p y)) [
      | inl kept ↦ subst (λ (zs : List Path). Contains zs x) (sym (cond-true (p y) (y ∷ filter p ys) (filter p ys) kept)) (suc rest.0, omega (arith, rest.1), rest.2)
      | inr left ↦ subst (λ (zs : List Path). Contains zs x) (sym (cond-false (p y) (y ∷ filter p ys) (filter p ys) left)) rest
    ]

-- a tree among the trees is one of the paths
pub tree_there : (paths trees : List (Bor Path)) (place : ℕ) (tree : Bor Path) → map behind trees ≡ filter is_tree (map behind paths) → place < length trees
    → tree ≡ get_or trees place tree → Contains (map behind paths) tree.now
tree_there paths trees place tree are below is =
    let here : Contains (map behind trees) tree.now =
    (place, omega (arith, below, length-map trees behind), get_or-map behind trees place tree tree.now below ∙ ap behind (sym is)) in
    All-contains (Contains (map behind paths)) (filter is_tree (map behind paths)) tree.now
    (All-filter is_tree (Contains (map behind paths)) (map behind paths) (All-contains_itself (map behind paths)))
    (subst (λ (ps : List Path). Contains ps tree.now) are here)

-- the tree that a search finds
pub tree_found : (paths trees : List (Bor Path)) (place u : ℕ) (tree : Bor Path) (name : Name) → u < length paths → path_at (map behind paths) u ≡ tree.now
    → tree ≡ get_or trees place tree → path_cmp (get_or trees place tree).now (tree_at name) ≡ Equal → IsTreeAt (map behind paths) u name
tree_found paths trees place u tree name below is at equal =
    (omega (arith, below, length-map paths behind), is ∙ ap behind at ∙ equal_path_is (get_or trees place tree).now (tree_at name) equal)

-- a tree among the paths is one of the trees, which rise as the paths do
tree_kept : (paths trees : List (Bor Path)) (v : ℕ) (y : Name) → AreTrees (map behind paths) (map behind trees) → IsTreeAt (map behind paths) v y
    → Contains (map behind trees) (tree_at y)
tree_kept paths trees v y are tree =
    let nothing : Path = record { name = []; tree = false } in
    let there : Contains (map behind paths) (tree_at y) = subst (Contains (map behind paths)) tree.1 (Contains-get_or (map behind paths) v nothing tree.0) in
    subst (λ (ps : List Path). Contains ps (tree_at y)) (sym are.trees_are) (filter_has is_tree (map behind paths) (tree_at y) refl there)

-- where there are no trees, none has one of some names
pub none_there : (root : List ℕ) (paths trees : List (Bor Path)) (among : Name → Type 0) → AreTrees (map behind paths) (map behind trees) → length trees ≡ 0
    → FindsTree root (map behind paths) among None
none_there root paths trees among are none = λ v y one tree.
    let kept = tree_kept paths trees v y are tree in
    omega (arith, kept.1, length-map trees behind, none)

trees_rise : (paths trees : List (Bor Path)) → AreTrees (map behind paths) (map behind trees) → IsStrictlySortedBy path_cmp (map behind trees)
trees_rise paths trees are =
    subst (λ (ps : List Path). IsStrictlySortedBy path_cmp ps) (sym are.trees_are) (IsStrictlySortedBy-filter path_cmp is_tree (map behind paths) are.paths_are.rise)

-- a tree whose name is longer than the bound, and begins the text that a search did not find, is none of the paths
pub longer_missed : (paths trees : List (Bor Path)) (i v most k : ℕ) (text : Name) → AreTrees (map behind paths) (map behind trees) → IsSearchInRange (Err i) (length trees)
    → IsBinarySearchResult (λ (t : Bor Path). path_cmp t.now (tree_at text)) trees (Err i) → IsBound (map behind trees) text i most → most < k → k ≤ length text
    → IsTreeAt (map behind paths) v (take k text) → ⊥
longer_missed paths trees i v most k text are inside found bound longer within tree =
    let kept = tree_kept paths trees v (take k text) are tree in
    let b = behind_some trees (tree_at (take k text)) kept in
    let rise = trees_rise paths trees are in
    none_longer (map behind trees) rise text i (miss_behind trees b.ref text i rise inside found) most bound k longer within kept.0 kept.1
    (get_or_default (map behind trees) kept.0 (record { name = []; tree = false }) (tree_at (take k text)) kept.1 ∙ kept.2)

-- a tree that it does not find is none of the paths
pub tree_missed : (paths trees : List (Bor Path)) (i v : ℕ) (name y : Name) → AreTrees (map behind paths) (map behind trees) → IsSearchInRange (Err i) (length trees)
    → IsBinarySearchResult (λ (t : Bor Path). path_cmp t.now (tree_at name)) trees (Err i) → y ≡ name → IsTreeAt (map behind paths) v y → ⊥
tree_missed paths trees i v name y are inside found same tree =
    let asked = tree_at name in
    let kept = tree_kept paths trees v name are (tree.0, tree.1 ∙ ap tree_at same) in
    let b = behind_some trees asked kept in
    let rise = trees_rise paths trees are in
    not_missed trees b.ref i rise inside (subst (λ (p : Path). IsBinarySearchResult (λ (t : Bor Path). path_cmp t.now p) trees (Err i)) (sym b.is) found)
    (subst (Contains (map behind trees)) (sym b.is) kept)

module _ (root : List ℕ) (paths : List Path) where
  pub found_one : (u : ℕ) (name : Name) → IsTreeAt paths u name → IsInnermost root paths (λ y. y ≡ name) u
  found_one u name tree =
      record { name = name; one = refl; tree = tree; folder = λ v y is _. subst (λ z. IsFolderOf root z name) (sym is) (own_folder root name) }

  -- found among the inner names
  pub first_of : (A B C : Name → Type 0) (u : ℕ) → IsInnermost root paths A u → ((y : Name) → A y → C y) → ((y : Name) → C y → A y ⊎ B y)
      → ((a b : Name) → A a → B b → IsFolderOf root b a) → IsInnermost root paths C u
  first_of A B C u found into out under = record {
    name = found.name;
    one = into found.name found.one;
    tree = found.tree;
    folder = λ v y c tree. elim (out y c) [ inl a ↦ found.folder v y a tree | inr b ↦ under found.name y found.one b ];
  }

  -- or among the others, where the inner names have no tree
  pub second_of : (A B C : Name → Type 0) (o : Option ℕ) → FindsTree root paths A None → FindsTree root paths B o → ((y : Name) → B y → C y) → ((y : Name) → C y → A y ⊎ B y)
      → FindsTree root paths C o
  second_of A B C None none found into out = λ v y c tree. elim (out y c) [ inl a ↦ none v y a tree | inr b ↦ found v y b tree ]
  second_of A B C (Some u) none found into out = record {
    name = found.name;
    one = into found.name found.one;
    tree = found.tree;
    folder = λ v y c tree. elim (out y c) [ inl a ↦ absurd (none v y a tree) | inr b ↦ found.folder v y b tree ];
  }

  pub alike : (A C : Name → Type 0) (o : Option ℕ) → FindsTree root paths A o → ((y : Name) → A y → C y) → ((y : Name) → C y → A y) → FindsTree root paths C o
  alike A C o found into out = second_of (λ _. ⊥) A C o (λ v y none tree. none) found into (λ y c. inr (out y c))

  -- an inner folder of a text
  pub inner_found : (text : Name) (i end u : ℕ) → IsInnermost root paths (λ y. y ≡ take i text) u → 0 < i → i + 1 ≡ end → end ≤ length text → get_or text i 0 ≡ 47
      → ((v k : ℕ) → 0 < k → end ≤ k → k < length text → get_or text k 0 ≡ 47 → IsTreeAt paths v (take k text) → ⊥) → IsInnermost root paths (IsInner text) u
  inner_found text i end u found some next within slash none = record {
    name = found.name;
    one = record { place = i; some = some; less = omega (arith, next, within); slash = slash; is = found.one };
    tree = found.tree;
    folder = λ v y inner tree.
        let k = inner.place in
        elim (cases_lt k end) [
          | inl before ↦ subst (λ z. IsFolderOf root z found.name) (sym inner.is)
              (subst (λ z. IsFolderOf root (take k text) z) (sym found.one) (shorter_folder root text k i inner.some (omega (arith, before, next)) (omega (arith, next, within)) inner.slash))
          | inr after ↦ absurd (none v k inner.some after inner.less inner.slash (subst (λ z. IsTreeAt paths v z) inner.is tree))
        ];
  }

  pub over_text_first : (text : Name) (u : ℕ) → is_absolute text ≡ true → IsInnermost root paths (IsInner text) u → IsInnermost root paths (IsOverText text) u
  over_text_first text u absolute found = first_of (IsInner text) (IsOther text (codes "/")) (IsOverText text) u found (λ y a. inl a) (λ y c. c)
      (λ a b inner other. slash_folder root a b (ap is_absolute inner.is ∙ absolute_take text inner.place inner.some ∙ absolute) other.1)

  pub over_text_second : (text : Name) (o : Option ℕ) → FindsTree root paths (IsInner text) None → FindsTree root paths (IsOther text (codes "/")) o → FindsTree root paths (IsOverText text) o
  over_text_second text o none found = second_of (IsInner text) (IsOther text (codes "/")) (IsOverText text) o none found (λ y b. inr b) (λ y c. c)

  pub outer_absolute : (x : Name) (o : Option ℕ) → is_absolute x ≡ true → FindsTree root paths (IsOther x (codes "/")) o → FindsTree root paths (IsOuter (top_of root) x) o
  outer_absolute x o absolute found = alike (IsOther x (codes "/")) (IsOuter (top_of root) x) o found (λ y other. inl (absolute, other))
      (λ y outer. elim outer [ inl both ↦ both.1 | inr both ↦ absurd (both_ways (is_absolute x) both.0 absolute) ])

  below_out : (x y : Name) → is_absolute x ≡ false → IsOuter (top_of root) x y → IsOther x (codes ".") y ⊎ IsOverText (top_of root) y
  below_out x y relative (inl both) = absurd (both_ways (is_absolute x) relative both.0)
  below_out x y relative (inr both) = both.1

  pub outer_first : (x : Name) (u : ℕ) → is_absolute x ≡ false → IsInnermost root paths (IsOther x (codes ".")) u → IsInnermost root paths (IsOuter (top_of root) x) u
  outer_first x u relative found = first_of (IsOther x (codes ".")) (IsOverText (top_of root)) (IsOuter (top_of root) x) u found (λ y a. inr (relative, inl a))
      (λ y c. below_out x y relative c) (λ a b dot above. over_folder root a b (ap is_absolute dot.1) above)

  pub outer_second : (x : Name) (o : Option ℕ) → is_absolute x ≡ false → FindsTree root paths (IsOther x (codes ".")) None → FindsTree root paths (IsOverText (top_of root)) o
      → FindsTree root paths (IsOuter (top_of root) x) o
  outer_second x o relative none found = second_of (IsOther x (codes ".")) (IsOverText (top_of root)) (IsOuter (top_of root) x) o none found (λ y b. inr (relative, inr b))
      (λ y c. below_out x y relative c)

  pub over_name_first : (x : Name) (u : ℕ) → IsInnermost root paths (IsInner x) u → IsInnermost root paths (IsOverName (top_of root) x) u
  over_name_first x u found = first_of (IsInner x) (IsOuter (top_of root) x) (IsOverName (top_of root) x) u found (λ y a. inl a) (λ y c. c) (outer_of_inner root x)

  pub over_name_second : (x : Name) (o : Option ℕ) → FindsTree root paths (IsInner x) None → FindsTree root paths (IsOuter (top_of root) x) o
      → FindsTree root paths (IsOverName (top_of root) x) o
  over_name_second x o none found = second_of (IsInner x) (IsOuter (top_of root) x) (IsOverName (top_of root) x) o none found (λ y b. inr b) (λ y c. c)

  -- a folder over a path is that of a file's name, or stands over the name
  path_out : (p : Path) (y : Name) → IsOverPath root p y → IsOwn p y ⊎ IsOverName (top_of root) p.name y
  path_out p y over = elim (kinds root p.name y over.0) [
    | inl same ↦ elim (cases_Bool p.tree) [ inl tree ↦ absurd (over.1 tree same) | inr file ↦ inl (file, same) ]
    | inr above ↦ inr above
  ]

  path_above : (p : Path) (y : Name) → IsOverName (top_of root) p.name y → IsOverPath root p y
  path_above p y above = (
    over_name_folder root p.name y above,
    λ tree same. let less = over_name_less (top_of root) refl p.name y above in omega (arith, less, ap (depth_of (length (top_of root))) same),
  )

  pub path_first : (p : Path) (u : ℕ) → IsInnermost root paths (IsOwn p) u → IsInnermost root paths (IsOverPath root p) u
  path_first p u found = first_of (IsOwn p) (IsOverName (top_of root) p.name) (IsOverPath root p) u found
      (λ y own. (subst (λ z. IsFolderOf root z p.name) (sym own.1) (own_folder root p.name), λ tree _. both_ways p.tree own.0 tree)) (path_out p)
      (λ a b own above. subst (λ z. IsFolderOf root b z) (sym own.1) (over_name_folder root p.name b above))

  pub path_second : (p : Path) (o : Option ℕ) → FindsTree root paths (IsOwn p) None → FindsTree root paths (IsOverName (top_of root) p.name) o → FindsTree root paths (IsOverPath root p) o
  path_second p o none found = second_of (IsOwn p) (IsOverName (top_of root) p.name) (IsOverPath root p) o none found (path_above p) (path_out p)

  -- one path more
  pub nearest_none : AreNearest root paths 0 []
  nearest_none = record { all = refl; nearest = λ t below. absurd (omega arith) }

  pub nearest_more : (t u : ℕ) (next new : List ℕ) → AreNearest root paths t next → IsNext root paths t u → new ≡ next ++ u ∷ [] → AreNearest root paths (t + 1) new
  nearest_more t u next new are is new_is = subst (λ (ns : List ℕ). AreNearest root paths (t + 1) ns) (sym new_is) (record {
    all = length_push next u ∙ ap (λ n. n + 1) are.all;
    nearest = λ s below. elim (cases_order s t) [
      | inl same ↦ subst (λ n. IsNext root paths s n) (sym (ap (λ k. get_or (next ++ u ∷ []) k s) same ∙ get_or_push next u s t are.all)) (subst (λ k. IsNext root paths k u) (sym same) is)
      | inr (inl less) ↦ subst (λ n. IsNext root paths s n) (sym (get_or_append_left next (u ∷ []) s s (omega (arith, less, are.all)))) (are.nearest s less)
      | inr (inr more) ↦ absurd (omega (arith, below, more))
    ];
  })
