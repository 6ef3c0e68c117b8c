-- The paths of footprints have names with bytes.
use Rattle.std.proofs.Common.{ℕ, ◌≡◌, ◌≢◌, ◌≤◌, List, [], ◌∷◌, All, Option, None, Some, length, fold, option_map, refl, sym, subst, inl, inr, ◌∙◌, arith}
use Rattle.std.specs.Prelude.{nat_eq, option_and_then}
use Rattle.std.specs.BTreeSet.{insert_key}
use Rattle.std.specs.Cmp.Lexicographic.{pointwise}
use Rattle.std.specs.List.{join_with_byte}
use Rattle.std.proofs.lemmas.Bool.{cases_Bool, cond-true, cond-false}
use Rattle.std.proofs.lemmas.List.Elements.{All-cons, All-head, All-nil, All-tail}
use Rattle.std.proofs.lemmas.Map.Views.{All-insert_key}
use Rattle.serde_json.specs.Data.{Data, Items, no_items, item}
use Rattle.serde_json.specs.Find.{get, as_array, as_str}
use Rattle.mk_text.specs.Spelling.{IsPlain, below, full, is_path, plain_name, reduced, components, spelled}
use Rattle.mk_text.proofs.Reduced.{All-reduced}
use Rattle.mk_path.specs.declared.path.Path.{Path}
use Rattle.mk_path.specs.Paths.{path_cmp}
use Rattle.mk_jobs.specs.Shape.{AreNamed}
use Rattle.mk_foot.specs.Json.{path_named}
use Rattle.mk_foot.specs.Lines.{ends_in_slash, path_of, path_spelled, paths_in, paths_under}

-- a path whose name has a byte
abbrev HasName : Path → Type 0
HasName p = 1 ≤ length p.name

joined_has : (part : List ℕ) (parts : List (List ℕ)) → part ≢ [] → 1 ≤ length (join_with_byte 47 (part ∷ parts))
joined_has [] parts some = absurd (some refl)
joined_has (b ∷ bs) [] some = omega arith
joined_has (b ∷ bs) (next ∷ parts) some = omega arith

-- what is spelled of plain components has a byte
spelled_has : (whole root parts : List (List ℕ)) → All IsPlain parts → 1 ≤ length (spelled whole (below root parts))
spelled_has whole [] [] plain = omega arith
spelled_has whole [] (part ∷ parts) plain = joined_has part parts (All-head IsPlain part parts plain).0
spelled_has whole (first ∷ more) [] plain = omega arith
spelled_has whole (first ∷ more) (part ∷ parts) plain = elim (cases_Bool (pointwise nat_eq first part)) [
  | inl same ↦
      subst (λ (o : Option (List (List ℕ))). 1 ≤ length (spelled whole o)) (sym (cond-true (pointwise nat_eq first part) (below more parts) None same))
      (spelled_has whole more parts (All-tail IsPlain part parts plain))
  | inr other ↦
      subst (λ (o : Option (List (List ℕ))). 1 ≤ length (spelled whole o)) (sym (cond-false (pointwise nat_eq first part) (below more parts) None other)) (omega arith)
]

-- and so a plain name has one
plain_has : (root path : List ℕ) → 1 ≤ length (plain_name root path)
plain_has root path =
    spelled_has (reduced (full root path)) (reduced (components root)) (reduced (full root path)) (All-reduced (full root path) [] (All-nil IsPlain))

then_some : {X Y : Type 0} (f : X → Option Y) (o : Option X) (y : Y) → option_and_then f o ≡ Some y → (x : X) × (o ≡ Some x) × (f x ≡ Some y)
then_some f None y is = absurd (let e : None ≡ Some y = is in cc)
then_some f (Some x) y is = (x, refl, is)

map_some : {X Y : Type 0} (f : X → Y) (o : Option X) (y : Y) → option_map f o ≡ Some y → (x : X) × (o ≡ Some x) × (f x ≡ y)
map_some f None y is = absurd (let e : None ≡ Some y = is in cc)
map_some f (Some x) y is = (x, refl, (let e : Some (f x) ≡ Some y = is in cc))

name_has : (root text name : List ℕ) → path_named root text ≡ Some name → 1 ≤ length name
name_has root text name is = elim (cases_Bool (is_path text)) [
  | inl good ↦
      let e : Some (plain_name root text) ≡ Some name = sym (cond-true (is_path text) (Some (plain_name root text)) None good) ∙ is in
      let same : plain_name root text ≡ name = cc in
      subst (λ (n : List ℕ). 1 ≤ length n) same (plain_has root text)
  | inr bad ↦ absurd (let e : None ≡ Some name = sym (cond-false (is_path text) (Some (plain_name root text)) None bad) ∙ is in cc)
]

path_has : (root : List ℕ) (d : Data) (p : Path) → path_of root d ≡ Some p → HasName p
path_has root d p is =
    let text = then_some (path_spelled root) (as_str d) p is in
    let name = map_some (λ name. record { name = name; tree = ends_in_slash text.0 }) (path_named root text.0) p text.2 in
    subst HasName name.2 (name_has root text.0 name.0 name.1)

items_named : (root : List ℕ) (items : Items) (paths : List Path) → paths_in root items ≡ Some paths → AreNamed paths
items_named root no_items paths is = let same : [] ≡ paths = (let e : Some [] ≡ Some paths = is in cc) in subst AreNamed same (All-nil HasName)
items_named root (item d ds) paths is =
    let first = then_some (λ x. option_map (λ xs. x ∷ xs) (paths_in root ds)) (path_of root d) paths is in
    let rest = map_some (λ xs. first.0 ∷ xs) (paths_in root ds) paths first.2 in
    subst AreNamed rest.2 (All-cons HasName first.0 rest.0 (path_has root d first.0 first.1) (items_named root ds rest.0 rest.1))

-- the paths of a list under a key
pub under_named : (root key : List ℕ) (d : Data) (paths : List Path) → paths_under root key d ≡ Some paths → AreNamed paths
under_named root key d paths is =
    let items = then_some (paths_in root) (option_and_then as_array (get key d)) paths is in
    items_named root items.0 paths items.2

-- what some paths become with others
pub more_named : (paths more : List Path) → AreNamed paths → AreNamed more → AreNamed (fold (insert_key path_cmp) paths more)
more_named paths [] named others = named
more_named paths (p ∷ more) named others =
    more_named (insert_key path_cmp paths p) more (All-insert_key path_cmp p HasName paths named (All-head HasName p more others)) (All-tail HasName p more others)
