-- What a line writes covers no task's own name.
use Rattle.std.proofs.Common.{ℕ, ◌≡◌, ◌∙◌, ◌||◌, Bool, true, false, eqb, List, [], ◌∷◌, ◌++◌, All, Option, None, Some, codes, map, option_map, refl, sym, ap, subst, inl, inr}
use Rattle.std.specs.Prelude.{fold, option_and_then}
use Rattle.std.specs.BTreeSet.{insert_key}
use Rattle.std.specs.List.{join_with_byte, list_any}
use Rattle.std.proofs.lemmas.Bool.{cases_Bool, cond-true, cond-false, or_parts, true≢false}
use Rattle.std.proofs.lemmas.Cmp.{nat_eq_equiv}
use Rattle.std.proofs.lemmas.List.Elements.{All-cons, All-head, All-nil, All-tail}
use Rattle.std.proofs.lemmas.Map.Views.{All-insert_key}
use Rattle.std.proofs.lemmas.Option.{cond_some, option_and_then_some}
use Rattle.serde_json.specs.Data.{Data, Items, no_items, item}
use Rattle.serde_json.specs.Find.{get, as_array, as_str}
use Rattle.mk_name.specs.Names.{Name, has, same_name}
use Rattle.mk_text.specs.Spelling.{below, components, full, is_path, plain_name, reduced, spelled}
use Rattle.mk_path.specs.declared.path.Path.{Path}
use Rattle.mk_path.specs.Paths.{covered, covers, cuts, folders, path_cmp}
use Rattle.mk_path.proofs.Parts.{Goods, below_some, goods_full, join_view}
use Rattle.mk_jobs.specs.Shape.{AreNamed}
use Rattle.mk_foot.specs.Footprints.{in_order}
use Rattle.mk_foot.specs.Json.{path_named, value_of}
use Rattle.mk_foot.specs.Lines.{ends_in_slash, path_of, path_spelled, paths_in, paths_under}
use Rattle.mk_foot.proofs.Named.{more_named, under_named}
use Rattle.mk_task.specs.Good.{IsApart}
use Rattle.mk_task.specs.JobsOf.{own_name}
use Rattle.mk_task.specs.Lines.{TaskLine, is_everything, label_of, labels_in, less_than_everything, line_in, line_of, under_after, under_task, under_writes}

-- what plain names look like: the slash, a slash and then another byte, or another byte first
data Spelled (q : Name) : Type 0 where
  top : q ≡ 47 ∷ [] → Spelled q
  absolute : (c : ℕ) (u : Name) → q ≡ 47 ∷ c ∷ u → eqb c 47 ≡ false → Spelled q
  relative : (c : ℕ) (u : Name) → q ≡ c ∷ u → eqb c 47 ≡ false → Spelled q

from_top : (parts : List Name) → Goods parts → Spelled (47 ∷ join_with_byte 47 parts)
from_top [] good = top refl
from_top (p ∷ ps) good = let view = join_view p ps good.0 in absolute view.0 view.1 (ap (λ t. 47 ∷ t) view.2) view.3

goods_behind : (xs ys : List Name) → Goods (xs ++ ys) → Goods ys
goods_behind [] ys good = good
goods_behind (x ∷ xs) ys good = goods_behind xs ys good.1

spelled_by : (root parts : List Name) (o : Option (List Name)) → Goods parts → below root parts ≡ o → Spelled (spelled parts o)
spelled_by root parts None good is = from_top parts good
spelled_by root parts (Some []) good is = relative 46 [] refl refl
spelled_by root parts (Some (p ∷ rest)) good is =
    let whole : Goods (root ++ p ∷ rest) = subst Goods (below_some root parts (p ∷ rest) is) good in
    let view = join_view p rest (goods_behind root (p ∷ rest) whole).0 in
    relative view.0 view.1 view.2 view.3

plain_spelled : (root path : List ℕ) → Spelled (plain_name root path)
plain_spelled root path = spelled_by (reduced (components root)) (reduced (full root path)) (below (reduced (components root)) (reduced (full root path))) (goods_full root path) refl

none_of : (q : Name) (f : Name → Name) (ys : List Name) → ((y : Name) → same_name (f y) q ≡ false) → has same_name (map f ys) q ≡ false
none_of q f [] differs = refl
none_of q f (y ∷ ys) differs = rw (differs y) (none_of q f ys differs)

-- the folders of an own name
inner : Name → List Name
inner label = map (λ t. 47 ∷ t) (map (λ t. 47 ∷ t) (cuts (0 ∷ label)))

own_folders : (root label : Name) → folders root (own_name label) ≡ (47 ∷ []) ∷ (47 ∷ []) ∷ inner label
unfolding inner
own_folders root label = refl

absolute_none : (label : Name) (c : ℕ) (u : Name) → eqb c 47 ≡ false → has same_name ((47 ∷ []) ∷ (47 ∷ []) ∷ inner label) (47 ∷ c ∷ u) ≡ false
unfolding inner
absolute_none label c u other = twice (cuts (0 ∷ label))
  where
    twice : (ts : List Name) → has same_name (map (λ t. 47 ∷ t) (map (λ t. 47 ∷ t) ts)) (47 ∷ c ∷ u) ≡ false
    twice [] = refl
    twice (t ∷ ts) = rw (nat_eq_equiv.symm 47 c ∙ other) (twice ts)

relative_none : (label : Name) (c : ℕ) (u : Name) → eqb c 47 ≡ false → has same_name ((47 ∷ []) ∷ (47 ∷ []) ∷ inner label) (c ∷ u) ≡ false
unfolding inner
relative_none label c u other = rw (nat_eq_equiv.symm 47 c ∙ other) (twice (map (λ t. 47 ∷ t) (cuts (0 ∷ label))))
  where
    twice : (ts : List Name) → has same_name (map (λ t. 47 ∷ t) ts) (c ∷ u) ≡ false
    twice [] = refl
    twice (t ∷ ts) = rw (nat_eq_equiv.symm 47 c ∙ other) (twice ts)

tree_apart : (root label q : Name) → Spelled q → same_name q (codes "/") ≡ false → has same_name (folders root (own_name label)) q ≡ false
tree_apart root label q (top is) less = absurd (true≢false (ap (λ n. same_name n (codes "/")) (sym is) ∙ less))
tree_apart root label q (absolute c u is other) less =
    subst (λ (x : Name). has same_name (folders root (own_name label)) x ≡ false) (sym is)
    (ap (λ fs. has same_name fs (47 ∷ c ∷ u)) (own_folders root label) ∙ absolute_none label c u other)
tree_apart root label q (relative c u is other) less =
    subst (λ (x : Name). has same_name (folders root (own_name label)) x ≡ false) (sym is)
    (ap (λ fs. has same_name fs (c ∷ u)) (own_folders root label) ∙ relative_none label c u other)

file_apart : (label q : Name) → Spelled q → same_name q (own_name label) ≡ false
file_apart label q (top is) = rw is refl
file_apart label q (absolute c u is other) = rw (is, other) refl
file_apart label q (relative c u is other) = rw (is, other) refl

path_apart : (root : Name) (p : Path) → Spelled p.name → is_everything p ≡ false → IsApart root p
path_apart root p spelled less label = by p.tree refl
  where
    by : (t : Bool) → p.tree ≡ t → covers root p (own_name label) ≡ false
    by true e = cond-true p.tree _ _ e ∙ tree_apart root label p.name spelled (rw e at less)
    by false e = cond-false p.tree _ _ e ∙ file_apart label p.name spelled

pub then_some : {X Y : Type 0} (f : X → Option Y) (o : Option X) (y : Y) → option_and_then f o ≡ Some y → (x : X) × (o ≡ Some x) × (f x ≡ Some y)
then_some f o y is = option_and_then_some f o y is (λ x here next. (x, here, next))

pub map_some : {X Y : Type 0} (f : X → Y) (o : Option X) (y : Y) → option_map f o ≡ Some y → (x : X) × (o ≡ Some x) × (f x ≡ y)
map_some f None y is = absurd (let e : None ≡ Some y = is in cc)
map_some f (Some x) y is = (x, refl, (let e : Some (f x) ≡ Some y = is in cc))

IsSpelled : Path → Type 0
IsSpelled p = Spelled p.name

name_spelled : (root text name : List ℕ) → path_named root text ≡ Some name → Spelled name
name_spelled root text name is = subst Spelled (cond_some (is_path text) (plain_name root text) name is).1 (plain_spelled root text)

path_spelled_so : (root : List ℕ) (d : Data) (p : Path) → path_of root d ≡ Some p → IsSpelled p
unfolding IsSpelled
path_spelled_so root d p is =
    let text = then_some (path_spelled root) (as_str d) p is in
    let name = map_some (λ name. record { name = name; tree = ends_in_slash text.0 }) (path_named root text.0) p text.2 in
    subst (λ (q : Path). Spelled q.name) name.2 (name_spelled root text.0 name.0 name.1)

items_spelled : (root : List ℕ) (items : Items) (paths : List Path) → paths_in root items ≡ Some paths → All IsSpelled paths
items_spelled root no_items paths is = let same : [] ≡ paths = (let e : Some [] ≡ Some paths = is in cc) in subst (All IsSpelled) same (All-nil IsSpelled)
items_spelled root (item d ds) paths is =
    let first = then_some (λ x. option_map (λ xs. x ∷ xs) (paths_in root ds)) (path_of root d) paths is in
    let rest = map_some (λ xs. first.0 ∷ xs) (paths_in root ds) paths first.2 in
    subst (All IsSpelled) rest.2 (All-cons IsSpelled first.0 rest.0 (path_spelled_so root d first.0 first.1) (items_spelled root ds rest.0 rest.1))

all_apart : (root : List ℕ) (paths : List Path) → All IsSpelled paths → list_any is_everything paths ≡ false → All (IsApart root) paths
unfolding IsSpelled
all_apart root [] spelled less = All-nil (IsApart root)
all_apart root (p ∷ paths) spelled less =
    let parts = or_parts (is_everything p) (list_any is_everything paths) less in
    All-cons (IsApart root) p paths (path_apart root p (All-head IsSpelled p paths spelled) parts.0) (all_apart root paths (All-tail IsSpelled p paths spelled) parts.1)

-- what a line says that is good
pub record IsPlainLine (root : List ℕ) (line : TaskLine) : Type 0 where
  pub reads_named : AreNamed line.reads
  pub writes_named : AreNamed line.writes
  pub apart : All (IsApart root) line.writes

less_apart : (root : List ℕ) (d : Data) (raw writes : List Path) → under_writes root d ≡ Some raw → less_than_everything raw ≡ Some writes
    → AreNamed writes × All (IsApart root) writes
less_apart root d raw writes under is = elim (cases_Bool (list_any is_everything raw)) [
  | inl all ↦ absurd (let e : None ≡ Some writes = sym (cond-true (list_any is_everything raw) None (Some raw) all) ∙ is in cc)
  | inr less ↦
      let e : Some raw ≡ Some writes = sym (cond-false (list_any is_everything raw) None (Some raw) less) ∙ is in
      let same : raw ≡ writes = cc in
      let items = then_some (paths_in root) (option_and_then as_array (get (codes "writes") d)) raw under in (
        subst AreNamed same (under_named root (codes "writes") d raw under),
        subst (All (IsApart root)) same (all_apart root raw (items_spelled root items.0 raw items.2) less),
      )
]

pub said_plain : (root : List ℕ) (d : Data) (line : TaskLine) → line_in root d ≡ Some line → IsPlainLine root line
said_plain root d line is =
    let label = then_some _ (option_and_then label_of (under_task d)) line is in
    let after = then_some _ (option_and_then labels_in (under_after d)) line label.2 in
    let reads = then_some _ (paths_under root (codes "reads") d) line after.2 in
    let writes = map_some _ (option_and_then less_than_everything (under_writes root d)) line reads.2 in
    let raw = then_some less_than_everything (under_writes root d) writes.0 writes.1 in
    let good = less_apart root d raw.0 writes.0 raw.1 raw.2 in
    subst (IsPlainLine root) writes.2 (record {
      reads_named = under_named root (codes "reads") d reads.0 reads.1;
      writes_named = good.0;
      apart = good.1;
    })

pub line_plain : (root text : List ℕ) (line : TaskLine) → line_of root text ≡ Some line → IsPlainLine root line
line_plain root text line is =
    let object = then_some (line_in root) (value_of text) line is in
    said_plain root object.0 line object.2

-- of paths that are apart, none covers an own name, also in order
in_order_all : (P : Path → Type 0) (paths more : List Path) → All P paths → All P more → All P (fold (insert_key path_cmp) paths more)
in_order_all P paths [] before others = before
in_order_all P paths (p ∷ more) before others =
    in_order_all P (insert_key path_cmp paths p) more (All-insert_key path_cmp p P paths before (All-head P p more others)) (All-tail P p more others)

apart_none : (root label : List ℕ) (paths : List Path) → All (IsApart root) paths → covered root paths (own_name label) ≡ false
apart_none root label [] apart = refl
apart_none root label (p ∷ paths) apart =
    ap (λ b. b || covered root paths (own_name label)) (All-head (IsApart root) p paths apart label)
    ∙ apart_none root label paths (All-tail (IsApart root) p paths apart)

pub covers_none : (root label : List ℕ) (paths : List Path) → All (IsApart root) paths → covered root (in_order paths) (own_name label) ≡ false
covers_none root label paths apart = apart_none root label (in_order paths) (in_order_all (IsApart root) [] paths (All-nil (IsApart root)) apart)

pub order_named : (paths : List Path) → AreNamed paths → AreNamed (in_order paths)
order_named paths named = more_named [] paths (All-nil _) named
