-- A name below a tree that no other path covers, except the trees over it.
use Rattle.std.proofs.Common.{ℕ, suc, ◌≡◌, ◌<◌, ◌≤◌, ◌+◌, ◌-◌, ◌⊎◌, ◌&&◌, true, false, if◌then◌else◌, List, [], ◌∷◌, ◌++◌, length, take, get_or, replicate, Contains, refl, sym, ap, subst, ◌∙◌, inl, inr, arith, length-append}
use Rattle.std.specs.List.{sum_by}
use Rattle.std.proofs.lemmas.Bool.{and_from, cases_Bool, cases_lt, or_right}
use Rattle.std.proofs.lemmas.List.{get_or-append-add, get_or-replicate, length-replicate, take_at, get_or_past}
use Rattle.std.proofs.lemmas.List.Sums.{get_or-le-sum_by}
use Rattle.std.proofs.lemmas.Option.{unwrap_or-slice_get}
use Rattle.std.proofs.Math.Seq.{get_or-append_seam}
use Rattle.mk_name.specs.Names.{Name, same_name, has}
use Rattle.mk_name.proofs.Names.{name_is_exact}
use Rattle.mk_path.specs.declared.path.Path.{Path}
use Rattle.mk_path.specs.Laws.{Covers, IsFolderOf, IsOver}
use Rattle.mk_index.specs.Nearest.{IsInner}
use Rattle.mk_path.specs.Paths.{covers, folders, same_path}
use Rattle.mk_index.proofs.FolderKinds.{inner_folder, kinds, outer_of_inner, shorter_folder}
use Rattle.mk_path.proofs.Overs.{over_self}
use Rattle.mk_jobs.specs.Jobs.{Jobs, name_of, node_count, reads_of, writes_of}
use Rattle.mk_jobs.specs.Plan.{Node, nobody}

-- a name below a folder, with so many bytes
abbrev pub below : Name → ℕ → Name
below s k = s ++ 47 ∷ replicate k 122

module _ (root : List ℕ) (s : Name) (k : ℕ) (some : 0 < length s) where
  long : length (below s k) ≡ length s + (k + 1)
  long = length-append s (47 ∷ replicate k 122) ∙ omega (arith, length-replicate {A = ℕ} k 122)

  whole : s ≡ take (length s) (below s k)
  whole = sym (take_at s (47 ∷ replicate k 122) (length s) refl)

  its_own : IsInner (below s k) s
  its_own = record {
    place = length s;
    some = some;
    less = omega (arith, long);
    slash = get_or-append_seam s 47 (replicate k 122) 0;
    is = whole;
  }

  -- it stands in the folder
  pub is_below : IsFolderOf root s (below s k)
  is_below = inner_folder root (below s k) s its_own

  -- its last slash is the folder's
  last_slash : (place : ℕ) → place < length (below s k) → get_or (below s k) place 0 ≡ 47 → place ≤ length s
  last_slash place less slash = elim (cases_lt (length s) place) [
    | inr most ↦ most
    | inl more ↦
        let j = place - (length s + 1) in
        let is : place ≡ length s + suc j = omega (arith, more) in
        let byte : get_or (below s k) place 0 ≡ 122 =
        ap (λ i. get_or (below s k) i 0) is ∙ get_or-append-add s (47 ∷ replicate k 122) (suc j) 0 ∙ get_or-replicate k j 122 0 (omega (arith, is, less, long)) in
        absurd (omega (arith, sym byte ∙ slash))
  ]

  -- and its folders are those of the folder
  pub above_it : (y : Name) → IsFolderOf root y (below s k) → (y ≡ below s k) ⊎ IsFolderOf root y s
  above_it y folder = elim (kinds root (below s k) y folder) [
    | inl same ↦ inl same
    | inr over ↦ inr (elim over [
      | inl inner ↦
          let at = shorter_folder root (below s k) inner.place (length s) inner.some (last_slash inner.place inner.less inner.slash) (omega (arith, long)) inner.slash in
          subst (λ z. IsFolderOf root z s) (sym inner.is) (subst (λ z. IsFolderOf root (take inner.place (below s k)) z) (sym whole) at)
      | inr outer ↦ outer_of_inner root (below s k) s y its_own outer
    ])
  ]

-- a path that covers a file's name is over it, and so is one that covers a fresh name below a tree
pub tree_covers : (root : List ℕ) (p : Path) (x : Name) → p.tree ≡ true → IsFolderOf root p.name x → Covers root p x
tree_covers root p x tree inside = ap (λ t. if t then has same_name (folders root x) p.name else same_name p.name x) tree ∙ inside

pub covers_tree : (root : List ℕ) (p : Path) (x : Name) → p.tree ≡ true → Covers root p x → IsFolderOf root p.name x
covers_tree root p x tree over = sym (ap (λ t. if t then has same_name (folders root x) p.name else same_name p.name x) tree) ∙ over

pub covers_file : (root : List ℕ) (p : Path) (x : Name) → p.tree ≡ false → Covers root p x → p.name ≡ x
covers_file root p x file over =
    name_is_exact.equal p.name x (sym (ap (λ t. if t then has same_name (folders root x) p.name else same_name p.name x) file) ∙ over)

pub over_file : (root : List ℕ) (q p : Path) → p.tree ≡ false → Covers root q p.name → IsOver root q p
over_file root q p file over = elim (cases_Bool q.tree) [
  | inl tree ↦ or_right (same_path q p) (q.tree && covers root q p.name) (and_from q.tree (covers root q p.name) tree over)
  | inr other ↦
      let name = covers_file root q p.name other over in
      let is : q ≡ p = λ i. record { name = name i; tree = (other ∙ sym file) i } in
      subst (λ (r : Path). IsOver root r p) (sym is) (over_self root p)
]

pub over_tree : (root : List ℕ) (q p : Path) (k : ℕ) → p.tree ≡ true → 0 < length p.name → length q.name < k → Covers root q (below p.name k) → IsOver root q p
over_tree root q p k tree some short over =
    let apart : q.name ≡ below p.name k → ⊥ = λ same. omega (arith, ap length same, length-append p.name (47 ∷ replicate k 122), length-replicate {A = ℕ} k 122, short) in
    elim (cases_Bool q.tree) [
      | inr file ↦ absurd (apart (covers_file root q (below p.name k) file over))
      | inl kind ↦ elim (above_it root p.name k some q.name (covers_tree root q (below p.name k) kind over)) [
        | inl same ↦ absurd (apart same)
        | inr folder ↦ or_right (same_path q p) (q.tree && covers root q p.name) (and_from q.tree (covers root q p.name) kind (tree_covers root q p.name kind folder))
      ]
    ]

-- how many bytes all names of jobs have together
abbrev pub bytes_of_row : List Path → ℕ
bytes_of_row row = sum_by (λ (p : Path). length p.name) row

abbrev pub bytes_in : Jobs → ℕ
bytes_in jobs = sum_by bytes_of_row jobs.reads + (sum_by bytes_of_row jobs.writes + sum_by (λ (n : Node). length n.name) jobs.plan.nodes)

in_row : (rows : List (List Path)) (n : ℕ) (q : Path) → Contains (get_or rows n []) q → length q.name ≤ sum_by bytes_of_row rows
in_row rows n q there = elim (cases_lt n (length rows)) [
  | inl here ↦
      let one = get_or-le-sum_by (λ (p : Path). length p.name) (get_or rows n []) there.0 q there.1 in
      let is : length (get_or (get_or rows n []) there.0 q).name ≡ length q.name = ap (λ (p : Path). length p.name) there.2 in
      let all = get_or-le-sum_by bytes_of_row rows n [] here in
      omega (arith, one, is, all)
  | inr past ↦ absurd (omega (arith, (subst (λ (ps : List Path). Contains ps q) (get_or_past rows n [] past) there).1))
]

pub read_short : (jobs : Jobs) (n : ℕ) (q : Path) → Contains (reads_of jobs n) q → length q.name < bytes_in jobs + 1
unfolding reads_of
read_short jobs n q there = omega (arith, in_row jobs.reads n q (subst (λ (ps : List Path). Contains ps q) (unwrap_or-slice_get jobs.reads n []) there))

pub write_short : (jobs : Jobs) (n : ℕ) (q : Path) → Contains (writes_of jobs n) q → length q.name < bytes_in jobs + 1
unfolding writes_of
write_short jobs n q there = omega (arith, in_row jobs.writes n q (subst (λ (ps : List Path). Contains ps q) (unwrap_or-slice_get jobs.writes n []) there))

pub name_short : (jobs : Jobs) (n : ℕ) → n < node_count jobs → length (name_of jobs n) < bytes_in jobs + 1
unfolding name_of node_count
name_short jobs n inside =
    let one = get_or-le-sum_by (λ (d : Node). length d.name) jobs.plan.nodes n nobody inside in
    let is : length (name_of jobs n) ≡ length (get_or jobs.plan.nodes n nobody).name = ap (λ (d : Node). length d.name) (unwrap_or-slice_get jobs.plan.nodes n nobody) in
    omega (arith, one, is)

-- no node has a fresh name
pub name_apart : (jobs : Jobs) (n : ℕ) (s : Name) → n < node_count jobs → name_of jobs n ≡ below s (bytes_in jobs + 1) → ⊥
name_apart jobs n s inside same =
    let k = bytes_in jobs + 1 in
    omega (arith, name_short jobs n inside, ap length same, length-append s (47 ∷ replicate k 122), length-replicate {A = ℕ} k 122)

-- and nobody reads it
pub read_apart : (jobs : Jobs) (n : ℕ) (q : Path) (s : Name) → Contains (reads_of jobs n) q → q.name ≡ below s (bytes_in jobs + 1) → ⊥
read_apart jobs n q s there same =
    let k = bytes_in jobs + 1 in
    omega (arith, read_short jobs n q there, ap length same, length-append s (47 ∷ replicate k 122), length-replicate {A = ℕ} k 122)
