-- Unlisted names by who reads and writes them, and the marks of unlisted files.
use Rattle.std.proofs.Common.{ℕ, ◌≡◌, ◌<◌, ◌&&◌, not, Bool, true, false, List, [], ◌∷◌, Option, Some, None, is_none, length, map, get_or, All, Contains, refl, sym, ap, subst, ◌∙◌, inl, inr, arith}
use Rattle.std.specs.List.{Any, list_any}
use Rattle.std.proofs.lemmas.Bool.{and_from, and_parts, both_ways, cases_Bool, cases_lt}
use Rattle.std.proofs.lemmas.List.{get_or-map, get_or_default, get_or_past, length-map}
use Rattle.std.proofs.lemmas.List.Elements.{Contains-get_or}
use Rattle.std.proofs.lemmas.List.Folds.{Any-from_list_any, list_any-from_Any}
use Rattle.std.proofs.lemmas.Option.{unwrap_or-slice_get}
use Rattle.mk_name.specs.Names.{Name, has, same_name}
use Rattle.mk_name.proofs.Names.{name_is_exact}
use Rattle.mk_path.specs.declared.path.Path.{Path}
use Rattle.mk_path.specs.Paths.{covered, covers, is_over, path_at}
use Rattle.mk_path.proofs.Overs.{covers_own_name, over_self}
use Rattle.mk_jobs.specs.Jobs.{Jobs, is_live, may_write, reads_of, writes_of}
use Rattle.mk_jobs.specs.Shape.{IsWellFormed}
use Rattle.mk_missing.specs.Unlisted.{unlisted_names, is_unlisted, is_file_of, is_made, is_sought}
use Rattle.mk_missing.specs.Files.{IsFile, IsLastIfAny, writes_file}
use Rattle.mk_missing.specs.Users.{AreUsers, files_of, is_nowhere}
use Rattle.mk_missing.specs.declared.users.Users.{Users}
use Rattle.mk_missing.proofs.Fresh.{over_file}
use Rattle.mk_missing.proofs.Naming.{file_at}
use Rattle.mk_missing.proofs.Standing.{writes_name}

-- a test holds of a row, or of one of them
row_any : (test : List Path → Bool) (rows : List (List Path)) (n : ℕ) → test [] ≡ false → test (get_or rows n []) ≡ true → list_any test rows ≡ true
row_any test rows n none so = elim (cases_lt n (length rows)) [
  | inl below ↦ list_any-from_Any test rows (n, get_or rows n [], below, get_or_default rows n (get_or rows n []) [] below, so)
  | inr past ↦ absurd (both_ways (test []) none (subst (λ (ps : List Path). test ps ≡ true) (get_or_past rows n [] past) so))
]

any_row : (test : List Path → Bool) (rows : List (List Path)) → list_any test rows ≡ true → (n : ℕ) × (test (get_or rows n []) ≡ true)
any_row test rows so =
    let any : Any (λ (ps : List Path). test ps ≡ true) rows = Any-from_list_any test rows so in
    (any.0, subst (λ (ps : List Path). test ps ≡ true) (sym (get_or_default rows any.0 [] any.1 any.2 ∙ any.3)) any.4)

reads_at : (jobs : Jobs) (n : ℕ) → reads_of jobs n ≡ get_or jobs.reads n []
unfolding reads_of
reads_at jobs n = unwrap_or-slice_get jobs.reads n []

writes_at : (jobs : Jobs) (n : ℕ) → writes_of jobs n ≡ get_or jobs.writes n []
unfolding writes_of
writes_at jobs n = unwrap_or-slice_get jobs.writes n []

-- a name is sought just where a recipe reads the file of this name
pub sought_if : (jobs : Jobs) (n : ℕ) (p : Path) → Contains (reads_of jobs n) p → p.tree ≡ false → is_sought jobs p.name ≡ true
sought_if jobs n p there file =
    let at = subst (λ (ps : List Path). Contains ps p) (reads_at jobs n) there in
    row_any (λ (ps : List Path). list_any (is_file_of p.name) ps) jobs.reads n refl
    (list_any-from_Any (is_file_of p.name) (get_or jobs.reads n []) (at.0, p, at.1, at.2, and_from (not p.tree) (same_name p.name p.name) (ap not file) (name_is_exact.itself p.name)))

pub record Seeker (jobs : Jobs) (x : Name) : Type 0 where
  pub node : ℕ
  pub path : Path
  pub there : Contains (reads_of jobs node) path
  pub name : path.name ≡ x

pub seeker_of : (jobs : Jobs) (x : Name) → is_sought jobs x ≡ true → Seeker jobs x
seeker_of jobs x so =
    let at = any_row (λ (ps : List Path). list_any (is_file_of x) ps) jobs.reads so in
    let any : Any (λ (p : Path). is_file_of x p ≡ true) (get_or jobs.reads at.0 []) = Any-from_list_any (is_file_of x) (get_or jobs.reads at.0 []) at.1 in record {
      node = at.0;
      path = any.1;
      there = subst (λ (ps : List Path). Contains ps any.1) (sym (reads_at jobs at.0)) (any.0, any.2, any.3);
      name = name_is_exact.equal any.1.name x (and_parts (not any.1.tree) (same_name any.1.name x) any.4).1;
    }

-- a name is made if a recipe may write it
pub made_if : (jobs : Jobs) (n : ℕ) (x : Name) → may_write jobs n x ≡ true → is_made jobs x ≡ true
unfolding may_write
made_if jobs n x may =
    row_any (λ (ps : List Path). covered jobs.root ps x) jobs.writes n refl
    (subst (λ (ps : List Path). covered jobs.root ps x ≡ true) (writes_at jobs n) (and_parts (is_live jobs n) (covered jobs.root (writes_of jobs n) x) may).1)

-- and that of a file only if a recipe writes the file
pub maker_of : (jobs : Jobs) (p : Path) → p.tree ≡ false → is_made jobs p.name ≡ true → (n : ℕ) × (writes_file jobs n p ≡ true)
maker_of jobs p file so =
    let at = any_row (λ (ps : List Path). covered jobs.root ps p.name) jobs.writes so in
    let row = get_or jobs.writes at.0 [] in
    let any : Any (λ q. covers jobs.root q p.name ≡ true) row = Any-from_list_any (λ q. covers jobs.root q p.name) row at.1 in
    let over : list_any (λ q. is_over jobs.root q p) row ≡ true =
    list_any-from_Any (λ q. is_over jobs.root q p) row (any.0, any.1, any.2, any.3, over_file jobs.root any.1 p file any.4) in
    (at.0, subst (λ (ps : List Path). list_any (λ q. is_over jobs.root q p) ps ≡ true) (sym (writes_at jobs at.0)) over)

-- what may be written is not unlisted
pub written_there : (jobs : Jobs) (listing : List Name) (n : ℕ) (x : Name) → may_write jobs n x ≡ true → unlisted_names jobs listing x ≡ false
written_there jobs listing n x may = none (is_sought jobs x) (is_made jobs x) (has same_name listing x) (made_if jobs n x may)
  where
    none : (s m h : Bool) → m ≡ true → s && not m && not h ≡ false
    none true m h is = ap (λ b. not b && not h) is
    none false m h is = refl

-- a name that nobody seeks is not unlisted
pub unsought_there : (jobs : Jobs) (listing : List Name) (x : Name) → (Seeker jobs x → ⊥) → unlisted_names jobs listing x ≡ false
unsought_there jobs listing x none = elim (cases_Bool (is_sought jobs x)) [
  | inl so ↦ absurd (none (seeker_of jobs x so))
  | inr nay ↦ ap (λ b. b && not (is_made jobs x) && not (has same_name listing x)) nay
]

-- the last writer of a file says whether a recipe makes its name
unmade : (jobs : Jobs) (p : Path) (last : Option ℕ) → IsWellFormed jobs → IsFile jobs p → IsLastIfAny jobs p last → p.tree ≡ false → is_none last ≡ is_sought jobs p.name && not (is_made jobs p.name)
unmade jobs p (Some w) shape is last file =
    none (is_sought jobs p.name) (is_made jobs p.name) (made_if jobs w p.name (writes_name jobs shape w p p.name (covers_own_name jobs.root p) last.writes))
  where
    none : (s m : Bool) → m ≡ true → false ≡ s && not m
    none true m is = sym (ap not is)
    none false m is = refl
unmade jobs p None shape is last file =
    let free : is_made jobs p.name ≡ false = elim (cases_Bool (is_made jobs p.name)) [
      | inr nay ↦ nay
      | inl so ↦ let maker = maker_of jobs p file so in absurd (last maker.0 maker.1)
    ] in
    sym (and_from (is_sought jobs p.name) (not (is_made jobs p.name)) (sought is) (ap not free))
  where
    sought : IsFile jobs p → is_sought jobs p.name ≡ true
    sought (n, inl read) = sought_if jobs n p read file
    sought (n, inr written) = absurd (last n (list_any-from_Any (λ q. is_over jobs.root q p) (writes_of jobs n) (written.0, p, written.1, written.2, over_self jobs.root p)))

-- a file that is nowhere is unlisted, and no other is
nowhere_is : (jobs : Jobs) (listing : List Name) (user : Users) → IsWellFormed jobs → IsFile jobs user.file → AreUsers jobs user → is_nowhere listing user ≡ is_unlisted jobs listing user.file
nowhere_is jobs listing user shape is are =
    let x = user.file.name in
    parts user.file.tree (is_none user.last) (is_sought jobs x) (is_made jobs x) (has same_name listing x) (unmade jobs user.file user.last shape is are.last)
  where
    parts : (t n s m h : Bool) → (t ≡ false → n ≡ s && not m) → not t && n && not h ≡ not t && (s && not m && not h)
    parts true n s m h same = refl
    parts false n s m h same = ap (λ b. b && not h) (same refl)

-- the marks of files
pub mark_at : (jobs : Jobs) (listing : List Name) (users : List Users) (k : ℕ) → IsWellFormed jobs → ((p : Path) → Contains (files_of users) p → IsFile jobs p) → All (AreUsers jobs) users → k < length (files_of users)
    → get_or (map (is_nowhere listing) users) k false ≡ is_unlisted jobs listing (path_at (files_of users) k)
mark_at jobs listing [] k shape down are below = absurd (omega (arith, below))
mark_at jobs listing (u ∷ us) k shape down are below =
    let row = u ∷ us in
    let user = get_or row k u in
    let inside : k < length row = omega (arith, below, length-map row (λ (x : Users). x.file)) in
    let file : path_at (files_of row) k ≡ user.file = file_at row k u inside in
    let is : IsFile jobs user.file = down user.file (subst (Contains (files_of row)) file (Contains-get_or (files_of row) k (record { name = []; tree = false }) below)) in
    get_or-map (is_nowhere listing) row k u false inside ∙ nowhere_is jobs listing user shape is (are k u inside) ∙ ap (is_unlisted jobs listing) (sym file)
