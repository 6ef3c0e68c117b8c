-- Files beside their names: what stands at a name, and how many have a time.
use Rattle.std.proofs.Common.{Less, Greater, ℕ, ◌≡◌, ◌<◌, ◌≤◌, ◌+◌, ◌==◌, Bool, true, List, [], ◌∷◌, ◌++◌, Option, Some, None, refl, sym, ap, ◌∙◌, subst, arith, eq-eqb, eqb-true, cond, length, unwrap_or, option_map, IsSome, IsTrue, is_some, ◌||◌}
use Rattle.std.specs.BTreeMap.{is_at}
use Rattle.std.specs.Cmp.{eq_by_cmp_equiv, both_ways}
use Rattle.std.specs.Cmp.Lexicographic.{slice_cmp, nat_list_cmp_total, nat_list_eq_equiv}
use Rattle.std.specs.Map.{lookup, keys_of, values_of, remove_entry}
use Rattle.std.specs.Ordering.{nat_cmp, ordering_reverse}
use Rattle.std.proofs.lemmas.List.Sums.{sum_by-cons}
use Rattle.std.proofs.lemmas.List.Elements.{All-head, All-tail}
use Rattle.std.proofs.lemmas.Map.Views.{All-from_any}
use Rattle.std.specs.List.{All, AllByRecursion, list_any}
use Rattle.std.proofs.lemmas.Map.{lookup-none}
use Rattle.std.proofs.lemmas.Map.Entries.{sum_by-insert_entry, sum_by-remove_entry, none_past_head}
use Rattle.std.proofs.lemmas.Map.Keys.{IsDistinct-from_sorted, sorted_head, sorted_tail}
use Rattle.std.proofs.lemmas.Map.Text.{is_eq-slice_cmp}
use Rattle.mk_name.specs.Names.{Name, same_name, has}
use Rattle.mk_sched.specs.Stores.{File, AgreesWithListing}
use Rattle.mk_sched.specs.Stored.{StoredFiles, store_of, with_file, without_file, IsInOrder, one_at, how_many}
use Rattle.mk_sched.proofs.Basics.{split, same_name-true, same_name-refl}

-- the order of names finds what the test of names finds
pub found : (files : StoredFiles) (x : Name) → lookup (is_at (slice_cmp nat_cmp x)) files ≡ store_of files x
found files x = λ i. lookup (λ k. is_eq-slice_cmp x k i) files

-- and takes out what the test of names takes out
pub taken : (files : StoredFiles) (x : Name) → remove_entry (is_at (slice_cmp nat_cmp x)) files ≡ without_file files x
taken files x = λ i. remove_entry (λ k. is_eq-slice_cmp x k i) files

-- how many have a time after a file is put
pub how_many-put : (files : StoredFiles) (x : Name) (file : File) (old : Option File) (t : ℕ) → IsInOrder files
    → old ≡ lookup (is_at (slice_cmp nat_cmp x)) files
    → how_many (with_file files x file) t + unwrap_or (option_map (λ f. one_at f.time t) old) 0 ≡ how_many files t + one_at file.time t
how_many-put files x file old t in_order is =
    subst (λ (o : Option File). how_many (with_file files x file) t + unwrap_or (option_map (λ f. one_at f.time t) o) 0 ≡ how_many files t + one_at file.time t) (sym is)
    (sum_by-insert_entry (λ f. one_at f.time t) nat_list_cmp_total files x file in_order)

-- and after one is erased
pub how_many-erase : (files : StoredFiles) (x : Name) (old : Option File) (t : ℕ) → old ≡ lookup (is_at (slice_cmp nat_cmp x)) files
    → how_many (remove_entry (is_at (slice_cmp nat_cmp x)) files) t + unwrap_or (option_map (λ f. one_at f.time t) old) 0 ≡ how_many files t
how_many-erase files x old t is =
    subst (λ (o : Option File). how_many (remove_entry (is_at (slice_cmp nat_cmp x)) files) t + unwrap_or (option_map (λ f. one_at f.time t) o) 0 ≡ how_many files t) (sym is)
    (sum_by-remove_entry (λ f. one_at f.time t) (is_at (slice_cmp nat_cmp x)) files)

-- a file that stands there is one of those of its time
pub some_has_time : (files : StoredFiles) (x : Name) (file : File) → Some file ≡ lookup (is_at (slice_cmp nat_cmp x)) files → 0 < how_many files file.time
some_has_time files x file is =
    let sum = how_many-erase files x (Some file) file.time is in
    let one : one_at file.time file.time ≡ 1 = rw (eq-eqb file.time file.time refl) refl in
    omega (arith, sum, one)

-- the first file, and those below it
how_many-cons : (e : Name × File) (files : StoredFiles) (t : ℕ) → how_many (e ∷ files) t ≡ one_at e.1.time t + how_many files t
how_many-cons e files t = sum_by-cons (λ f. one_at f.time t) e.1 (values_of files)

-- no more files have a time than there are
pub how_many-le : (files : StoredFiles) (t : ℕ) → how_many files t ≤ length files
how_many-le [] t = omega arith
how_many-le (e ∷ files) t =
    let rest = how_many-le files t in
    let one : one_at e.1.time t ≤ 1 = split (e.1.time == t) (λ is. rw is (omega arith)) (λ not. rw not (omega arith)) in
    omega (arith, rest, one, how_many-cons e files t)

-- a file that stands at a name
pub record StandsAt (files : StoredFiles) (t : ℕ) : Type 0 where
  pub name : Name
  pub file : File
  pub stands : store_of files name ≡ Some file
  pub timed : file.time ≡ t

-- what is below the first entry stands there too
below : (e : Name × File) (files : StoredFiles) (t : ℕ) → IsInOrder (e ∷ files) → StandsAt files t → StandsAt (e ∷ files) t
below e files t in_order s = record {
  name = s.name;
  file = s.file;
  stands = split (same_name s.name e.0)
      (λ same.
      let key = is_eq-slice_cmp s.name e.0 ∙ same in
      let none : lookup (is_at (slice_cmp nat_cmp s.name)) files ≡ None =
      lookup-none (is_at (slice_cmp nat_cmp s.name)) files (none_past_head (eq_by_cmp_equiv nat_list_cmp_total) s.name e files (IsDistinct-from_sorted (slice_cmp nat_cmp) (keys_of (e ∷ files)) in_order) key) in
      absurd (cc (sym (found files s.name) ∙ none, s.stands)))
      (λ other. rw other s.stands);
  timed = s.timed;
}

-- a time that some files have is that of a file that stands at a name
pub has_file : (files : StoredFiles) (t : ℕ) → IsInOrder files → 0 < how_many files t → StandsAt files t
has_file [] t in_order some = absurd (omega (arith, some))
has_file (e ∷ files) t in_order some = split (e.1.time == t)
    (λ is. record { name = e.0; file = e.1; stands = rw (same_name-refl e.0) refl; timed = eqb-true e.1.time t is })
    (λ not.
    let none : one_at e.1.time t ≡ 0 = rw not refl in
    below e files t in_order (has_file files t (sorted_tail (slice_cmp nat_cmp) e.0 (keys_of files) in_order) (omega (arith, some, none, how_many-cons e files t))))

-- what stands at a name after a change of what one name finds
pub changed : (old new : StoredFiles) (k : Name) (w : Option File) → ((q : Name) → lookup (is_at (slice_cmp nat_cmp q)) new ≡ cond (is_at (slice_cmp nat_cmp k) q) w (lookup (is_at (slice_cmp nat_cmp q)) old))
    → (x : Name) → store_of new x ≡ cond (same_name k x) w (store_of old x)
changed old new k w h x = sym (found new x) ∙ h x ∙ (λ i. cond (is_eq-slice_cmp k x i) w (found old x i))

-- a name has a file where it is one of the names of the files
stored : (files : StoredFiles) (x : Name) → is_some (store_of files x) ≡ list_any (same_name x) (keys_of files)
stored [] x = refl
stored (e ∷ files) x = split (same_name x e.0) (λ same. rw same refl) (λ other. rw other (stored files x))

-- a test of names has no direction
flip : (names : List Name) (x : Name) → list_any (same_name x) names ≡ has same_name names x
flip names x = λ i. list_any (λ y. nat_list_eq_equiv.symm x y i) names

-- what holds of each of some names holds of one that stands among them
at_each : (P : Name → Type 0) (names : List Name) (x : Name) → All P names → list_any (same_name x) names ≡ true → P x
at_each P [] x all some = absurd (cc some)
at_each P (y ∷ names) x all some = split (same_name x y)
    (λ same. subst P (sym (same_name-true x y same)) (All-head P y names all))
    (λ other. at_each P names x (All-tail P y names all) (subst (λ (b : Bool). (b || list_any (same_name x) names) ≡ true) other some))

-- a store agrees with a listing where each name that is listed has a file, and each name of a file is listed
abbrev pub Covers : StoredFiles → List Name → Type 0
Covers files names = All (λ name. IsSome (lookup (is_at (slice_cmp nat_cmp name)) files)) names × All (λ name. IsTrue (has same_name names name)) (keys_of files)

pub agrees : (files : StoredFiles) (names : List Name) → Covers files names → AgreesWithListing (has same_name names) (store_of files)
agrees files names h x = both_ways (is_some (store_of files x)) (has same_name names x)
    (λ some. at_each (λ name. IsTrue (has same_name names name)) (keys_of files) x h.1 (sym (stored files x) ∙ some))
    (λ listed. ap is_some (sym (found files x)) ∙ at_each (λ name. IsSome (lookup (is_at (slice_cmp nat_cmp name)) files)) names x h.0 (flip names x ∙ listed))

pub agrees_only : (files : StoredFiles) (names : List Name) → AgreesWithListing (has same_name names) (store_of files) → Covers files names
agrees_only files names h = (
  All-from_any nat_list_eq_equiv (λ name. IsSome (lookup (is_at (slice_cmp nat_cmp name)) files)) names (λ x listed. ap is_some (found files x) ∙ h x ∙ sym (flip names x) ∙ listed),
  All-from_any nat_list_eq_equiv (λ name. IsTrue (has same_name names name)) (keys_of files) (λ x some. sym (h x) ∙ stored files x ∙ some),
)

-- what holds of each holds of one in their midst
at_midst : {X : Type 0} (P : X → Type 0) (front : List X) (x : X) (rest : List X) → AllByRecursion P (front ++ x ∷ rest) → P x
at_midst P [] x rest all = all.0
at_midst P (y ∷ front) x rest all = at_midst P front x rest all.1

keys-append : (front rest : StoredFiles) → keys_of (front ++ rest) ≡ keys_of front ++ keys_of rest
keys-append [] rest = refl
keys-append (e ∷ front) rest = ap (λ names. e.0 ∷ names) (keys-append front rest)

-- a file whose name is after all others goes behind them
pub put_last : (front : StoredFiles) (x : Name) (file : File) (rest : StoredFiles) → IsInOrder (front ++ (x, file) ∷ rest) → with_file front x file ≡ front ++ (x, file) ∷ []
put_last [] x file rest in_order = refl
put_last (e ∷ front) x file rest in_order =
    let names = keys_of (front ++ (x, file) ∷ rest) in
    let later = sorted_head (slice_cmp nat_cmp) e.0 names in_order in
    let less : slice_cmp nat_cmp e.0 x ≡ Less = at_midst (λ y. slice_cmp nat_cmp e.0 y ≡ Less) (keys_of front) x (keys_of rest) (subst (λ (ks : List Name). AllByRecursion (λ y. slice_cmp nat_cmp e.0 y ≡ Less) ks) (keys-append front ((x, file) ∷ rest)) later) in
    let greater : slice_cmp nat_cmp x e.0 ≡ Greater = nat_list_cmp_total.antisymm x e.0 ∙ ap ordering_reverse less in
    rw greater (ap (λ files. e ∷ files) (put_last front x file rest (sorted_tail (slice_cmp nat_cmp) e.0 names in_order)))
