-- The writers that violations are due to, one after another.
use Rattle.std.proofs.Common.{ℕ, ◌≡◌, ◌<◌, ◌+◌, true, false, List, [], ◌∷◌, ◌++◌, Option, Some, None, IfSome, IfNone, unwrap_or, All, Contains, length, length-append, map, get_or, sym, ap, subst, ◌∙◌, inl, inr, arith}
use Rattle.std.proofs.lemmas.Bool.{cases_order}
use Rattle.std.proofs.lemmas.List.{get_or_append_left, get_or-map, length-map}
use Rattle.std.proofs.lemmas.List.Elements.{All-contains, Contains-get_or}
use Rattle.std.proofs.Math.Seq.{get_or-append_seam}
use Rattle.mk_path.specs.declared.path.Path.{Path}
use Rattle.mk_path.specs.Paths.{path_at}
use Rattle.mk_jobs.specs.Jobs.{Before, Jobs}
use Rattle.mk_missing.specs.Files.{IsLastIfAny, writes_file}
use Rattle.mk_missing.specs.Finding.{AreChecked}
use Rattle.mk_missing.specs.Users.{AreUsers, files_of}
use Rattle.mk_missing.specs.Violations.{AreLast, AreLateBy, IsLate, IsLateBy}
use Rattle.mk_missing.specs.declared.users.Users.{Users}

-- the file at a place
pub file_at : (users : List Users) (k : ℕ) (d : Users) → k < length users → path_at (files_of users) k ≡ (get_or users k d).file
file_at users k d below = get_or-map (λ (u : Users). u.file) users k d (record { name = []; tree = false }) below

-- the last writers of all files
pub last_are : (jobs : Jobs) (users : List Users) (last : List (Option ℕ)) → All (AreUsers jobs) users → last ≡ map (λ (u : Users). u.last) users → AreLast jobs (files_of users) last
last_are jobs users last are is = record {
  count = ap length is ∙ length-map users (λ (u : Users). u.last) ∙ sym (length-map users (λ (u : Users). u.file));
  each = λ k below. subst (λ (os : List (Option ℕ)). IsLastIfAny jobs (path_at (files_of users) k) (get_or os k None)) (sym is) (at users k (omega (arith, below, length-map users (λ (u : Users). u.file))) (λ d. are k d));
}
  where
    at : (us : List Users) (k : ℕ) → k < length us → ((d : Users) → k < length us → AreUsers jobs (get_or us k d)) → IsLastIfAny jobs (path_at (files_of us) k) (get_or (map (λ (u : Users). u.last) us) k None)
    at [] k below all = absurd (omega (arith, below))
    at (u ∷ us) k below all =
        subst (λ (p : Path). IsLastIfAny jobs p (get_or (map (λ (x : Users). x.last) (u ∷ us)) k None)) (sym (file_at (u ∷ us) k u below))
        (subst (IsLastIfAny jobs (get_or (u ∷ us) k u).file) (sym (get_or-map (λ (x : Users). x.last) (u ∷ us) k u None below)) (all u below).last)

-- a writer for each of the first pairs
pub record AreLateBelow (jobs : Jobs) (files : List Path) (pairs : List (ℕ × ℕ)) (writers : List ℕ) (end : ℕ) : Type 0 where
  pub count : length writers ≡ end
  pub each : (i : ℕ) → i < end → IsLateBy jobs files (get_or pairs i (0, 0)) (get_or writers i 0)

pub late_none : (jobs : Jobs) (files : List Path) (pairs : List (ℕ × ℕ)) (writers : List ℕ) → writers ≡ [] → AreLateBelow jobs files pairs writers 0
late_none jobs files pairs writers is = record { count = ap length is; each = λ i below. absurd (omega (arith, below)) }

pub late_more : (jobs : Jobs) (files : List Path) (pairs : List (ℕ × ℕ)) (writers new : List ℕ) (i w : ℕ) → AreLateBelow jobs files pairs writers i → IsLateBy jobs files (get_or pairs i (0, 0)) w
    → new ≡ writers ++ w ∷ [] → AreLateBelow jobs files pairs new (i + 1)
late_more jobs files pairs writers new i w are here is = record {
  count = ap length is ∙ length-append writers (w ∷ []) ∙ ap (λ n. n + 1) are.count;
  each = λ j below. elim (cases_order j i) [
    | inl same ↦
        let at : get_or new j 0 ≡ w = ap (λ (ws : List ℕ). get_or ws j 0) is ∙ ap (λ k. get_or (writers ++ w ∷ []) k 0) (same ∙ sym are.count) ∙ get_or-append_seam writers w [] 0 in
        subst (IsLateBy jobs files (get_or pairs j (0, 0))) (sym at) (subst (λ k. IsLateBy jobs files (get_or pairs k (0, 0)) w) (sym same) here)
    | inr (inl less) ↦
        let at : get_or new j 0 ≡ get_or writers j 0 = ap (λ (ws : List ℕ). get_or ws j 0) is ∙ get_or_append_left writers (w ∷ []) 0 j (omega (arith, less, are.count)) in
        subst (IsLateBy jobs files (get_or pairs j (0, 0))) (sym at) (are.each j less)
    | inr (inr more) ↦ absurd (omega (arith, below, more))
  ];
}

pub late_end : (jobs : Jobs) (files : List Path) (pairs : List (ℕ × ℕ)) (writers : List ℕ) (i : ℕ) → i ≡ length pairs → AreLateBelow jobs files pairs writers i → AreLateBy jobs files pairs writers
late_end jobs files pairs writers i whole are = record { count = are.count ∙ whole; each = λ j below. are.each j (omega (arith, below, whole)) }

-- of a late file a writer is found
pub late_found : (jobs : Jobs) (n : ℕ) (users : Users) (found : Option ℕ) → AreUsers jobs users → IsLate jobs n users.file
    → IfSome found (λ m. Contains users.writers.items m × (Before jobs m n → ⊥)) → IfNone found (All (λ m. Before jobs m n) users.writers.items)
    → (writes_file jobs (unwrap_or found n) users.file ≡ true) × (Before jobs (unwrap_or found n) n → ⊥)
late_found jobs n users (Some m) are late some none = ((are.writers m).0 some.0, some.1)
late_found jobs n users None are late some none = absurd (late.late (All-contains (λ m. Before jobs m n) users.writers.items late.writer none ((are.writers late.writer).1 late.writes)))

-- all pairs of a kind, one by one
pub each_pair : (files : List Path) (Holds Fine : ℕ → Path → Type 0) (pairs : List (ℕ × ℕ)) → AreChecked files Holds Fine pairs
    → All (λ (pair : ℕ × ℕ). (pair.0 < length files) × Holds pair.1 (path_at files pair.0)) pairs
each_pair files Holds Fine pairs checked = λ i d at.
    let pair = get_or pairs i d in
    checked.found.only pair.0 pair.1 (Contains-get_or pairs i d at)
