-- Clashes on the paths of rows.
use Rattle.std.proofs.Common.{ℕ, ◌≡◌, ◌≢◌, ◌<◌, ◌++◌, ◌⊎◌, true, List, [], ◌∷◌, inl, inr, length, get_or, sym, ap, ◌∙◌}
use Rattle.std.proofs.lemmas.List.{get_or_default}
use Rattle.std.proofs.lemmas.List.Elements.{Contains-append_left, Contains-append_right, Contains-append_cases}
use Rattle.mk_path.specs.declared.path.Path.{Path}
use Rattle.std.specs.List.Sorted.{IsStrictlySortedBy}
use Rattle.mk_path.specs.Paths.{path_cmp}
use Rattle.mk_path.specs.Texts.{text_of}
use Rattle.mk_jobs.specs.Jobs.{Jobs}
use Rattle.mk_cert.specs.Standing.{IsOnOne, row_of}
use Rattle.mk_cert.specs.Traces.{ClashesOn, clash_over}

-- a text spells a path on which two nodes clash
abbrev pub IsOn : Jobs → ℕ → ℕ → List ℕ → Path → Type 0
IsOn jobs a b text p = (text_of p ≡ text) × (clash_over jobs a b p ≡ true)

-- the path at a place is not one that is passed over
pub none_on : (jobs : Jobs) (a b : ℕ) (paths : List Path) (text : List ℕ) (d : Path)
    → ((k : ℕ) → k < length paths → IsOn jobs a b text (get_or paths k d) → ⊥) → IsOnOne jobs a b paths text → ⊥
none_on jobs a b paths text d none one =
    let same : one.path ≡ get_or paths one.there.0 d = sym one.there.2 ∙ get_or_default paths one.there.0 one.path d one.there.1 in
    none one.there.0 one.there.1 (ap text_of (sym same) ∙ one.spells, ap (clash_over jobs a b) (sym same) ∙ one.clash)

-- one of two rows
pub of_front : (jobs : Jobs) (a b : ℕ) (xs ys : List Path) (text : List ℕ) → IsOnOne jobs a b xs text → IsOnOne jobs a b (xs ++ ys) text
of_front jobs a b xs ys text one = record { path = one.path; there = Contains-append_left xs ys one.path one.there; spells = one.spells; clash = one.clash }

pub of_back : (jobs : Jobs) (a b : ℕ) (xs ys : List Path) (text : List ℕ) → IsOnOne jobs a b ys text → IsOnOne jobs a b (xs ++ ys) text
of_back jobs a b xs ys text one = record { path = one.path; there = Contains-append_right xs ys one.path one.there; spells = one.spells; clash = one.clash }

pub of_either : (jobs : Jobs) (a b : ℕ) (xs ys : List Path) (text : List ℕ) → IsOnOne jobs a b (xs ++ ys) text → IsOnOne jobs a b xs text ⊎ IsOnOne jobs a b ys text
of_either jobs a b xs ys text one = elim (Contains-append_cases xs ys one.path one.there) [
  | inl front ↦ inl (record { path = one.path; there = front; spells = one.spells; clash = one.clash })
  | inr back ↦ inr (record { path = one.path; there = back; spells = one.spells; clash = one.clash })
]

-- the rows of two nodes
pub clash_of : (jobs : Jobs) (a b : ℕ) (text : List ℕ) → a ≢ b → IsOnOne jobs a b (row_of jobs a ++ row_of jobs b) text → ClashesOn jobs a b text
clash_of jobs a b text apart one = record { different = apart; path = one.path; named = one.there; spells = one.spells; clash = one.clash }

pub one_of : (jobs : Jobs) (a b : ℕ) (text : List ℕ) → ClashesOn jobs a b text → IsOnOne jobs a b (row_of jobs a ++ row_of jobs b) text
one_of jobs a b text clash = record { path = clash.path; there = clash.named; spells = clash.spells; clash = clash.clash }

-- one path rises
pub one_rises : (p : Path) → IsStrictlySortedBy path_cmp (p ∷ [])
unfolding IsStrictlySortedBy
one_rises p = (tt, tt)
