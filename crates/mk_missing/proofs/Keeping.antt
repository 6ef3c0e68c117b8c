-- Numbers kept for which something holds, and the readers of a file that are kept.
use Rattle.std.proofs.Common.{ℕ, zero, suc, ◌≡◌, ◌==◌, ◌↔◌, ◌⊎◌, Bool, not, true, false, List, [], ◌∷◌, ◌++◌, length, Contains, arith, sym, ap, refl, subst, inl, inr, ◌∙◌}
use Rattle.std.specs.List.{Any}
use Rattle.std.proofs.lemmas.Bool.{both_ways, cases_Bool, cases_order, eqb-true}
use Rattle.std.proofs.lemmas.List.{nil_from_length}
use Rattle.std.proofs.lemmas.List.Elements.{Contains-append_left, Contains-append_right, Contains-push, Contains-push_cases}
use Rattle.std.proofs.lemmas.List.Folds.{Any-from_list_any, list_any_at}
use Rattle.mk_name.specs.Names.{has}
use Rattle.mk_path.specs.declared.path.Path.{Path}
use Rattle.mk_path.specs.Paths.{same_path}
use Rattle.mk_path.proofs.Numbering.{same_itself, same_path_is}
use Rattle.mk_jobs.specs.Jobs.{Jobs, reads_of}
use Rattle.mk_missing.specs.Users.{IsOnlyReader}

-- those of some numbers for which this holds
abbrev pub AreKept : (ℕ → Type 0) → List ℕ → List ℕ → Type 0
AreKept Holds numbers kept = (n : ℕ) → Contains kept n ↔ (Contains numbers n × Holds n)

pub kept_more : (Holds : ℕ → Type 0) (numbers kept new : List ℕ) (m : ℕ) (wanted : Bool) → AreKept Holds numbers kept → (wanted ≡ true) ↔ Holds m
    → (wanted ≡ true → new ≡ kept ++ m ∷ []) → (wanted ≡ false → new ≡ kept) → AreKept Holds (numbers ++ m ∷ []) new
kept_more Holds numbers kept new m wanted are bit put same n = (
  λ there.
      let old : Contains kept n → Contains (numbers ++ m ∷ []) n × Holds n =
      λ before. let at = (are n).0 before in (Contains-append_left numbers (m ∷ []) n at.0, at.1) in
      elim (cases_Bool wanted) [
        | inr nay ↦ old (subst (λ (ns : List ℕ). Contains ns n) (same nay) there)
        | inl so ↦ elim (Contains-push_cases kept m n (subst (λ (ns : List ℕ). Contains ns n) (put so) there)) [
          | inl before ↦ old before
          | inr here ↦ (subst (Contains (numbers ++ m ∷ [])) here (Contains-push numbers m), subst Holds here (bit.0 so))
        ]
      ],
  λ has.
      let up : Contains kept n → Contains new n = λ before. elim (cases_Bool wanted) [
        | inr nay ↦ subst (λ (ns : List ℕ). Contains ns n) (sym (same nay)) before
        | inl so ↦ subst (λ (ns : List ℕ). Contains ns n) (sym (put so)) (Contains-append_left kept (m ∷ []) n before)
      ] in
      elim (Contains-push_cases numbers m n has.0) [
        | inl before ↦ up ((are n).1 (before, has.1))
        | inr here ↦ subst (λ (ns : List ℕ). Contains ns n) (sym (put (bit.1 (subst Holds (sym here) has.1))))
            (subst (Contains (kept ++ m ∷ [])) here (Contains-push kept m))
      ],
)

-- ---- lists of numbers

pub no_pair : {X : Type 0} (x : X) → Contains [] x → ⊥
no_pair x there = omega (arith, there.1)

-- nothing is in a list only if the list is empty
pub empty_if : {X : Type 0} (xs : List X) → ((x : X) → Contains xs x → ⊥) → xs ≡ []
empty_if [] none = refl
empty_if (x ∷ xs) none = absurd (none x (0, omega arith, refl))

-- a number is in a list, or it is not
pub contains_or : (ns : List ℕ) (n : ℕ) → Contains ns n ⊎ (Contains ns n → ⊥)
contains_or [] n = inr (no_pair n)
contains_or (m ∷ ns) n = elim (contains_or ns n) [
  | inl there ↦ inl (Contains-append_right (m ∷ []) ns n there)
  | inr none ↦ elim (cases_order m n) [
    | inl same ↦ inl (subst (Contains (m ∷ ns)) same (0, omega arith, refl))
    | inr differ ↦ inr (λ there. elim (Contains-push_first m ns n there) [
      | inl same ↦ elim differ [ inl less ↦ omega (arith, less, same) | inr more ↦ omega (arith, more, same) ]
      | inr rest ↦ none rest
    ])
  ]
]
  where
    Contains-push_first : (m : ℕ) (ns : List ℕ) (n : ℕ) → Contains (m ∷ ns) n → (m ≡ n) ⊎ Contains ns n
    Contains-push_first m ns n (zero, less, is) = inl is
    Contains-push_first m ns n (suc k, less, is) = inr (k, omega arith, is)

-- ---- the readers of a file

-- a search finds a path just where it is there
pub named_is : (paths : List Path) (p : Path) → has same_path paths p ≡ true → Contains paths p
named_is paths p found =
    let any : Any (λ q. same_path q p ≡ true) paths = Any-from_list_any (λ q. same_path q p) paths found in
    subst (Contains paths) (same_path_is any.1 p any.4) (any.0, any.2, any.3)

has_named : (paths : List Path) (p : Path) → Contains paths p → has same_path paths p ≡ true
has_named paths p there =
    list_any_at (λ q. same_path q p) paths there.0 p there.1 (ap (λ (q : Path). same_path q p) there.2 ∙ same_itself p)

module _ (jobs : Jobs) (writers : List ℕ) (p : Path) (n : ℕ) where
  -- where nobody writes the file, who reads the file itself
  pub only_named : (named : Bool) → (length writers == 0) ≡ true → named ≡ has same_path (reads_of jobs n) p → (named ≡ true) ↔ IsOnlyReader jobs writers p n
  only_named named empty is =
      let none : length writers ≡ 0 = eqb-true (length writers) 0 empty in (
        λ yes. (λ (among : Contains writers n). omega (arith, among.1, none), λ _. named_is (reads_of jobs n) p (sym is ∙ yes)),
        λ only. is ∙ has_named (reads_of jobs n) p (only.1 (nil_from_length writers none)),
      )

  -- and else who is no writer
  pub only_apart : (among : Bool) → (length writers == 0) ≡ false → (among ≡ true) ↔ Contains writers n → (not among ≡ true) ↔ IsOnlyReader jobs writers p n
  only_apart true some bit = (λ yes. absurd (both_ways false refl yes), λ only. absurd (only.0 (bit.0 refl)))
  only_apart false some bit = (
    λ yes. (
      λ there. both_ways false refl (bit.1 there),
      λ empty. absurd (both_ways (length writers == 0) some (ap (λ (ws : List ℕ). length ws == 0) empty)),
    ),
    λ only. refl,
  )
