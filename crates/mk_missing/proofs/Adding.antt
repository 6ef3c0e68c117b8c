-- Pairs of one file more, added node by node.
use Rattle.std.proofs.Common.{ℕ, ◌≡◌, ◌<◌, ◌+◌, ◌⊎◌, ◌↔◌, Bool, true, false, List, [], ◌∷◌, ◌++◌, length, Contains, sym, subst, inl, inr, arith}
use Rattle.std.proofs.lemmas.Bool.{cases_Bool, cases_order}
use Rattle.std.proofs.lemmas.List.Elements.{Contains-append_left, Contains-push, Contains-push_cases}
use Rattle.mk_path.specs.declared.path.Path.{Path}
use Rattle.mk_path.specs.Paths.{path_at}
use Rattle.mk_decide.specs.Pairs.{PairsRise}
use Rattle.mk_missing.specs.Finding.{AreChecked, AreFound}

module _ (files : List Path) (Holds Fine : ℕ → Path → Type 0) (old : List (ℕ × ℕ)) (k : ℕ) where
  -- what was found before, and of the file at this place the pairs of these nodes
  pub record Adding (nodes : List ℕ) (pairs : List (ℕ × ℕ)) : Type 0 where
    pub only : (j n : ℕ) → Contains pairs (j, n) → (j < k + 1) × Holds n (path_at files j)
    pub kept : (j n : ℕ) → Contains old (j, n) → Contains pairs (j, n)
    pub here : (n : ℕ) → Contains nodes n → Contains pairs (k, n) ⊎ Fine n (path_at files k)

  pub adding_none : AreFound files Holds Fine old k → Adding [] old
  adding_none found = record {
    only = λ j n there. let was = found.only j n there in (omega (arith, was.0), was.1);
    kept = λ j n there. there;
    here = λ n there. absurd (omega (arith, there.1));
  }

  -- one node more, with a pair or without
  pub adding_more : (nodes : List ℕ) (n : ℕ) (pairs new : List (ℕ × ℕ)) (fine : Bool) → Adding nodes pairs
      → (fine ≡ true → Fine n (path_at files k)) → (fine ≡ false → Holds n (path_at files k))
      → (fine ≡ true → new ≡ pairs) → (fine ≡ false → new ≡ pairs ++ (k, n) ∷ []) → Adding (nodes ++ n ∷ []) new
  adding_more nodes n pairs new fine adding good bad same put = elim (cases_Bool fine) [
    | inl so ↦ subst (Adding (nodes ++ n ∷ [])) (sym (same so)) (record {
      only = adding.only;
      kept = adding.kept;
      here = λ m there. elim (Contains-push_cases nodes n m there) [
        | inl before ↦ adding.here m before
        | inr last ↦ inr (subst (λ x. Fine x (path_at files k)) last (good so))
      ];
    })
    | inr nay ↦ subst (Adding (nodes ++ n ∷ [])) (sym (put nay)) (record {
      only = λ j m there. elim (Contains-push_cases pairs (k, n) (j, m) there) [
        | inl before ↦ adding.only j m before
        | inr last ↦ subst (λ (p : ℕ × ℕ). (p.0 < k + 1) × Holds p.1 (path_at files p.0)) last (omega arith, bad nay)
      ];
      kept = λ j m there. Contains-append_left pairs ((k, n) ∷ []) (j, m) (adding.kept j m there);
      here = λ m there. elim (Contains-push_cases nodes n m there) [
        | inl before ↦ elim (adding.here m before) [
          | inl found ↦ inl (Contains-append_left pairs ((k, n) ∷ []) (k, m) found)
          | inr good ↦ inr good
        ]
        | inr last ↦ inl (subst (λ x. Contains (pairs ++ (k, n) ∷ []) (k, x)) last (Contains-push pairs (k, n)))
      ];
    })
  ]

  -- the file is done: of other nodes nothing holds
  pub added : (nodes : List ℕ) (pairs : List (ℕ × ℕ)) → AreFound files Holds Fine old k → Adding nodes pairs
      → ((n : ℕ) → Contains nodes n ⊎ Fine n (path_at files k)) → AreFound files Holds Fine pairs (k + 1)
  added nodes pairs found adding others = record {
    only = adding.only;
    all = λ j n below. elim (cases_order j k) [
      | inl same ↦ subst (λ i. Contains pairs (i, n) ⊎ Fine n (path_at files i)) (sym same) (elim (others n) [
        | inl there ↦ adding.here n there
        | inr good ↦ inr good
      ])
      | inr (inl less) ↦ elim (found.all j n less) [
        | inl there ↦ inl (adding.kept j n there)
        | inr good ↦ inr good
      ]
      | inr (inr more) ↦ absurd (omega (arith, below, more))
    ];
  }

-- nothing is found of no file
pub found_none : (files : List Path) (Holds Fine : ℕ → Path → Type 0) → AreFound files Holds Fine [] 0
found_none files Holds Fine = record { only = λ k n there. absurd (omega (arith, there.1)); all = λ k n below. absurd (omega (arith, below)) }

-- the same pairs in order
pub found_in_order : (files : List Path) (Holds Fine : ℕ → Path → Type 0) (pairs new : List (ℕ × ℕ)) (end : ℕ) → AreFound files Holds Fine pairs end → end ≡ length files → PairsRise new
    → ((k n : ℕ) → Contains new (k, n) ↔ Contains pairs (k, n)) → AreChecked files Holds Fine new
found_in_order files Holds Fine pairs new end found whole rise same = record {
  rise = rise;
  found = subst (AreFound files Holds Fine new) whole (record {
    only = λ k n there. found.only k n ((same k n).0 there);
    all = λ k n below. elim (found.all k n below) [ inl there ↦ inl ((same k n).1 there) | inr fine ↦ inr fine ];
  });
}
