-- Names that no rule names as a target.
use Rattle.std.proofs.Common.{◌≡◌, ℕ, suc, ◌+◌, arith, Bool, true, false, cond, List, [], ◌∷◌, length, sym, ◌∙◌, ap, inl, inr, refl}
use Rattle.std.specs.Prelude.{not, nat_eq, map, ◌&&◌, ◌||◌}
use Rattle.std.specs.List.{enumerate_from, filter}
use Rattle.std.proofs.lemmas.Bool.{cases_Bool, false_from_ne_true}
use Rattle.mk_name.specs.Names.{Name, has, same_name}
use Rattle.mk_name.proofs.Names.{nat_is_exact}
use Rattle.mk_rules.specs.Book.{Book, Entry, is_phony, is_target, names_target, places_of}
use Rattle.mk_graph.specs.Looked.{Looked, looked_of}
use Rattle.mk_graph.specs.Makers.{is_unknown}

some_there : (n : ℕ) → nat_eq (suc n) 0 ≡ false
some_there n = false_from_ne_true _ (λ h. let e : suc n ≡ 0 = nat_is_exact.equal (suc n) 0 h in absurd (omega (arith, e)))

none_from : (rules : List Entry) (n : ℕ) (t : Name) → nat_eq (length (map (λ (e : ℕ × Entry). e.0) (filter (λ e. names_target t e.1) (enumerate_from n rules)))) 0 ≡ not (is_target rules t)
none_from [] n t = refl
none_from (e ∷ es) n t =
    elim (cases_Bool (names_target t e)) [
      | inl named ↦
          ap (λ b. nat_eq (length (map (λ (x : ℕ × Entry). x.0) (cond b ((n, e) ∷ filter (λ x. names_target t x.1) (enumerate_from (n + 1) es)) (filter (λ x. names_target t x.1) (enumerate_from (n + 1) es))))) 0) named
          ∙ some_there _
          ∙ sym (ap (λ b. not (b || is_target es t)) named)
      | inr other ↦
          ap (λ b. nat_eq (length (map (λ (x : ℕ × Entry). x.0) (cond b ((n, e) ∷ filter (λ x. names_target t x.1) (enumerate_from (n + 1) es)) (filter (λ x. names_target t x.1) (enumerate_from (n + 1) es))))) 0) other
          ∙ none_from es (n + 1) t ∙ sym (ap (λ b. not (b || is_target es t)) other)
    ]

-- a name is no target where it has no places
pub no_places : (rules : List Entry) (t : Name) → nat_eq (length (places_of rules t)) 0 ≡ not (is_target rules t)
no_places rules t = none_from rules 0 t

and_three : (a b c : Bool) → ((a && b) && c) ≡ (a && b && c)
and_three true b c = refl
and_three false b c = refl

-- a name is unknown by what was looked up of it
pub unknown_by : (book : Book) (listing : List Name) (t : Name) (looked : Looked) → looked ≡ looked_of book listing t → ((not looked.phony && nat_eq (length looked.rules) 0) && not looked.listed) ≡ is_unknown book listing t
unknown_by book listing t looked is =
    ap (λ (l : Looked). (not l.phony && nat_eq (length l.rules) 0) && not l.listed) is
    ∙ ap (λ b. (not (is_phony book t) && b) && not (has same_name listing t)) (no_places book.rules t)
    ∙ and_three (not (is_phony book t)) (not (is_target book.rules t)) (not (has same_name listing t))
