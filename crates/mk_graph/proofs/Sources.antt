-- The source of a name by the places of suffixes.
use Rattle.std.proofs.Common.{◌≡◌, ℕ, zero, suc, ◌<◌, arith, get_or, Bool, true, false, List, [], ◌∷◌, ◌++◌, length, take, sym, ◌∙◌, ap, subst, refl, inl, inr, find, is_some, Option, Some, None}
use Rattle.std.specs.Prelude.{◌-◌}
use Rattle.std.specs.Option.{option_map}
use Rattle.std.specs.BTreeMap.{is_at}
use Rattle.std.specs.Cmp.Lexicographic.{slice_cmp}
use Rattle.std.specs.Map.{lookup}
use Rattle.std.specs.Ordering.{nat_cmp}
use Rattle.std.proofs.lemmas.Bool.{cases_Bool, cond-false, cond-true}
use Rattle.std.proofs.lemmas.List.{append-nil}
use Rattle.mk_name.specs.Names.{Name, same_name, has}
use Rattle.mk_rules.specs.Book.{Book, has_recipe, is_phony}
use Rattle.mk_jobs.specs.Numbered.{name_at}
use Rattle.mk_graph.specs.Makers.{inferred_source, old_suffix, source_of, with_suffix}
use Rattle.mk_graph.specs.Places.{AreRulePlaces, IsLeastSuffix, IsOld, Table, place_of}
use Rattle.mk_graph.specs.Suffix.{suffix_of}
use Rattle.mk_graph.proofs.Placing.{find_least, has_place, place_is}
use Rattle.mk_graph.proofs.Tables.{least_no_rule, serves}

-- a suffix that has a place is the old one
pub old_is : (book : Book) (t s : Name) → s ≡ suffix_of t → is_some (place_of book.suffixes s) ≡ true → s ≡ old_suffix book t
old_is book t s is some = is ∙ sym (cond-true (has same_name book.suffixes (suffix_of t)) (suffix_of t) [] (ap (has same_name book.suffixes) (sym is) ∙ sym (has_place book.suffixes s) ∙ some))

pub old_known : (book : Book) (s : Name) → is_some (place_of book.suffixes s) ≡ true → IsOld book.suffixes s
old_known book s some = inr (sym (has_place book.suffixes s) ∙ some)

-- one that has none leaves no suffix
pub old_none : (book : Book) (t s : Name) → s ≡ suffix_of t → is_some (place_of book.suffixes s) ≡ false → [] ≡ old_suffix book t
old_none book t s is none = sym (cond-false (has same_name book.suffixes (suffix_of t)) (suffix_of t) [] (ap (has same_name book.suffixes) (sym is) ∙ sym (has_place book.suffixes s) ∙ none))

-- the name with the suffix at a place
abbrev pub source_at : Book → Name → Name → ℕ → Name
source_at book t old place = take (length t - length old) t ++ name_at book.suffixes place

-- the source of a name is the one with the first suffix that serves
pub source_is : (book : Book) (listing : List Name) (t stem old : Name) (found : Option ℕ) → is_phony book t ≡ false → old ≡ old_suffix book t → stem ≡ take (length t - length old) t ++ []
    → IsLeastSuffix book.suffixes (serves book listing stem old) found → option_map (source_at book t old) found ≡ source_of book listing t
source_is book listing t stem old found phony is cut least =
    sym (cond-false (is_phony book t) None _ phony
    ∙ ap (λ o. option_map (with_suffix t o) (find (serves book listing (take (length t - length o) t) o) book.suffixes)) (sym is)
    ∙ ap (λ s. option_map (with_suffix t old) (find (serves book listing s old) book.suffixes)) (sym (cut ∙ append-nil (take (length t - length old) t)))
    ∙ ap (option_map (with_suffix t old)) (find_least book.suffixes (serves book listing stem old) found least)
    ∙ both found)
  where
    both : (o : Option ℕ) → option_map (with_suffix t old) (option_map (name_at book.suffixes) o) ≡ option_map (source_at book t old) o
    both None = refl
    both (Some p) = refl

-- a suffix that was read at a place that was found
pub suffix_read : (suffixes : List Name) (test : Name → Bool) (found : Option ℕ) (place : ℕ) (s : Name) → IsLeastSuffix suffixes test found → found ≡ Some place → s ≡ get_or suffixes place s → s ≡ name_at suffixes place
suffix_read suffixes test found place s least is read =
    let h = subst (λ (o : Option ℕ). IsLeastSuffix suffixes test o) is least in
    at suffixes place (place_is suffixes h.0 place h.1).0 read
  where
    at : (xs : List Name) (n : ℕ) → n < length xs → s ≡ get_or xs n s → s ≡ name_at xs n
    at [] n l e = absurd (omega (arith, l))
    at (x ∷ xs) zero l e = e
    at (x ∷ xs) (suc n) l e = at xs n (omega (arith, l)) e

old_kind : (book : Book) (t : Name) → IsOld book.suffixes (old_suffix book t)
old_kind book t =
    elim (cases_Bool (has same_name book.suffixes (suffix_of t))) [
      | inl y ↦ subst (λ (s : Name). IsOld book.suffixes s) (sym (cond-true _ (suffix_of t) [] y)) (inr y)
      | inr n ↦ subst (λ (s : Name). IsOld book.suffixes s) (sym (cond-false _ (suffix_of t) [] n)) (inl refl)
    ]

empty_is : {A : Type 0} (xs : List A) → length xs ≡ 0 → xs ≡ []
empty_is [] h = refl
empty_is (x ∷ xs) h = absurd (omega (arith, h))

-- without inference rules no name has a source
pub no_rules : (book : Book) (listing : List Name) (rules : Table) (t : Name) → AreRulePlaces book.suffixes book.inference rules → length rules.entries ≡ 0 → None ≡ inferred_source book listing t
no_rules book listing rules t are e =
    elim (cases_Bool (has_recipe book.rules t)) [
      | inl y ↦ sym (cond-true _ None _ y)
      | inr n ↦ none ∙ sym (cond-false _ None _ n)
    ]
  where
    old : Name
    old = old_suffix book t

    stem : Name
    stem = take (length t - length old) t ++ []

    none : None ≡ source_of book listing t
    none =
        elim (cases_Bool (is_phony book t)) [
          | inl y ↦ sym (cond-true _ None _ y)
          | inr n ↦ source_is book listing t stem old None n refl refl (least_no_rule book listing rules stem old are (old_kind book t) (ap (λ es. lookup (is_at (slice_cmp nat_cmp old)) es) (empty_is rules.entries e)))
        ]
