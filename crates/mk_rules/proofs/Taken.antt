-- Lists of names that some entries give, as one entry more is read.
use Rattle.std.proofs.Common.{◌≡◌, ℕ, ◌+◌, ◌<◌, Bool, true, false, cond, if◌then◌else◌, ◌||◌, List, [], ◌∷◌, ◌++◌, refl, sym, ◌∙◌, ap, inl, inr, append-nil, length, get_or, take, filter, codes}
use Rattle.std.proofs.lemmas.Bool.{cases_Bool, or_right}
use Rattle.std.proofs.lemmas.List.Concat.{flat_map-append}
use Rattle.std.proofs.lemmas.List.Elements.{All-nil, All-cons, All-head, All-tail, All-append, filter_more, filter-append, filter_passes}
use Rattle.std.proofs.lemmas.List.Folds.{list_any-append}
use Rattle.std.specs.Cmp.Lexicographic.{nat_list_eq_equiv}
use Rattle.std.specs.List.{All, flat_map, list_any}
use Rattle.indexmap.specs.IndexSet.{insert_key}
use Rattle.mk_name.specs.Names.{Name, same_name, has, firsts, kept}
use Rattle.mk_rules.specs.Book.{Entry, behind_last_clear, clears, names_target, suffixes_of}
use Rattle.mk_rules.specs.Special.{is_suffix}
use Rattle.mk_rules.proofs.Firsts.{kept-append, kept-insert, or_none}

-- the names that the first entries give, of those that pass
abbrev pub names_so_far : (Entry → Bool) → (Entry → List Name) → List Entry → ℕ → List Name
names_so_far pass names entries n = firsts same_name (flat_map names (filter pass (take n entries)))

-- a step of a loop over entries of which those that pass give names
module _ (pass : Entry → Bool) (names : Entry → List Name) (entries : List Entry) (i : ℕ) (e : Entry) (within : i < length entries) where
  more : filter pass (take (i + 1) entries) ≡ filter pass (take i entries) ++ cond (pass (get_or entries i e)) (get_or entries i e ∷ []) []
  more = filter_more pass entries i e within

  pub taken : e ≡ get_or entries i e → pass e ≡ true → kept same_name (names_so_far pass names entries i) (names e) ≡ names_so_far pass names entries (i + 1)
  taken at passes =
      let here : filter pass (take (i + 1) entries) ≡ filter pass (take i entries) ++ e ∷ [] =
      more ∙ ap (λ x. filter pass (take i entries) ++ cond (pass x) (x ∷ []) []) (sym at) ∙ ap (λ b. filter pass (take i entries) ++ cond b (e ∷ []) []) passes in
      let all : flat_map names (filter pass (take (i + 1) entries)) ≡ flat_map names (filter pass (take i entries)) ++ names e =
      ap (flat_map names) here ∙ flat_map-append names (filter pass (take i entries)) (e ∷ []) ∙ ap (λ l. flat_map names (filter pass (take i entries)) ++ l) (append-nil (names e)) in
      sym (ap (firsts same_name) all ∙ kept-append same_name nat_list_eq_equiv [] (flat_map names (filter pass (take i entries))) (names e))

  pub passed_over : e ≡ get_or entries i e → pass e ≡ false → names_so_far pass names entries i ≡ names_so_far pass names entries (i + 1)
  passed_over at fails =
      let here : filter pass (take (i + 1) entries) ≡ filter pass (take i entries) =
      more ∙ ap (λ x. filter pass (take i entries) ++ cond (pass x) (x ∷ []) []) (sym at) ∙ ap (λ b. filter pass (take i entries) ++ cond b (e ∷ []) []) fails ∙ append-nil _ in
      sym (ap (λ l. firsts same_name (flat_map names l)) here)

-- the list of suffixes, as one entry more is read
module _ (x : Entry) (xs : List Entry) (e : Entry) (rest : behind_last_clear (xs ++ e ∷ []) ≡ (if clears e then [] else behind_last_clear xs ++ e ∷ [])) where
  any_clears : list_any clears (x ∷ xs ++ e ∷ []) ≡ (list_any clears (x ∷ xs) || clears e)
  any_clears = list_any-append clears (x ∷ xs) (e ∷ []) ∙ ap (λ b. list_any clears (x ∷ xs) || b) (sym (or_none (clears e)))

  cleared : clears e ≡ true → behind_last_clear (x ∷ xs ++ e ∷ []) ≡ []
  cleared t =
      ap (λ b. if b then behind_last_clear (xs ++ e ∷ []) else x ∷ xs ++ e ∷ []) (any_clears ∙ or_right (list_any clears (x ∷ xs)) _ t)
      ∙ rest
      ∙ ap (λ b. if b then [] else behind_last_clear xs ++ e ∷ []) t

  kept_on : clears e ≡ false → behind_last_clear (x ∷ xs ++ e ∷ []) ≡ behind_last_clear (x ∷ xs) ++ e ∷ []
  kept_on f =
      ap (λ b. if b then behind_last_clear (xs ++ e ∷ []) else x ∷ xs ++ e ∷ []) (any_clears ∙ ap (λ b. list_any clears (x ∷ xs) || b) f ∙ sym (or_none (list_any clears (x ∷ xs))))
      ∙ by (list_any clears (x ∷ xs))
    where
      by : (b : Bool) → (if b then behind_last_clear (xs ++ e ∷ []) else x ∷ xs ++ e ∷ []) ≡ (if b then behind_last_clear xs else x ∷ xs) ++ e ∷ []
      by true = rest ∙ ap (λ b. if b then [] else behind_last_clear xs ++ e ∷ []) f
      by false = refl

  push_step : behind_last_clear (x ∷ xs ++ e ∷ []) ≡ (if clears e then [] else behind_last_clear (x ∷ xs) ++ e ∷ [])
  push_step =
      elim (cases_Bool (clears e)) [
        | inl t ↦ cleared t ∙ sym (ap (λ b. if b then [] else behind_last_clear (x ∷ xs) ++ e ∷ []) t)
        | inr f ↦ kept_on f ∙ sym (ap (λ b. if b then [] else behind_last_clear (x ∷ xs) ++ e ∷ []) f)
      ]

behind-push : (es : List Entry) (e : Entry) → behind_last_clear (es ++ e ∷ []) ≡ (if clears e then [] else behind_last_clear es ++ e ∷ [])
behind-push [] e = ap (λ b. if b then [] else e ∷ []) (sym (or_none (clears e)))
behind-push (x ∷ xs) e = push_step x xs e (behind-push xs e)

abbrev names_suffixes : Entry → Bool
names_suffixes = names_target (codes ".SUFFIXES")

-- what the entries that name `.SUFFIXES` make of the list
abbrev listed : List Entry → List Name
listed es = firsts same_name (filter is_suffix (flat_map (λ e. e.prerequisites) (behind_last_clear es)))

listed-push : (es : List Entry) (e : Entry) → listed (es ++ e ∷ []) ≡ (if clears e then [] else kept same_name (listed es) (filter is_suffix e.prerequisites))
listed-push es e = ap (λ l. firsts same_name (filter is_suffix (flat_map (λ x. x.prerequisites) l))) (behind-push es e) ∙ by (clears e)
  where
    by : (b : Bool) → firsts same_name (filter is_suffix (flat_map (λ x. x.prerequisites) (if b then [] else behind_last_clear es ++ e ∷ []))) ≡ (if b then [] else kept same_name (listed es) (filter is_suffix e.prerequisites))
    by true = refl
    by false =
        ap (λ l. firsts same_name (filter is_suffix l)) (flat_map-append (λ x. x.prerequisites) (behind_last_clear es) (e ∷ []) ∙ ap (λ l. flat_map (λ x. x.prerequisites) (behind_last_clear es) ++ l) (append-nil e.prerequisites))
        ∙ ap (firsts same_name) (filter-append is_suffix (flat_map (λ x. x.prerequisites) (behind_last_clear es)) e.prerequisites)
        ∙ kept-append same_name nat_list_eq_equiv [] (filter is_suffix (flat_map (λ x. x.prerequisites) (behind_last_clear es))) (filter is_suffix e.prerequisites)

module _ (entries : List Entry) (i : ℕ) (e : Entry) (within : i < length entries) (at : e ≡ get_or entries i e) where
  more_suffixes : filter names_suffixes (take (i + 1) entries) ≡ filter names_suffixes (take i entries) ++ cond (names_suffixes e) (e ∷ []) []
  more_suffixes = filter_more names_suffixes entries i e within ∙ ap (λ x. filter names_suffixes (take i entries) ++ cond (names_suffixes x) (x ∷ []) []) (sym at)

  pub suffixes_taken : names_suffixes e ≡ true → suffixes_of (take (i + 1) entries) ≡ (if clears e then [] else kept same_name (suffixes_of (take i entries)) (filter is_suffix e.prerequisites))
  suffixes_taken named =
      ap listed (more_suffixes ∙ ap (λ b. filter names_suffixes (take i entries) ++ cond b (e ∷ []) []) named)
      ∙ listed-push (filter names_suffixes (take i entries)) e

  pub suffixes_passed_over : names_suffixes e ≡ false → suffixes_of (take (i + 1) entries) ≡ suffixes_of (take i entries)
  suffixes_passed_over other =
      ap listed (more_suffixes ∙ ap (λ b. filter names_suffixes (take i entries) ++ cond b (e ∷ []) []) other ∙ append-nil _)

-- all names of the list are suffixes
all_kept : (front xs : List Name) → All (λ s. is_suffix s ≡ true) front → All (λ s. is_suffix s ≡ true) xs → All (λ s. is_suffix s ≡ true) (kept same_name front xs)
all_kept front [] f h = f
all_kept front (x ∷ xs) f h = by (has same_name front x) (λ ys g. all_kept ys xs g (All-tail (λ s. is_suffix s ≡ true) x xs h))
  where
    by : (b : Bool) → ((ys : List Name) → All (λ s. is_suffix s ≡ true) ys → All (λ s. is_suffix s ≡ true) (kept same_name ys xs))
        → All (λ s. is_suffix s ≡ true) (kept same_name (if b then front else front ++ x ∷ []) xs)
    by true rest = rest front f
    by false rest = rest (front ++ x ∷ []) (All-append (λ s. is_suffix s ≡ true) front (x ∷ []) f (All-cons (λ s. is_suffix s ≡ true) x [] (All-head (λ s. is_suffix s ≡ true) x xs h) (All-nil (λ s. is_suffix s ≡ true))))

pub all_suffixes : (entries : List Entry) → All (λ s. is_suffix s ≡ true) (suffixes_of entries)
all_suffixes entries =
    let words = flat_map (λ e. e.prerequisites) (behind_last_clear (filter names_suffixes entries)) in
    all_kept [] (filter is_suffix words) (All-nil (λ s. is_suffix s ≡ true)) (filter_passes is_suffix words)

-- a step of a loop over names of which the suffixes are kept
module _ (front names : List Name) (i : ℕ) (name : Name) (within : i < length names) (at : name ≡ get_or names i name) where
  more_names : filter is_suffix (take (i + 1) names) ≡ filter is_suffix (take i names) ++ cond (is_suffix name) (name ∷ []) []
  more_names = filter_more is_suffix names i name within ∙ ap (λ x. filter is_suffix (take i names) ++ cond (is_suffix x) (x ∷ []) []) (sym at)

  pub suffix_added : is_suffix name ≡ true → insert_key same_name (kept same_name front (filter is_suffix (take i names))) name ≡ kept same_name front (filter is_suffix (take (i + 1) names))
  suffix_added is =
      sym
      (ap (kept same_name front) (more_names ∙ ap (λ b. filter is_suffix (take i names) ++ cond b (name ∷ []) []) is)
      ∙ kept-append same_name nat_list_eq_equiv front (filter is_suffix (take i names)) (name ∷ [])
      ∙ kept-insert same_name nat_list_eq_equiv (kept same_name front (filter is_suffix (take i names))) name
      )

  pub no_suffix : is_suffix name ≡ false → kept same_name front (filter is_suffix (take i names)) ≡ kept same_name front (filter is_suffix (take (i + 1) names))
  no_suffix other = sym (ap (kept same_name front) (more_names ∙ ap (λ b. filter is_suffix (take i names) ++ cond b (name ∷ []) []) other ∙ append-nil _))
