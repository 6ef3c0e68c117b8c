-- The lines of a listing, one by one.
use Rattle.std.proofs.Common.{◌≡◌, ℕ, ◌+◌, ◌-◌, ◌^◌, ◌<◌, ◌≤◌, ◌==◌, ◌&&◌, Bool, true, false, List, [], ◌∷◌, ◌++◌, Ok, Err, Result, length, take, refl, sym, ap, ◌∙◌, inl, inr, arith, append_assoc, ne_eqb}
use Rattle.std.specs.Prelude.{fold, min, nat_le, nat_lt}
use Rattle.std.specs.BTreeSet.{insert_key}
use Rattle.std.specs.Cmp.Lexicographic.{slice_cmp}
use Rattle.std.specs.Ordering.{nat_cmp}
use Rattle.std.proofs.lemmas.Bool.{cases_Bool, cases_lt, cond-true, cond-false, lt-leb}
use Rattle.std.proofs.lemmas.List.{append-nil, length-take, take_all}
use Rattle.std.proofs.lemmas.List.Sums.{fold-append}
use Rattle.mk_name.specs.Reported.{Reported}
use Rattle.mk_name.specs.declared.fault.Kind.TheVariants.{BadName}
use Rattle.mk_name.specs.declared.fault.Source.TheVariants as sources
use Rattle.mk_text.specs.LineFeed.{ComesBehind, fault_at, place_behind}
use Rattle.mk_text.specs.Listing.{at_line, both, line_names, names_from, next_place, with_names}
use Rattle.mk_text.specs.ListReader.{HasListed, Listed, kept_length, listed}
use Rattle.mk_text.specs.Spelling.{is_line, is_path, path_length}

-- the fault of a line that is no path
abbrev bad_line : ℕ → Reported
bad_line place = fault_at sources.Listing BadName place

-- ---- names

both_nil : (a : Result (List (List ℕ)) Reported) → both a (Ok []) ≡ a
both_nil (Ok names) = ap Ok (append-nil names)
both_nil (Err reported) = refl

nil_both : (a : Result (List (List ℕ)) Reported) → a ≡ both (Ok []) a
nil_both (Ok names) = refl
nil_both (Err reported) = refl

both_more : (a b c : Result (List (List ℕ)) Reported) → both a (both b c) ≡ both (both a b) c
both_more (Err reported) b c = refl
both_more (Ok xs) (Err reported) c = refl
both_more (Ok xs) (Ok ys) (Err reported) = refl
both_more (Ok xs) (Ok ys) (Ok zs) = ap Ok (sym (append_assoc xs ys zs))

-- the place behind some lines, of which the first is at this place
abbrev place_after : ℕ → List (List ℕ) → ℕ
place_after place [] = place
place_after place (line ∷ more) = place_after (next_place place) more

places : (place : ℕ) (lines : List (List ℕ)) → place ≤ 2 ^ 64 - 1 → place_after place lines ≡ min (place + length lines) (2 ^ 64 - 1)
places place [] le = omega (arith, le)
places place (line ∷ lines) le = places (next_place place) lines (omega arith) ∙ omega (arith, le)

-- the names of some lines and of more behind them
names_more : (root : List ℕ) (place : ℕ) (lines more : List (List ℕ))
    → names_from root place (lines ++ more) ≡ both (names_from root place lines) (names_from root (place_after place lines) more)
names_more root place [] more = nil_both (names_from root place more)
names_more root place (first ∷ lines) more =
    ap (both (line_names root place first)) (names_more root (next_place place) lines more)
    ∙ both_more (line_names root place first) (names_from root (next_place place) lines) (names_from root (place_after (next_place place) lines) more)

with_more : (names more : List (List ℕ)) (b : Result (List (List ℕ)) Reported) → with_names names (both (Ok more) b) ≡ with_names (fold (insert_key (slice_cmp nat_cmp)) names more) b
with_more names more (Err reported) = refl
with_more names more (Ok others) = ap Ok (fold-append (insert_key (slice_cmp nat_cmp)) names more others)

good_both : (a b : Result (List (List ℕ)) Reported) (names : List (List ℕ)) → with_names [] a ≡ Ok names → with_names [] (both a b) ≡ with_names names b
good_both (Err reported) b names is = absurd (let f : ◌≡◌ {A = Result (List (List ℕ)) Reported} (Err reported) (Ok names) = is in cc)
good_both (Ok more) b names is =
    let same : fold (insert_key (slice_cmp nat_cmp)) [] more ≡ names =
    (let f : ◌≡◌ {A = Result (List (List ℕ)) Reported} (Ok (fold (insert_key (slice_cmp nat_cmp)) [] more)) (Ok names) = is in cc) in
    with_more [] more b ∙ ap (λ ns. with_names ns b) same

-- lines that are listed, and more behind them
listed_more : (root : List ℕ) (ended more : List (List ℕ)) (names : List (List ℕ)) → listed root ended ≡ Ok names
    → listed root (ended ++ more) ≡ with_names names (names_from root (place_behind ended) more)
listed_more root ended more names is =
    ap (with_names []) (names_more root 1 ended more)
    ∙ good_both (names_from root 1 ended) (names_from root (place_after 1 ended) more) names is
    ∙ ap (λ p. with_names names (names_from root p more)) (places 1 ended (omega arith) ∙ omega arith)

-- ---- the beginning that is kept of a line

none_left : (a b : Bool) → (a && false) && b ≡ false
none_left true b = refl
none_left false b = refl

le_none : (n m : ℕ) → m < n → nat_le n m ≡ false
le_none n m more = lt-leb n m more

no_path : (text : List ℕ) → kept_length < length text → is_path text ≡ false
no_path text long =
    ap (λ b. (nat_lt 0 (length text) && b) && is_line text) (le_none (length text) path_length (omega (arith, long)))
    ∙ none_left (nat_lt 0 (length text)) (is_line text)

-- a text of more bytes than a path has is none, and so is its beginning of one byte more
cut_same : (text : List ℕ) → kept_length < length text → is_path (take kept_length text) ≡ is_path text
cut_same text long =
    let whole : (nat_le (length text) path_length) ≡ false = le_none (length text) path_length (omega (arith, long)) in
    let begun : (nat_le (length (take kept_length text)) path_length) ≡ false = le_none (length (take kept_length text)) path_length (omega (arith, long, length-take kept_length text)) in
    ap (λ b. (nat_lt 0 (length (take kept_length text)) && b) && is_line (take kept_length text)) begun
    ∙ none_left (nat_lt 0 (length (take kept_length text))) (is_line (take kept_length text))
    ∙ sym (none_left (nat_lt 0 (length text)) (is_line text))
    ∙ ap (λ b. (nat_lt 0 (length text) && b) && is_line text) (sym whole)

pub cut_line : (root : List ℕ) (place : ℕ) (line : List ℕ) → line_names root place (take kept_length line) ≡ line_names root place line
cut_line root place line =
    elim (cases_lt kept_length (length line)) [
      | inr short ↦ ap (line_names root place) (take_all kept_length line short)
      | inl long ↦
          let begun = take kept_length line in
          let some : (length line == 0) ≡ false = ne_eqb (length line) 0 (λ e. omega (arith, long, e)) in
          let some_kept : (length begun == 0) ≡ false = ne_eqb (length begun) 0 (λ e. omega (arith, long, e, length-take kept_length line)) in
          let bad : is_path line ≡ false = no_path line long in
          let bad_kept : is_path begun ≡ false = cut_same line long ∙ bad in
          cond-false (length begun == 0) _ _ some_kept ∙ ap (at_line place) (cond-false (is_path begun) _ _ bad_kept)
          ∙ sym (cond-false (length line == 0) _ _ some ∙ ap (at_line place) (cond-false (is_path line) _ _ bad))
    ]

-- a line that is no path has one fault
line_bad : (root : List ℕ) (place : ℕ) (line : List ℕ) (reported : Reported) → line_names root place line ≡ Err reported → reported ≡ bad_line place
line_bad root place line reported is =
    elim (cases_Bool (length line == 0)) [
      | inl none ↦ absurd (let f : ◌≡◌ {A = Result (List (List ℕ)) Reported} (Ok []) (Err reported) = sym (cond-true (length line == 0) (Ok []) _ none) ∙ is in cc)
      | inr some ↦ elim (cases_Bool (is_path line)) [
        | inl path ↦ absurd (let f : ◌≡◌ {A = Result (List (List ℕ)) Reported} (Ok _) (Err reported) =
            sym (cond-false (length line == 0) _ _ some ∙ ap (at_line place) (cond-true (is_path line) _ _ path)) ∙ is in cc)
        | inr other ↦ (let f : ◌≡◌ {A = Result (List (List ℕ)) Reported} (Err (bad_line place)) (Err reported) =
            sym (cond-false (length line == 0) _ _ some ∙ ap (at_line place) (cond-false (is_path line) _ _ other)) ∙ is in cc)
      ]
    ]

-- a line says what its first bytes say
said : (root : List ℕ) (place : ℕ) (line whole : List ℕ) → take kept_length line ≡ take kept_length whole → line_names root place line ≡ line_names root place whole
said root place line whole same = sym (cut_line root place line) ∙ ap (line_names root place) same ∙ cut_line root place whole

module _ (root : List ℕ) (ended : List (List ℕ)) (whole line : List ℕ) (place : ℕ) (sink : Listed) (before : HasListed root sink ended) (next : ComesBehind kept_length ended whole line place) where
  here : line_names sink.root place line ≡ line_names root (place_behind ended) whole
  here =
      ap (λ r. line_names r place line) before.root_is
      ∙ ap (λ p. line_names root p line) next.place_is
      ∙ said root (place_behind ended) line whole next.begins

  -- a line adds its names
  pub lists_more : (new : Listed) → with_names sink.names (line_names sink.root place line) ≡ Ok new.names → new.root ≡ sink.root → HasListed root new (ended ++ whole ∷ [])
  lists_more new names root_is = record {
    root_is = root_is ∙ before.root_is;
    names =
        listed_more root ended (whole ∷ []) sink.names before.names
        ∙ ap (with_names sink.names) (both_nil (line_names root (place_behind ended) whole) ∙ sym here) ∙ names;
  }

  -- the fault of a line is the first
  pub lists_none : (reported : Reported) → line_names sink.root place line ≡ Err reported → (more : List (List ℕ)) → listed root ((ended ++ whole ∷ []) ++ more) ≡ Err (bad_line place)
  lists_none reported bad more =
      ap (listed root) (append_assoc ended (whole ∷ []) more)
      ∙ listed_more root ended (whole ∷ more) sink.names before.names
      ∙ ap (λ (r : Result (List (List ℕ)) Reported). with_names sink.names (both r (names_from root (next_place (place_behind ended)) more)))
      (sym here ∙ bad ∙ ap Err (line_bad sink.root place line reported bad))
