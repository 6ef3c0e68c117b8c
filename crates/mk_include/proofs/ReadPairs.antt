-- The pairs of a list of texts, read one after another.
use Rattle.std.proofs.Common.{◌≡◌, ℕ, ◌+◌, ◌<◌, ◌≤◌, Bool, true, false, cond, not, if◌then◌else◌, List, [], ◌∷◌, ◌++◌, Option, None, Some, Result, Ok, Err, refl, sym, ◌∙◌, ap, length, get_or, map, take, drop}
use Rattle.std.proofs.lemmas.List.{drop_all, drop_more, map-append, take_all, take_more}
use Rattle.std.proofs.lemmas.Iterator.Adapters.{position_from-zero}
use Rattle.std.specs.List.{position, position_from}
use Rattle.std.specs.Option.{option_map_or}
use Rattle.mk_name.specs.Gives.{Halts, halt_at}
use Rattle.mk_name.specs.Names.{Name}
use Rattle.mk_name.specs.Reported.{Reported}
use Rattle.mk_name.specs.declared.fault.Halt.{Halt}
use Rattle.mk_name.specs.declared.fault.Halt.TheVariants as halts
use Rattle.mk_name.specs.declared.fault.Source.TheVariants as sources
use Rattle.mk_lines.specs.LogicalLines.{logical_lines}
use Rattle.mk_text.specs.Spelling.{bad_name, is_path, path_name, plain_name}
use Rattle.mk_include.specs.Includes.{Cut, Named, includes_of, is_bad, named_pair, texts_of}
use Rattle.mk_include.proofs.TextTable.{texts_more}

-- a path that spells a name, and one that spells none
spells : (b : Bool) (name out : List ℕ) (bad : Reported) → (if b then Ok name else Err bad) ≡ Ok out → (b ≡ true) × (out ≡ name)
spells true name out bad h = (refl, (cc))
spells false name out bad h = absurd cc

spells_none : (b : Bool) (name : List ℕ) (bad problem : Reported) → (if b then Ok name else Err bad) ≡ Err problem → (b ≡ false) × (problem ≡ bad)
spells_none true name bad problem h = absurd cc
spells_none false name bad problem h = (refl, (cc))

passed : (b : Bool) {X : Type 0} (x y : X) → b ≡ true → cond (not b) x y ≡ y
passed true x y h = refl
passed false x y h = absurd cc

refused : (b : Bool) {X : Type 0} (x y : X) → b ≡ false → cond (not b) x y ≡ x
refused true x y h = absurd cc
refused false x y h = refl

module _ (root : List ℕ) {V : Type 0} (pair : V → List ℕ × List ℕ) (xs : List V) where
  place : position is_bad (map pair xs) ≡ position_from is_bad 0 (map pair xs)
  place = position_from-zero is_bad (map pair xs)

  -- the answer where the first bad pair is known
  abbrev answer_by : Option ℕ → Result (Name → Option Cut) Reported
  answer_by first = option_map_or (λ n. Err (record (bad_name sources.Includes []) { place = n + 1 })) first (Ok (texts_of (map (named_pair root) (map pair xs))))

  module _ (i : ℕ) (d : V) (within : i < length xs) (before : position_from is_bad 0 (map pair xs) ≡ position_from is_bad i (map pair (drop i xs))) where
    parted : position_from is_bad 0 (map pair xs) ≡ cond (is_bad (pair (get_or xs i d))) (Some i) (position_from is_bad (i + 1) (map pair (drop (i + 1) xs)))
    parted = before ∙ ap (λ l. position_from is_bad i (map pair l)) (drop_more xs i d within)

    module _ (name : Name) (spelled : path_name root (pair (get_or xs i d)).0 ≡ Ok name) where
      spelled_is : (is_path (pair (get_or xs i d)).0 ≡ true) × (name ≡ plain_name root (pair (get_or xs i d)).0)
      spelled_is = spells (is_path (pair (get_or xs i d)).0) (plain_name root (pair (get_or xs i d)).0) name _ spelled

      pub good_more : position_from is_bad 0 (map pair xs) ≡ position_from is_bad (i + 1) (map pair (drop (i + 1) xs))
      good_more = parted ∙ passed (is_path (pair (get_or xs i d)).0) (Some i) (position_from is_bad (i + 1) (map pair (drop (i + 1) xs))) spelled_is.0

      pub texts_here : (old new : Named) → texts_of old ≡ texts_of (map (named_pair root) (map pair (take i xs)))
          → texts_of new ≡ texts_of (old ++ (name, logical_lines (pair (get_or xs i d)).1) ∷ [])
          → texts_of new ≡ texts_of (map (named_pair root) (map pair (take (i + 1) xs)))
      texts_here old new so_far added =
          added
          ∙ texts_more old (map (named_pair root) (map pair (take i xs))) name (logical_lines (pair (get_or xs i d)).1) so_far
          ∙ ap (λ (n : Name). texts_of (map (named_pair root) (map pair (take i xs)) ++ (n, logical_lines (pair (get_or xs i d)).1) ∷ [])) spelled_is.1
          ∙ sym (ap (λ l. texts_of (map (named_pair root) (map pair l))) (take_more xs i d within)
          ∙ ap (λ l. texts_of (map (named_pair root) l)) (map-append pair (take i xs) (get_or xs i d ∷ []))
          ∙ ap texts_of (map-append (named_pair root) (map pair (take i xs)) (pair (get_or xs i d) ∷ [])))

    pub bad_here : (halt : Halt) → Halts halt (path_name root (pair (get_or xs i d)).0) → Halts (halt_at sources.Includes (i + 1) halt) (includes_of root (map pair xs))
    bad_here halts.Memory h = tt
    bad_here (halts.Fault problem) h =
        let none = spells_none (is_path (pair (get_or xs i d)).0) (plain_name root (pair (get_or xs i d)).0) (bad_name sources.Makefile []) problem h in
        ap answer_by (place ∙ parted ∙ refused (is_path (pair (get_or xs i d)).0) (Some i) (position_from is_bad (i + 1) (map pair (drop (i + 1) xs))) none.0)
        ∙ ap (λ (reported : Reported). Err (record reported { source = sources.Includes; place = i + 1 })) (sym none.1)

  pub all_read : (i : ℕ) (texts : Named) → length xs ≤ i → position_from is_bad 0 (map pair xs) ≡ position_from is_bad i (map pair (drop i xs))
      → texts_of texts ≡ texts_of (map (named_pair root) (map pair (take i xs))) → includes_of root (map pair xs) ≡ Ok (texts_of texts)
  all_read i texts long before so_far =
      ap answer_by (place ∙ before ∙ ap (λ l. position_from is_bad i (map pair l)) (drop_all i xs long))
      ∙ ap Ok (sym (so_far ∙ ap (λ l. texts_of (map (named_pair root) (map pair l))) (take_all i xs long)))
