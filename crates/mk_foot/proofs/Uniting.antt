-- Footprints with the lines of a target united.
use Rattle.std.proofs.Common.{◌≡◌, true, false, cond, List, [], ◌∷◌, ◌++◌, None, Some, sym, ap, ◌∙◌, refl, inl, inr}
use Rattle.std.specs.Prelude.{fold, unwrap_or}
use Rattle.std.specs.List.{flat_map}
use Rattle.std.specs.BTreeSet.{insert_key}
use Rattle.std.specs.Cmp.Lexicographic.{slice_cmp, texts_ties}
use Rattle.std.specs.Ordering.{is_eq, nat_cmp}
use Rattle.std.proofs.lemmas.Bool.{cases_Bool, cond-true, cond-false}
use Rattle.std.proofs.lemmas.List.{append-nil}
use Rattle.std.proofs.lemmas.List.Elements.{filter-append}
use Rattle.std.proofs.lemmas.List.Sums.{fold-append}
use Rattle.std.proofs.lemmas.Grind.{flat_map-append}
use Rattle.mk_name.specs.Names.{Name, same_name}
use Rattle.mk_name.proofs.Names.{name_is_exact}
use Rattle.mk_path.specs.Paths.{path_cmp}
use Rattle.mk_path.specs.declared.path.Path.{Path}
use Rattle.mk_foot.specs.Lines.{FootprintLine}
use Rattle.mk_foot.specs.Footprints.{ByTarget, Footprint, footprint_in, footprint_on, in_order, HasTargetsInOrder, lines_on, no_footprint, together, union_of, Unites}

-- paths put among those that are there
abbrev pub with_more : List Path → List Path → List Path
with_more paths more = fold (insert_key path_cmp) paths more

union_more : (f : FootprintLine → List Path) (lines : List FootprintLine) (line : FootprintLine) → in_order (flat_map f (lines ++ line ∷ [])) ≡ with_more (in_order (flat_map f lines)) (f line)
union_more f lines line =
    ap in_order (flat_map-append f lines (line ∷ []) ∙ ap (λ xs. flat_map f lines ++ xs) (append-nil (f line)))
    ∙ fold-append (insert_key path_cmp) [] (flat_map f lines) (f line)

-- what lines say together, as a footprint
whole : (lines : List FootprintLine) → unwrap_or (together lines) no_footprint ≡ union_of lines
whole [] = refl
whole (line ∷ lines) = refl

some : (lines : List FootprintLine) (line : FootprintLine) → together (lines ++ line ∷ []) ≡ Some (union_of (lines ++ line ∷ []))
some [] line = refl
some (first ∷ lines) line = refl

module _ (line : FootprintLine) (lines : List FootprintLine) where
  on_own : (target : Name) → same_name line.target target ≡ true → lines_on target (lines ++ line ∷ []) ≡ lines_on target lines ++ line ∷ []
  on_own target e =
      filter-append (λ (l : FootprintLine). same_name l.target target) lines (line ∷ [])
      ∙ ap (λ xs. lines_on target lines ++ xs) (cond-true (same_name line.target target) (line ∷ []) [] e)

  on_other : (target : Name) → same_name line.target target ≡ false → lines_on target (lines ++ line ∷ []) ≡ lines_on target lines
  on_other target e =
      filter-append (λ (l : FootprintLine). same_name l.target target) lines (line ∷ [])
      ∙ ap (λ xs. lines_on target lines ++ xs) (cond-false (same_name line.target target) (line ∷ []) [] e)
      ∙ append-nil (lines_on target lines)

  -- the footprint of a target, with one more line on it
  footprint_more : (target : Name) (before after : Footprint) → same_name line.target target ≡ true
      → unwrap_or (footprint_on lines target) no_footprint ≡ before
      → after.reads ≡ with_more before.reads line.reads → after.writes ≡ with_more before.writes line.writes
      → Some after ≡ footprint_on (lines ++ line ∷ []) target
  footprint_more target before after own was reads writes =
      let mine = lines_on target lines in
      let base : before ≡ union_of mine = sym was ∙ whole mine in
      let read : after.reads ≡ (union_of (mine ++ line ∷ [])).reads =
      reads ∙ ap (λ (f : Footprint). with_more f.reads line.reads) base ∙ sym (union_more (λ (l : FootprintLine). l.reads) mine line) in
      let written : after.writes ≡ (union_of (mine ++ line ∷ [])).writes =
      writes ∙ ap (λ (f : Footprint). with_more f.writes line.writes) base ∙ sym (union_more (λ (l : FootprintLine). l.writes) mine line) in
      ap Some (both read written) ∙ sym (some mine line) ∙ ap together (sym (on_own target own))
    where
      both : {f g : Footprint} → f.reads ≡ g.reads → f.writes ≡ g.writes → f ≡ g
      both r w = λ i. record { reads = r i; writes = w i }

  pub unites_more : (old removed new : ByTarget) (before after : Footprint)
      → unwrap_or (footprint_in old line.target) no_footprint ≡ before
      → after.reads ≡ with_more before.reads line.reads → after.writes ≡ with_more before.writes line.writes
      → ((q : Name) → footprint_in removed q ≡ cond (is_eq (slice_cmp nat_cmp line.target q)) None (footprint_in old q))
      → ((q : Name) → footprint_in new q ≡ cond (is_eq (slice_cmp nat_cmp line.target q)) (Some after) (footprint_in removed q))
      → HasTargetsInOrder new → Unites old lines → Unites new (lines ++ line ∷ [])
  unites_more old removed new before after was reads writes out put rising all = record {
    united = λ target.
        put target
        ∙ ap (λ b. cond b (Some after) (footprint_in removed target)) (sym (texts_ties line.target target))
        ∙ elim (cases_Bool (same_name line.target target)) [
          | inl own ↦
              cond-true (same_name line.target target) (Some after) (footprint_in removed target) own
              ∙ footprint_more target before after own
              (ap (λ o. unwrap_or o no_footprint) (sym (all.united target) ∙ ap (footprint_in old) (sym (name_is_exact.equal line.target target own))) ∙ was) reads writes
          | inr other ↦
              cond-false (same_name line.target target) (Some after) (footprint_in removed target) other
              ∙ out target
              ∙ ap (λ b. cond b None (footprint_in old target)) (sym (texts_ties line.target target))
              ∙ cond-false (same_name line.target target) None (footprint_in old target) other
              ∙ all.united target
              ∙ ap together (sym (on_other target other))
        ];
    rising = rising;
  }

-- without the footprint of a target, those of the others stay
pub others_stay : (old removed : ByTarget) (target : Name) → ((q : Name) → footprint_in removed q ≡ cond (is_eq (slice_cmp nat_cmp target q)) None (footprint_in old q))
    → (other : Name) → same_name target other ≡ false → footprint_in removed other ≡ footprint_in old other
others_stay old removed target out other apart =
    out other ∙ cond-false (is_eq (slice_cmp nat_cmp target other)) None (footprint_in old other) (sym (texts_ties target other) ∙ apart)
