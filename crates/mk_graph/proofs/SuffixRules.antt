-- The suffix of a name, by its last component.
use Rattle.std.proofs.Common.{◌≡◌, ℕ, Bool, true, false, cond, List, [], ◌∷◌, ◌++◌, drop, sym, ◌∙◌, ap, refl, inl, inr, append_assoc}
use Rattle.std.specs.Prelude.{◌≢◌, ◌||◌, ◌&&◌, not}
use Rattle.std.specs.List.{list_any}
use Rattle.std.proofs.lemmas.Bool.{cond-true, cond-false, false_from_ne_true, or_right}
use Rattle.std.proofs.lemmas.List.Folds.{list_any-append}
use Rattle.mk_graph.specs.Suffix.{is_period, is_slash, last_component, from_last_period}
use Rattle.mk_graph.specs.SuffixRule.{IsFolder, SuffixIsRule}

-- a text without a slash is its own last component
own_component : (c : List ℕ) → list_any is_slash c ≡ false → last_component c ≡ c
own_component [] h = refl
own_component (b ∷ bs) h = cond-false (list_any is_slash (b ∷ bs)) _ _ h

-- behind a slash the last component is that of what follows, if no slash does
behind_slash : (front c : List ℕ) → list_any is_slash c ≡ false → last_component (front ++ 47 ∷ c) ≡ c
behind_slash [] c h = own_component c h
behind_slash (b ∷ bs) c h =
    cond-true (list_any is_slash (b ∷ (bs ++ 47 ∷ c))) _ _ (or_right (is_slash b) _ (list_any-append is_slash bs (47 ∷ c) ∙ or_true (list_any is_slash bs)))
    ∙ behind_slash bs c h
  where
    or_true : (x : Bool) → (x || true) ≡ true
    or_true true = refl
    or_true false = refl

component_is : (folder c : List ℕ) → IsFolder folder → list_any is_slash c ≡ false → last_component (folder ++ c) ≡ c
component_is folder c (inl e) h = ap (λ f. last_component (f ++ c)) e ∙ own_component c h
component_is folder c (inr p) h =
    ap (λ f. last_component (f ++ c)) p.1 ∙ ap last_component (append_assoc p.0 (47 ∷ []) c) ∙ behind_slash p.0 c h

-- no period, no suffix
no_period : (t : List ℕ) → list_any is_period t ≡ false → from_last_period t ≡ []
no_period [] h = refl
no_period (b ∷ bs) h =
    let rest : list_any is_period bs ≡ false = false_from_ne_true _ (λ e. true_is_not (sym h ∙ or_right (is_period b) _ e)) in
    let here : is_period b ≡ false = false_from_ne_true _ (λ e. true_is_not (sym h ∙ ap (λ x. x || list_any is_period bs) e)) in
    ap (λ x. cond (not x && is_period b) (b ∷ bs) (from_last_period bs)) rest ∙ ap (λ x. cond x (b ∷ bs) (from_last_period bs)) here ∙ no_period bs rest
  where
    true_is_not : false ≡ true → ⊥
    true_is_not e = cc

-- from the last period on
pub last_period : (before after : List ℕ) → list_any is_period after ≡ false → from_last_period (before ++ 46 ∷ after) ≡ 46 ∷ after
last_period [] after h = ap (λ x. cond (not x && true) (46 ∷ after) (from_last_period after)) h
last_period (b ∷ bs) after h =
    ap (λ x. cond (not x && is_period b) (b ∷ (bs ++ 46 ∷ after)) (from_last_period (bs ++ 46 ∷ after))) (list_any-append is_period bs (46 ∷ after) ∙ or_true (list_any is_period bs))
    ∙ last_period bs after h
  where
    or_true : (x : Bool) → (x || true) ≡ true
    or_true true = refl
    or_true false = refl

found_is : (before after : List ℕ) → before ≢ [] → list_any is_period after ≡ false → from_last_period (drop 1 (before ++ 46 ∷ after)) ≡ 46 ∷ after
found_is [] after some h = absurd (some refl)
found_is (b ∷ bs) after some h = last_period bs after h

pub suffix_is_rule : SuffixIsRule
suffix_is_rule = record {
  found = λ folder before after is slashless some h. ap (λ c. from_last_period (drop 1 c)) (component_is folder (before ++ 46 ∷ after) is slashless) ∙ found_is before after some h;
  none = λ folder component is slashless h. ap (λ c. from_last_period (drop 1 c)) (component_is folder component is slashless) ∙ no_period (drop 1 component) h;
}
