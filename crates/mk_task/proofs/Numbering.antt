-- The numbers of labels.
use Rattle.std.proofs.Common.{◌≡◌, ℕ, false, cond, List, [], ◌∷◌, ◌++◌, length, sym, ◌∙◌, ap, subst, Some}
use Rattle.std.specs.BTreeMap.{get}
use Rattle.std.specs.declared.collections.BTreeMap.{BTreeMap}
use Rattle.std.specs.Global.{Global}
use Rattle.std.specs.Ordering.{is_eq, nat_cmp}
use Rattle.std.specs.Cmp.Lexicographic.{slice_cmp, texts_ties}
use Rattle.mk_name.specs.Names.{Name, same_name, has}
use Rattle.mk_jobs.proofs.Numberings.{number_push}
use Rattle.mk_task.specs.Labels.{AreNumbered}

-- the index after a new name
index_push : (old new : BTreeMap Name ℕ Global) (names : List Name) (x : Name) → has same_name names x ≡ false → AreNumbered names old → ((q : Name) → get (slice_cmp nat_cmp) new q ≡ cond (is_eq (slice_cmp nat_cmp x q)) (Some (length names)) (get (slice_cmp nat_cmp) old q)) → AreNumbered (names ++ x ∷ []) new
index_push old new names x absent was now y =
    now y ∙ ap (λ b. cond b (Some (length names)) (get (slice_cmp nat_cmp) old y)) (sym (texts_ties x y)) ∙ ap (λ o. cond (same_name x y) (Some (length names)) o) (was y) ∙ sym (number_push names x y absent)

pub numbered_push : (old new : BTreeMap Name ℕ Global) (names pushed : List Name) (x own key : Name) (n : ℕ) → AreNumbered names old → has same_name names x ≡ false → own ≡ x → key ≡ x → n ≡ length names → pushed ≡ names ++ own ∷ []
    → ((q : Name) → get (slice_cmp nat_cmp) new q ≡ cond (is_eq (slice_cmp nat_cmp key q)) (Some n) (get (slice_cmp nat_cmp) old q)) → AreNumbered pushed new
numbered_push old new names pushed x own key n was absent e k l is updates =
    subst (λ (ns : List Name). AreNumbered ns new) (ap (λ z. names ++ z ∷ []) (sym e) ∙ sym is)
    (index_push old new names x absent was (λ q. updates q ∙ ap (λ z. cond (is_eq (slice_cmp nat_cmp z q)) (Some n) (get (slice_cmp nat_cmp) old q)) k ∙ ap (λ m. cond (is_eq (slice_cmp nat_cmp x q)) (Some m) (get (slice_cmp nat_cmp) old q)) l))
