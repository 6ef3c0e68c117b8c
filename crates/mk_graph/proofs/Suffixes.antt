-- The last slash and the last period of a text.
use Rattle.std.proofs.Common.{◌≡◌, ℕ, zero, suc, ◌<◌, Bool, true, false, cond, List, [], ◌∷◌, length, drop, sym, ◌∙◌, ap, refl, arith}
use Rattle.std.specs.Prelude.{not, ◌&&◌}
use Rattle.std.specs.List.{list_any}
use Rattle.std.proofs.lemmas.Bool.{false_from_ne_true}
use Rattle.std.proofs.lemmas.List.Folds.{list_any_at}
use Rattle.memchr.specs.Find.{Nowhere, NoneAfter, Passes}
use Rattle.mk_graph.specs.Suffix.{is_slash, is_period, last_component, from_last_period}

any_none : (test : ℕ → Bool) (t : List ℕ) → Nowhere (Passes test t) 0 (length t) → list_any test t ≡ false
any_none test [] h = refl
any_none test (b ∷ bs) h =
    let here : test b ≡ false = false_from_ne_true _ (h 0 (omega arith) (omega arith)) in
    let rest : list_any test bs ≡ false = any_none test bs (λ k l u p. h (suc k) (omega arith) (omega arith) p) in
    cc

any_at : (test : ℕ → Bool) (t : List ℕ) (k : ℕ) → k < length t → Passes test t k → list_any test t ≡ true
any_at test t k l p = list_any_at test t k 0 l p

tail_none : (test : ℕ → Bool) (b : ℕ) (bs : List ℕ) → Nowhere (Passes test (b ∷ bs)) 0 (length (b ∷ bs)) → Nowhere (Passes test bs) 0 (length bs)
tail_none test b bs h k l u p = h (suc k) (omega arith) (omega arith) p

after_head : (test : ℕ → Bool) (b : ℕ) (bs : List ℕ) → NoneAfter (Passes test (b ∷ bs)) 0 (length (b ∷ bs)) 0 → Nowhere (Passes test bs) 0 (length bs)
after_head test b bs n k l u p = n.after (suc k) (omega arith) (omega arith) p

after_tail : (test : ℕ → Bool) (b : ℕ) (bs : List ℕ) (k : ℕ) → NoneAfter (Passes test (b ∷ bs)) 0 (length (b ∷ bs)) (suc k) → NoneAfter (Passes test bs) 0 (length bs) k
after_tail test b bs k n = record { low = omega arith; high = omega (arith, n.high); after = λ m l u p. n.after (suc m) (omega arith) (omega arith) p }

pub component_none : (t : List ℕ) → Nowhere (Passes is_slash t) 0 (length t) → t ≡ last_component t
component_none [] h = refl
component_none (b ∷ bs) h = sym (ap (λ x. cond x (last_component bs) (b ∷ bs)) (any_none is_slash (b ∷ bs) h))

pub component_at : (t : List ℕ) (k : ℕ) → NoneAfter (Passes is_slash t) 0 (length t) k → Passes is_slash t k → drop (suc k) t ≡ last_component t
component_at [] k n p = absurd (omega (arith, n.high))
component_at (b ∷ bs) zero n p =
    component_none bs (after_head is_slash b bs n) ∙ sym (ap (λ x. cond x (last_component bs) (b ∷ bs)) (any_at is_slash (b ∷ bs) 0 n.high p))
component_at (b ∷ bs) (suc k) n p =
    component_at bs k (after_tail is_slash b bs k n) p ∙ sym (ap (λ x. cond x (last_component bs) (b ∷ bs)) (any_at is_slash (b ∷ bs) (suc k) n.high p))

pub period_none : (t : List ℕ) → Nowhere (Passes is_period t) 0 (length t) → [] ≡ from_last_period t
period_none [] h = refl
period_none (b ∷ bs) h =
    let rest : list_any is_period bs ≡ false = any_none is_period bs (tail_none is_period b bs h) in
    let here : is_period b ≡ false = false_from_ne_true _ (h 0 (omega arith) (omega arith)) in
    period_none bs (tail_none is_period b bs h)
    ∙ sym (ap (λ x. cond (not x && is_period b) (b ∷ bs) (from_last_period bs)) rest ∙ ap (λ x. cond x (b ∷ bs) (from_last_period bs)) here)

pub period_at : (t : List ℕ) (k : ℕ) → NoneAfter (Passes is_period t) 0 (length t) k → Passes is_period t k → drop k t ≡ from_last_period t
period_at [] k n p = absurd (omega (arith, n.high))
period_at (b ∷ bs) zero n p =
    sym (ap (λ x. cond (not x && is_period b) (b ∷ bs) (from_last_period bs)) (any_none is_period bs (after_head is_period b bs n)) ∙ ap (λ x. cond x (b ∷ bs) (from_last_period bs)) p)
period_at (b ∷ bs) (suc k) n p =
    let m = after_tail is_period b bs k n in
    period_at bs k m p ∙ sym (ap (λ x. cond (not x && is_period b) (b ∷ bs) (from_last_period bs)) (any_at is_period bs k m.high p))
