-- Lemmas on what was written in turn.
use Rattle.std.proofs.Common.{◌≡◌, ℕ, ◌+◌, ◌-◌, List, ◌++◌, length, take, drop, Option, Some, None, sym, ap, ◌∙◌, subst, append_assoc}
use Rattle.std.proofs.Math.Seq.{take-add}
use Rattle.std.proofs.lemmas.List.{take_rest}
use Rattle.std.specs.Io.KnownBytes.{Appends}

Appends-trans : (a b c : Option (List ℕ)) (xs ys : List ℕ) → Appends a b xs → Appends b c ys → Appends a c (xs ++ ys)
Appends-trans None b c xs ys first second = tt
Appends-trans (Some old) None c xs ys first second = absurd first
Appends-trans (Some old) (Some mid) None xs ys first second = absurd second
Appends-trans (Some old) (Some mid) (Some new) xs ys first second = second ∙ ap (λ l. l ++ ys) first ∙ append_assoc old xs ys

-- the first m bytes, and then the first n of the rest, are the first m + n
pub written_more : (a b c : Option (List ℕ)) (bytes : List ℕ) (m n : ℕ) → Appends a b (take m bytes)
    → Appends b c (take n (take (length bytes - m) (drop m bytes))) → Appends a c (take (m + n) bytes)
written_more a b c bytes m n first second =
    let rest : take n (take (length bytes - m) (drop m bytes)) ≡ take n (drop m bytes) = ap (take n) (take_rest bytes m) in
    subst (Appends a c) (sym (take-add m n bytes)) (Appends-trans a b c _ _ first (subst (Appends b c) rest second))
