-- Lines that are written.
use Rattle.std.proofs.Common.{◌≡◌, ℕ, List, [], ◌∷◌, ◌++◌, map, refl, sym, ap, ◌∙◌, append_assoc}
use Rattle.std.proofs.lemmas.List.{append-nil}
use Rattle.std.specs.Fmt.{decimal}
use Rattle.std.specs.List.{flat_map, join_with_byte}
use Rattle.mk_proof.specs.ProofText.{ProofLine, Word, text_of, written}

-- numbers with a space before each
abbrev pub spaced : List ℕ → List ℕ
spaced numbers = flat_map (λ n. 32 ∷ decimal n) numbers

joined : (word : Word) (numbers : List ℕ) → word ++ spaced numbers ≡ join_with_byte 32 (word ∷ map decimal numbers)
joined word [] = append-nil word
joined word (n ∷ numbers) = ap (λ (rest : List ℕ). word ++ 32 ∷ rest) (joined (decimal n) numbers)

pub line_pushed : (out : List ℕ) (word : Word) (numbers : List ℕ)
    → ((out ++ word) ++ spaced numbers) ++ 10 ∷ [] ≡ out ++ written (word ∷ map decimal numbers)
line_pushed out word numbers =
    append_assoc (out ++ word) (spaced numbers) (10 ∷ []) ∙ append_assoc out word (spaced numbers ++ 10 ∷ [])
    ∙ ap (λ (t : List ℕ). out ++ t) (sym (append_assoc word (spaced numbers) (10 ∷ [])) ∙ ap (λ (t : List ℕ). t ++ 10 ∷ []) (joined word numbers))

pub flat_map-map : {X : Type 0} (line : X → ProofLine) (xs : List X) → flat_map (λ x. written (line x)) xs ≡ text_of (map line xs)
flat_map-map line [] = refl
flat_map-map line (x ∷ xs) = ap (λ (t : List ℕ). written (line x) ++ t) (flat_map-map line xs)
