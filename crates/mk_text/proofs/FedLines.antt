-- The lines of a text that grows.
use Rattle.std.proofs.Common.{◌≡◌, ℕ, ◌≤◌, ◌==◌, List, [], ◌∷◌, ◌++◌, length, refl, sym, ap, ◌∙◌, inl, inr, arith}
use Rattle.std.specs.List.{onto_first}
use Rattle.std.proofs.lemmas.Bool.{cases_Bool, cond-true, cond-false}
use Rattle.std.proofs.lemmas.List.Splits.{length-slice_split}
use Rattle.mk_text.specs.Lexical.{newline, physical_lines}

-- the last of some lines runs on with the first of the others
abbrev pub joined : List (List ℕ) → List (List ℕ) → List (List ℕ)
joined [] more = more
joined (p ∷ []) [] = p ∷ []
joined (p ∷ []) (q ∷ qs) = (p ++ q) ∷ qs
joined (p ∷ r ∷ ps) more = p ∷ joined (r ∷ ps) more

pub some_lines : (text : List ℕ) → 1 ≤ length (physical_lines text)
some_lines text = omega (arith, length-slice_split (λ b. b == newline) text)

joined_cons : (p : List ℕ) (ps more : List (List ℕ)) → 1 ≤ length ps → joined (p ∷ ps) more ≡ p ∷ joined ps more
joined_cons p [] more some = absurd (omega (arith, some))
joined_cons p (r ∷ ps) more some = refl

joined_first : (b : ℕ) (ps more : List (List ℕ)) → 1 ≤ length ps → 1 ≤ length more → onto_first b (joined ps more) ≡ joined (onto_first b ps) more
joined_first b [] more some others = absurd (omega (arith, some))
joined_first b (p ∷ []) [] some others = absurd (omega (arith, others))
joined_first b (p ∷ []) (q ∷ qs) some others = refl
joined_first b (p ∷ r ∷ ps) more some others = refl

joined_none : (more : List (List ℕ)) → 1 ≤ length more → more ≡ joined ([] ∷ []) more
joined_none [] some = absurd (omega (arith, some))
joined_none (q ∷ qs) some = refl

-- the lines of two texts, one behind the other
pub lines_joined : (text piece : List ℕ) → physical_lines (text ++ piece) ≡ joined (physical_lines text) (physical_lines piece)
lines_joined [] piece = joined_none (physical_lines piece) (some_lines piece)
lines_joined (b ∷ bs) piece =
    elim (cases_Bool (b == newline)) [
      | inl is ↦
          cond-true (b == newline) ([] ∷ physical_lines (bs ++ piece)) _ is
          ∙ ap (λ ls. [] ∷ ls) (lines_joined bs piece)
          ∙ sym (joined_cons [] (physical_lines bs) (physical_lines piece) (some_lines bs))
          ∙ ap (λ ls. joined ls (physical_lines piece)) (sym (cond-true (b == newline) ([] ∷ physical_lines bs) _ is))
      | inr other ↦
          cond-false (b == newline) _ (onto_first b (physical_lines (bs ++ piece))) other
          ∙ ap (onto_first b) (lines_joined bs piece)
          ∙ joined_first b (physical_lines bs) (physical_lines piece) (some_lines bs) (some_lines piece)
          ∙ ap (λ ls. joined ls (physical_lines piece)) (sym (cond-false (b == newline) _ (onto_first b (physical_lines bs)) other))
    ]

-- the open line runs on
pub joined_open : (ended : List (List ℕ)) (open_line line : List ℕ) (more : List (List ℕ))
    → joined (ended ++ open_line ∷ []) (line ∷ more) ≡ ended ++ (open_line ++ line) ∷ more
joined_open [] open_line line more = refl
joined_open (e ∷ []) open_line line more = refl
joined_open (e ∷ f ∷ es) open_line line more = ap (λ ls. e ∷ ls) (joined_open (f ∷ es) open_line line more)
