-- Rows of numbers in one list.
use Rattle.std.proofs.Common.{ℕ, zero, suc, ◌≡◌, ◌<◌, ◌≤◌, ◌+◌, ◌-◌, List, [], ◌∷◌, ◌++◌, length, take, drop, get_or, refl, sym, ap, ap₂, ◌∙◌, arith, add-one, subst, length-append}
use Rattle.std.proofs.lemmas.List.{take_all, drop_at, take-append-le, drop-append-le, length-drop}
use Rattle.mk_index.specs.Table.{rows_from, AreEnds, row_of, start_from}

-- the ends do not pass the last
pub ends_at_most : (start : ℕ) (ends : List ℕ) (last : ℕ) → AreEnds start ends last → start ≤ last
ends_at_most start [] last are = omega arith
ends_at_most start (end ∷ ends) last are = omega (arith, are.0, ends_at_most end ends last are.1)

-- how many rows there are
pub row_count : (start : ℕ) (ends numbers : List ℕ) → length (rows_from start ends numbers) ≡ length ends
row_count start [] numbers = refl
row_count start (end ∷ ends) numbers = ap suc (row_count end ends numbers)

-- a row stands between its ends
pub row_within : (start : ℕ) (ends : List ℕ) (last i : ℕ) → AreEnds start ends last → i < length ends
    → (start_from start ends i ≤ get_or ends i 0) × (get_or ends i 0 ≤ last)
row_within start [] last i are below = absurd (omega arith)
row_within start (end ∷ ends) last zero are below = (are.0, ends_at_most end ends last are.1)
row_within start (end ∷ []) last (suc i) are below = absurd (omega arith)
row_within start (end ∷ next ∷ ends) last (suc zero) are below = row_within end (next ∷ ends) last zero are.1 (omega arith)
row_within start (end ∷ next ∷ ends) last (suc (suc i)) are below = row_within end (next ∷ ends) last (suc i) are.1 (omega arith)

pub row_is : (start : ℕ) (ends numbers : List ℕ) (i : ℕ) → i < length ends
    → row_of (rows_from start ends numbers) i ≡ take (get_or ends i 0 - start_from start ends i) (drop (start_from start ends i) numbers)
row_is start [] numbers i below = absurd (omega arith)
row_is start (end ∷ ends) numbers zero below = refl
row_is start (end ∷ []) numbers (suc i) below = absurd (omega arith)
row_is start (end ∷ next ∷ ends) numbers (suc zero) below = row_is end (next ∷ ends) numbers zero (omega arith)
row_is start (end ∷ next ∷ ends) numbers (suc (suc i)) below = row_is end (next ∷ ends) numbers (suc i) (omega arith)

-- one row more
pub ends_more : (start : ℕ) (ends : List ℕ) (last more : ℕ) → AreEnds start ends last → last ≤ more → AreEnds start (ends ++ more ∷ []) more
ends_more start [] last more are most = (omega arith, refl)
ends_more start (end ∷ ends) last more are most = (are.0, ends_more end ends last more are.1 most)

pub rows_more : (start : ℕ) (ends numbers row : List ℕ) (last : ℕ) → AreEnds start ends (length numbers) → last ≡ length numbers + length row
    → rows_from start (ends ++ last ∷ []) (numbers ++ row) ≡ rows_from start ends numbers ++ row ∷ []
rows_more start [] numbers row last are is =
    ap (λ xs. take (last - start) xs ∷ []) (drop_at numbers row start (sym are)) ∙ ap (λ xs. xs ∷ []) (take_all (last - start) row (omega (arith, is)))
rows_more start (end ∷ ends) numbers row last are is =
    let most = ends_at_most end ends (length numbers) are.1 in
    let at_most : start ≤ end = are.0 in
    ap₂ (λ (xs : List ℕ) (yss : List (List ℕ)). xs ∷ yss)
    (ap (take (end - start)) (drop-append-le start numbers row (omega (arith, at_most, most)))
    ∙ take-append-le (end - start) (drop start numbers) row (omega (arith, at_most, most, length-drop start numbers)))
    (rows_more end ends numbers row last are.1 is)

-- a place of a row is one of an end
pub row_there : (ends numbers : List ℕ) (rows : List (List ℕ)) (i : ℕ) → rows_from 0 ends numbers ≡ rows → i < length rows → i < length ends
row_there ends numbers rows i is below = omega (arith, below, ap length is, row_count 0 ends numbers)

-- where a row begins that is not the first
pub start_before : (ends : List ℕ) (i : ℕ) → (i ≡ 0 → ⊥) → get_or ends (i - 1) 0 ≡ start_from 0 ends i
start_before ends zero other = absurd (other refl)
start_before ends (suc i) other = ap (λ k. get_or ends k 0) (omega arith)

-- where a row ends
pub start_after : (ends : List ℕ) (i : ℕ) → start_from 0 ends (i + 1) ≡ get_or ends i 0
start_after ends i = ap (start_from 0 ends) (add-one i)

-- a row that is put behind the others
pub ends_put : (ends numbers row now_ends now_numbers : List ℕ) (last : ℕ) → AreEnds 0 ends (length numbers) → now_ends ≡ ends ++ last ∷ []
    → now_numbers ≡ numbers ++ row → last ≡ length now_numbers → AreEnds 0 now_ends (length now_numbers)
ends_put ends numbers row now_ends now_numbers last are ends_are numbers_are last_is =
    let most : length numbers ≤ last = omega (arith, last_is, ap length numbers_are, length-append numbers row) in
    subst (λ (es : List ℕ). AreEnds 0 es (length now_numbers)) (sym ends_are)
    (subst (λ n. AreEnds 0 (ends ++ last ∷ []) n) last_is (ends_more 0 ends (length numbers) last are most))

pub rows_put : (ends numbers row now_ends now_numbers : List ℕ) (rows : List (List ℕ)) (last : ℕ) → AreEnds 0 ends (length numbers) → now_ends ≡ ends ++ last ∷ []
    → now_numbers ≡ numbers ++ row → last ≡ length now_numbers → rows_from 0 ends numbers ≡ rows → rows_from 0 now_ends now_numbers ≡ rows ++ row ∷ []
rows_put ends numbers row now_ends now_numbers rows last are ends_are numbers_are last_is rows_are =
    ap₂ (λ (es : List ℕ) (ns : List ℕ). rows_from 0 es ns) ends_are numbers_are
    ∙ rows_more 0 ends numbers row last are (last_is ∙ ap length numbers_are ∙ length-append numbers row)
    ∙ ap (λ (rs : List (List ℕ)). rs ++ row ∷ []) rows_are

-- a row by its places
pub row_bounds : (ends now : List ℕ) (start end i last : ℕ) → now ≡ ends → AreEnds 0 ends last → i < length now → start ≡ start_from 0 now i
    → end ≡ start_from 0 now (i + 1) → (start ≤ end) × (end ≤ last)
row_bounds ends now start end i last same are below start_is end_is =
    let within = row_within 0 ends last i are (omega (arith, below, ap length same)) in
    let first : start ≡ start_from 0 ends i = start_is ∙ ap (λ (es : List ℕ). start_from 0 es i) same in
    let second : end ≡ get_or ends i 0 = end_is ∙ ap (λ (es : List ℕ). start_from 0 es (i + 1)) same ∙ start_after ends i in
    (omega (arith, within.0, first, second), omega (arith, within.1, second))

pub row_found : (ends now numbers kept : List ℕ) (rows : List (List ℕ)) (start end i : ℕ) → now ≡ ends → kept ≡ numbers → rows_from 0 ends numbers ≡ rows
    → i < length now → start ≡ start_from 0 now i → end ≡ start_from 0 now (i + 1) → take (end - start) (drop start kept) ≡ row_of rows i
row_found ends now numbers kept rows start end i same numbers_are rows_are below start_is end_is =
    let first : start ≡ start_from 0 ends i = start_is ∙ ap (λ (es : List ℕ). start_from 0 es i) same in
    let second : end ≡ get_or ends i 0 = end_is ∙ ap (λ (es : List ℕ). start_from 0 es (i + 1)) same ∙ start_after ends i in
    ap₂ (λ m n. take (m - n) (drop n kept)) second first ∙ ap (λ (ns : List ℕ). take (get_or ends i 0 - start_from 0 ends i) (drop (start_from 0 ends i) ns)) numbers_are
    ∙ sym (row_is 0 ends numbers i (omega (arith, below, ap length same))) ∙ ap (λ (rs : List (List ℕ)). row_of rs i) rows_are
