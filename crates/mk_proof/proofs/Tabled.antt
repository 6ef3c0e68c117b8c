-- Rows by the places where they end.
use Rattle.std.proofs.Common.{◌≡◌, ℕ, zero, suc, ◌+◌, ◌-◌, ◌<◌, ◌≤◌, List, [], ◌∷◌, ◌++◌, length, take, drop, get_or, refl, sym, ap, ap₂, ◌∙◌, arith}
use Rattle.std.proofs.lemmas.List.{drop-append-le, drop_at, length-drop, take-append-le, take_all}
use Rattle.mk_proof.specs.Tables.{AreEnds, rows_from}

-- there is a row for each end
pub length-rows_from : (start : ℕ) (numbers ends : List ℕ) → length (rows_from start numbers ends) ≡ length ends
length-rows_from start numbers [] = refl
length-rows_from start numbers (end ∷ ends) = ap suc (length-rows_from end numbers ends)

-- a row's number is that of an end
pub inside : (numbers ends : List ℕ) (rows : List (List ℕ)) (i : ℕ) → rows_from 0 numbers ends ≡ rows → i < length rows → i < length ends
inside numbers ends rows i shown within = let long = length-rows_from 0 numbers ends in omega (arith, ap length shown)

-- the rows end below the last place
pub ends_below : (start last : ℕ) (ends : List ℕ) → AreEnds start last ends → start ≤ last
ends_below start last [] are = omega arith
ends_below start last (end ∷ ends) are = let later = ends_below end last ends are.1 in omega (arith, are.0)

-- the row at a place lies between its start and its end
pub row_within : (start last : ℕ) (ends : List ℕ) (i : ℕ) → AreEnds start last ends → i < length ends
    → (get_or (start ∷ ends) i 0 ≤ get_or ends i 0) × (get_or ends i 0 ≤ last)
row_within start last [] i are inside = absurd (omega arith)
row_within start last (end ∷ ends) zero are inside = (are.0, ends_below end last ends are.1)
row_within start last (end ∷ ends) (suc i) are inside = row_within end last ends i are.1 (omega arith)

-- what stands in it
pub get_or-rows_from : (start : ℕ) (numbers ends : List ℕ) (i : ℕ) (d : List ℕ) → i < length ends
    → get_or (rows_from start numbers ends) i d ≡ take (get_or ends i 0 - get_or (start ∷ ends) i 0) (drop (get_or (start ∷ ends) i 0) numbers)
get_or-rows_from start numbers [] i d inside = absurd (omega arith)
get_or-rows_from start numbers (end ∷ ends) zero d inside = refl
get_or-rows_from start numbers (end ∷ ends) (suc i) d inside = get_or-rows_from end numbers ends i d (omega arith)

-- so it is the part of the numbers from its start up to its end
pub row_is : (numbers ends : List ℕ) (rows : List (List ℕ)) (i start end : ℕ) (d : List ℕ) → rows_from 0 numbers ends ≡ rows → i < length ends
    → start ≡ get_or (0 ∷ ends) i 0 → end ≡ get_or ends i 0 → take (end - start) (drop start numbers) ≡ get_or rows i d
row_is numbers ends rows i start end d shown inside from to =
    ap₂ (λ s e. take (e - s) (drop s numbers)) from to ∙ sym (get_or-rows_from 0 numbers ends i d inside) ∙ ap (λ rs. get_or rs i d) shown

-- a row more, behind the numbers
pub rows_push : (start : ℕ) (numbers ends row : List ℕ) → AreEnds start (length numbers) ends
    → rows_from start (numbers ++ row) (ends ++ (length numbers + length row) ∷ []) ≡ rows_from start numbers ends ++ row ∷ []
rows_push start numbers [] row are =
    let behind : drop start (numbers ++ row) ≡ row = ap (λ n. drop n (numbers ++ row)) are ∙ drop_at numbers row (length numbers) refl in
    ap (λ (shown : List ℕ). shown ∷ []) (ap (take (length numbers + length row - start)) behind ∙ take_all (length numbers + length row - start) row (omega (arith, are)))
rows_push start numbers (end ∷ ends) row are =
    let below = ends_below end (length numbers) ends are.1 in
    let long = length-drop start numbers in
    let first : take (end - start) (drop start (numbers ++ row)) ≡ take (end - start) (drop start numbers) =
    ap (take (end - start)) (drop-append-le start numbers row (omega (arith, are.0))) ∙ take-append-le (end - start) (drop start numbers) row (omega arith) in
    ap₂ (λ (shown : List ℕ) (more : List (List ℕ)). shown ∷ more) first (rows_push end numbers ends row are.1)

-- and the ends are still in order
pub ends_push : (start last more : ℕ) (ends : List ℕ) → AreEnds start last ends → AreEnds start (last + more) (ends ++ (last + more) ∷ [])
ends_push start last more [] are = (omega (arith, are), refl)
ends_push start last more (end ∷ ends) are = (are.0, ends_push end last more ends are.1)

-- numbers behind the last end are in no row
pub rows_past : (start : ℕ) (numbers ends row : List ℕ) → AreEnds start (length numbers) ends
    → rows_from start (numbers ++ row) ends ≡ rows_from start numbers ends
rows_past start numbers [] row are = refl
rows_past start numbers (end ∷ ends) row are =
    let below = ends_below end (length numbers) ends are.1 in
    let long = length-drop start numbers in
    let first : take (end - start) (drop start (numbers ++ row)) ≡ take (end - start) (drop start numbers) =
    ap (take (end - start)) (drop-append-le start numbers row (omega (arith, are.0))) ∙ take-append-le (end - start) (drop start numbers) row (omega arith) in
    ap₂ (λ (shown : List ℕ) (more : List (List ℕ)). shown ∷ more) first (rows_past end numbers ends row are.1)
