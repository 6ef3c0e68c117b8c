-- Two lists of words, merged as far as a place.
use Rattle.std.proofs.Common.{ℕ, zero, suc, ◌≡◌, ◌+◌, ◌*◌, ◌-◌, ◌≤◌, ◌<◌, List, [], ◌∷◌, ◌++◌, length, get_or, set, take, drop, bit_or, refl, sym, ap, ◌∙◌, arith, add-zero, add-one, add-suc, mul-zero, mul-suc}
use Rattle.std.proofs.lemmas.List.{drop-drop, take_rest}
use Rattle.std.specs.Simd.{first_chunks}
use Rattle.std.specs.Simd.Lanes.{zip2}
use borrow.Rule.Slice.PartMut.{put_mid, mid_of}

-- the first words merged, the others as they were
abbrev pub merged : ℕ → List ℕ → List ℕ → List ℕ
merged i xs ys = zip2 bit_or (take i xs) (take i ys) ++ drop i xs

-- one word more
set-merged : (i : ℕ) (xs ys : List ℕ) → i < length xs → length xs ≡ length ys
    → set (merged i xs ys) i (bit_or (get_or (merged i xs ys) i 0) (get_or ys i 0)) ≡ merged (suc i) xs ys
set-merged i [] ys below same = absurd (omega arith)
set-merged i (x ∷ xs) [] below same = absurd (omega arith)
set-merged zero (x ∷ xs) (y ∷ ys) below same = refl
set-merged (suc i) (x ∷ xs) (y ∷ ys) below same = ap (λ rest. bit_or x y ∷ rest) (set-merged i xs ys (omega arith) (omega arith))

pub merged_more : (i : ℕ) (xs ys now : List ℕ) → now ≡ merged i xs ys → i < length xs → length xs ≡ length ys
    → set now i (bit_or (get_or now i 0) (get_or ys i 0)) ≡ merged (i + 1) xs ys
merged_more i xs ys now is below same =
    ap (λ ws. set ws i (bit_or (get_or ws i 0) (get_or ys i 0))) is ∙ set-merged i xs ys below same ∙ ap (λ n. merged n xs ys) (sym (add-one i))

-- some words more
put-merged : (i n : ℕ) (xs ys : List ℕ) → i ≤ length xs → length xs ≡ length ys
    → put_mid i n (merged i xs ys) (zip2 bit_or (mid_of i n (merged i xs ys)) (take n (drop i ys))) ≡ merged (n + i) xs ys
put-merged zero n xs ys below same = rw add-zero refl
put-merged (suc i) n [] ys below same = absurd (omega arith)
put-merged (suc i) n (x ∷ xs) [] below same = absurd (omega arith)
put-merged (suc i) n (x ∷ xs) (y ∷ ys) below same = rw add-suc (ap (λ rest. bit_or x y ∷ rest) (put-merged i n xs ys (omega arith) (omega arith)))

pub merged_on : (i k n m : ℕ) (xs ys now part : List ℕ) → k ≡ n → m ≡ n + i → now ≡ merged i xs ys → i ≤ length xs → length xs ≡ length ys
    → part ≡ zip2 bit_or (mid_of i k now) (take n (drop i ys)) → put_mid i k now part ≡ merged m xs ys
merged_on i k n m xs ys now part k_is m_is is below same part_is =
    ap (put_mid i k now) part_is
    ∙ ap (λ j. put_mid i j now (zip2 bit_or (mid_of i j now) (take n (drop i ys)))) k_is
    ∙ ap (λ ws. put_mid i n ws (zip2 bit_or (mid_of i n ws) (take n (drop i ys)))) is
    ∙ put-merged i n xs ys below same ∙ ap (λ j. merged j xs ys) (sym m_is)

-- all of them
merged_all : (xs ys : List ℕ) → length xs ≡ length ys → merged (length xs) xs ys ≡ zip2 bit_or xs ys
merged_all [] ys same = refl
merged_all (x ∷ xs) [] same = absurd (omega arith)
merged_all (x ∷ xs) (y ∷ ys) same = ap (λ rest. bit_or x y ∷ rest) (merged_all xs ys (omega arith))

pub merged_end : (i : ℕ) (xs ys now : List ℕ) → now ≡ merged i xs ys → i ≡ length xs → length xs ≡ length ys → now ≡ zip2 bit_or xs ys
merged_end i xs ys now is whole same = is ∙ ap (λ n. merged n xs ys) whole ∙ merged_all xs ys same

-- a chunk of n words stands n words on for each one before it
chunk-at : (n count k : ℕ) (xs d : List ℕ) → k < count → get_or (first_chunks n count xs) k d ≡ take n (drop (n * k) xs)
chunk-at n zero k xs d below = absurd (omega arith)
chunk-at n (suc count) zero xs d below = rw mul-zero refl
chunk-at n (suc count) (suc k) xs d below = chunk-at n count k (drop n xs) d (omega arith) ∙ ap (take n) (drop-drop (n * k) n xs) ∙ ap (λ m. take n (drop m xs)) (omega (arith, mul-suc n k))

pub chunk_at : (n count k : ℕ) (xs : List ℕ) (chunks : List (List ℕ)) → chunks ≡ first_chunks n count xs → k < count
    → get_or chunks k [] ≡ take n (drop (n * k) xs)
chunk_at n count k xs chunks is below = ap (λ (cs : List (List ℕ)). get_or cs k []) is ∙ chunk-at n count k xs [] below

-- what is left behind the whole chunks
pub rest_at : (m count whole : ℕ) (xs rest : List ℕ) → rest ≡ drop whole xs → whole ≡ m → length xs ≡ count → rest ≡ take (count - m) (drop m xs)
rest_at m count whole xs rest is same long =
    is ∙ ap (λ k. drop k xs) same ∙ sym (take_rest xs m) ∙ ap (λ k. take (k - m) (drop m xs)) long
