-- Texts compared in steps of eight bytes, each step as one number.
use Rattle.std.proofs.Common.{◌≡◌, ◌≢◌, ℕ, zero, suc, ◌+◌, ◌*◌, ◌^◌, ◌<◌, ◌≤◌, inl, inr, List, [], ◌∷◌, length, take, drop, get_or, refl, sym, ap, subst, ◌∙◌, arith, length-take, Ordering, Less, Equal, Greater}
use Rattle.std.proofs.lemmas.Bool.{cases_lt}
use Rattle.std.proofs.lemmas.Nat.{mul-le}
use Rattle.std.specs.Cmp.{nat_cmp_is}
use Rattle.std.specs.Cmp.Lexicographic.{slice_cmp}
use Rattle.std.specs.Int.{w64, from_be_bytes}
use Rattle.std.specs.Ordering.{nat_cmp, ordering_then}

-- each is a byte
abbrev pub AreSmall : List ℕ → Type 0
AreSmall xs = (i : ℕ) → get_or xs i 0 < 256

-- the number that digits to the base 256 spell
abbrev value : List ℕ → ℕ
value [] = 0
value (x ∷ xs) = x * 256 ^ length xs + value xs

more : (x n v : ℕ) → x < 256 → v < 256 ^ n → x * 256 ^ n + v < 256 ^ suc n
more x n v small h = omega (arith, mul-le (x + 1) (256 ^ n) 256 (256 ^ n) (omega arith) (omega arith))

value_below : (xs : List ℕ) → AreSmall xs → value xs < 256 ^ length xs
value_below [] h = omega arith
value_below (x ∷ xs) h = more x (length xs) (value xs) (h 0) (value_below xs (λ i. h (suc i)))

shifted : (k p q : ℕ) → nat_cmp (k + p) (k + q) ≡ nat_cmp p q
shifted k p q =
    elim (cases_lt p q) [
      | inl less ↦ sym (nat_cmp_is (k + p) (k + q) Less (omega arith)) ∙ nat_cmp_is p q Less less
      | inr up ↦ elim (cases_lt q p) [
        | inl greater ↦ sym (nat_cmp_is (k + p) (k + q) Greater (omega arith)) ∙ nat_cmp_is p q Greater greater
        | inr down ↦ sym (nat_cmp_is (k + p) (k + q) Equal (omega arith)) ∙ nat_cmp_is p q Equal (omega arith)
      ]
    ]

-- the first digit decides, and else the others do
by_first : (b x y p q : ℕ) → p < b → q < b → nat_cmp (x * b + p) (y * b + q) ≡ ordering_then (nat_cmp x y) (nat_cmp p q)
by_first b x y p q low high =
    elim (cases_lt x y) [
      | inl less ↦
          sym (nat_cmp_is (x * b + p) (y * b + q) Less (omega (arith, mul-le (x + 1) b y b (omega arith) (omega arith))))
          ∙ ap (λ o. ordering_then o (nat_cmp p q)) (nat_cmp_is x y Less less)
      | inr up ↦ elim (cases_lt y x) [
        | inl greater ↦
            sym (nat_cmp_is (x * b + p) (y * b + q) Greater (omega (arith, mul-le (y + 1) b x b (omega arith) (omega arith))))
            ∙ ap (λ o. ordering_then o (nat_cmp p q)) (nat_cmp_is x y Greater greater)
        | inr down ↦
            let same : y ≡ x = omega arith in
            ap (λ z. nat_cmp (x * b + p) (z * b + q)) same ∙ shifted (x * b) p q
            ∙ ap (λ o. ordering_then o (nat_cmp p q)) (nat_cmp_is x y Equal (sym same))
      ]
    ]

by_value : (xs ys : List ℕ) → length xs ≡ length ys → AreSmall xs → AreSmall ys → nat_cmp (value xs) (value ys) ≡ slice_cmp nat_cmp xs ys
by_value [] [] e h g = refl
by_value [] (y ∷ ys) e h g = absurd (omega arith)
by_value (x ∷ xs) [] e h g = absurd (omega arith)
by_value (x ∷ xs) (y ∷ ys) e h g =
    let long : length xs ≡ length ys = omega arith in
    let below : value ys < 256 ^ length xs = subst (λ n. value ys < 256 ^ n) (sym long) (value_below ys (λ i. g (suc i))) in
    ap (λ n. nat_cmp (x * 256 ^ length xs + value xs) (y * 256 ^ n + value ys)) (sym long)
    ∙ by_first (256 ^ length xs) x y (value xs) (value ys) (value_below xs (λ i. h (suc i))) below
    ∙ ap (ordering_then (nat_cmp x y)) (by_value xs ys long (λ i. h (suc i)) (λ i. g (suc i)))

eight : (xs : List ℕ) → length xs ≡ 8 → from_be_bytes w64 xs ≡ value xs
eight [] l = absurd (omega arith)
eight (a ∷ []) l = absurd (omega arith)
eight (a ∷ b ∷ []) l = absurd (omega arith)
eight (a ∷ b ∷ c ∷ []) l = absurd (omega arith)
eight (a ∷ b ∷ c ∷ d ∷ []) l = absurd (omega arith)
eight (a ∷ b ∷ c ∷ d ∷ e ∷ []) l = absurd (omega arith)
eight (a ∷ b ∷ c ∷ d ∷ e ∷ f ∷ []) l = absurd (omega arith)
eight (a ∷ b ∷ c ∷ d ∷ e ∷ f ∷ g ∷ []) l = absurd (omega arith)
eight (a ∷ b ∷ c ∷ d ∷ e ∷ f ∷ g ∷ h ∷ []) l = omega arith
eight (a ∷ b ∷ c ∷ d ∷ e ∷ f ∷ g ∷ h ∷ x ∷ xs) l = absurd (omega arith)

then_then : (a b c : Ordering) → ordering_then a (ordering_then b c) ≡ ordering_then (ordering_then a b) c
then_then Less b c = refl
then_then Equal b c = refl
then_then Greater b c = refl

parted : (n : ℕ) (xs ys : List ℕ) → n ≤ length xs → n ≤ length ys
    → slice_cmp nat_cmp xs ys ≡ ordering_then (slice_cmp nat_cmp (take n xs) (take n ys)) (slice_cmp nat_cmp (drop n xs) (drop n ys))
parted zero xs ys h g = refl
parted (suc n) [] ys h g = absurd (omega arith)
parted (suc n) (x ∷ xs) [] h g = absurd (omega arith)
parted (suc n) (x ∷ xs) (y ∷ ys) h g =
    ap (ordering_then (nat_cmp x y)) (parted n xs ys (omega arith) (omega arith)) ∙ then_then (nat_cmp x y) _ _

small_front : (n : ℕ) (xs : List ℕ) → AreSmall xs → AreSmall (take n xs)
small_front zero xs h i = omega arith
small_front (suc n) [] h i = h i
small_front (suc n) (x ∷ xs) h zero = h 0
small_front (suc n) (x ∷ xs) h (suc i) = small_front n xs (λ k. h (suc k)) i

pub small_rest : (n : ℕ) (xs : List ℕ) → AreSmall xs → AreSmall (drop n xs)
small_rest zero xs h i = h i
small_rest (suc n) [] h i = h i
small_rest (suc n) (x ∷ xs) h i = small_rest n xs (λ k. h (suc k)) i

-- the first eight bytes of two texts, each as a number
pub record AreFirsts (xs ys : List ℕ) (first second : ℕ) : Type 0 where
  pub long : 8 ≤ length xs
  pub other_long : 8 ≤ length ys
  pub small : AreSmall xs
  pub other_small : AreSmall ys
  pub is : first ≡ from_be_bytes w64 (take 8 xs)
  pub other_is : second ≡ from_be_bytes w64 (take 8 ys)

-- as two splits of eight bytes give them
pub firsts : (xs ys front back rest left : List ℕ) (first second : ℕ) → (front ≡ take 8 xs) × (rest ≡ drop 8 xs) × (length rest + 8 ≡ length xs)
    → (back ≡ take 8 ys) × (left ≡ drop 8 ys) × (length left + 8 ≡ length ys) → first ≡ from_be_bytes w64 front → second ≡ from_be_bytes w64 back
    → AreSmall xs → AreSmall ys → AreFirsts xs ys first second
firsts xs ys front back rest left first second one other is other_is small other_small = record {
  long = omega (arith, one.2);
  other_long = omega (arith, other.2);
  small = small;
  other_small = other_small;
  is = is ∙ ap (from_be_bytes w64) one.0;
  other_is = other_is ∙ ap (from_be_bytes w64) other.0;
}

pub stepped : (xs ys : List ℕ) (first second : ℕ) → AreFirsts xs ys first second
    → slice_cmp nat_cmp xs ys ≡ ordering_then (nat_cmp first second) (slice_cmp nat_cmp (drop 8 xs) (drop 8 ys))
stepped xs ys first second are =
    let long : length (take 8 xs) ≡ 8 = omega (arith, are.long, length-take 8 xs) in
    let other : length (take 8 ys) ≡ 8 = omega (arith, are.other_long, length-take 8 ys) in
    let one = are.is ∙ eight (take 8 xs) long in
    let two = are.other_is ∙ eight (take 8 ys) other in
    let front : nat_cmp first second ≡ slice_cmp nat_cmp (take 8 xs) (take 8 ys) =
    ap (λ n. nat_cmp n second) one ∙ ap (nat_cmp (value (take 8 xs))) two
    ∙ by_value (take 8 xs) (take 8 ys) (long ∙ sym other) (small_front 8 xs are.small) (small_front 8 ys are.other_small) in
    parted 8 xs ys are.long are.other_long ∙ ap (λ o. ordering_then o (slice_cmp nat_cmp (drop 8 xs) (drop 8 ys))) (sym front)

pub decided : (first second : ℕ) (o : Ordering) → first ≢ second → ordering_then (nat_cmp first second) o ≡ nat_cmp first second
decided first second o apart =
    elim (cases_lt first second) [
      | inl less ↦ let is = nat_cmp_is first second Less less in ap (λ r. ordering_then r o) (sym is) ∙ is
      | inr up ↦ let is = nat_cmp_is first second Greater (omega arith) in ap (λ r. ordering_then r o) (sym is) ∙ is
    ]

pub undecided : (first second : ℕ) (o : Ordering) → first ≡ second → ordering_then (nat_cmp first second) o ≡ o
undecided first second o same = ap (λ r. ordering_then r o) (sym (nat_cmp_is first second Equal same))
