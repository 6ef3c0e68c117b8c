-- Lemmas on the goals so far.
use Rattle.std.proofs.Common.{suc, ◌<◌, ◌≤◌, length, get_or, arith, take-append-drop, drop-cons, append-nil, append_assoc, ◌≡◌, ◌∙◌, ℕ, ◌+◌, List, [], ◌∷◌, ◌++◌, take, drop, Ok, Err, ap, sym, refl, map, Result}
use Rattle.std.specs.List.{enumerate_from}
use Rattle.mk_name.specs.Names.{Name}
use Rattle.mk_name.specs.Reported.{Reported}
use Rattle.mk_name.specs.Gives.{Halts}
use Rattle.mk_name.specs.declared.fault.Halt.{Halt}
use Rattle.mk_name.specs.declared.fault.Halt.TheVariants as halts
use Rattle.std.specs.Borrow.{Bor}
use Rattle.std.proofs.lemmas.List.{length-take-le, take_more}
use Rattle.mk_race.specs.Settings.{all_or_fault, goals_at, in_front}

same_Ok : (x y : List Name) → ◌≡◌ {A = Result (List Name) Reported} (Ok x) (Ok y) → x ≡ y
same_Ok x y e = cc

-- behind values there is no fault but the next one
behind : (xs : List (Result (List Name) Reported)) (r : Result (List Name) Reported) (rest : List (Result (List Name) Reported)) (names : List Name) (reported : Reported)
    → all_or_fault xs ≡ Ok names → r ≡ Err reported → all_or_fault (xs ++ r ∷ rest) ≡ Err reported
behind [] r rest names reported e f = rw f refl
behind (Ok x ∷ xs) r rest names reported e f = go (all_or_fault xs) (λ ys is. behind xs r rest ys reported is f) refl e
  where
    go : (o : Result (List Name) Reported) → ((ys : List Name) → all_or_fault xs ≡ Ok ys → all_or_fault (xs ++ r ∷ rest) ≡ Err reported)
        → all_or_fault xs ≡ o → in_front x o ≡ Ok names → in_front x (all_or_fault (xs ++ r ∷ rest)) ≡ Err reported
    go (Ok ys) more is e = ap (in_front x) (more ys is)
    go (Err t) more is e = cc
behind (Err t ∷ xs) r rest names reported e f = cc

-- some values more
some_more : (xs : List (Result (List Name) Reported)) (r : Result (List Name) Reported) (names others : List Name)
    → all_or_fault xs ≡ Ok names → r ≡ Ok others → all_or_fault (xs ++ r ∷ []) ≡ Ok (names ++ others)
some_more [] r names others e f = rw f (ap Ok (append-nil others ∙ ap (λ l. l ++ others) (same_Ok [] names e)))
some_more (Ok x ∷ xs) r names others e f = go (all_or_fault xs) (λ ys is. some_more xs r ys others is f) refl e
  where
    go : (o : Result (List Name) Reported) → ((ys : List Name) → all_or_fault xs ≡ Ok ys → all_or_fault (xs ++ r ∷ []) ≡ Ok (ys ++ others))
        → all_or_fault xs ≡ o → in_front x o ≡ Ok names → in_front x (all_or_fault (xs ++ r ∷ [])) ≡ Ok (names ++ others)
    go (Ok ys) more is e = ap (in_front x) (more ys is) ∙ ap Ok (sym (append_assoc x ys others) ∙ ap (λ l. l ++ others) (same_Ok (x ++ ys) names e))
    go (Err t) more is e = cc
some_more (Err t ∷ xs) r names others e f = cc

-- what the operands give, the first of which has this place
abbrev given : Name → ℕ → List (Bor Name) → List (Result (List Name) Reported)
given root place operands = map (goals_at root) (enumerate_from place (map (λ (operand : Bor Name). operand.now) operands))

given-append : (root : Name) (place : ℕ) (xs ys : List (Bor Name)) → given root place (xs ++ ys) ≡ given root place xs ++ given root (place + length xs) ys
given-append root place [] ys = ap (λ n. given root n ys) (let e : place ≡ place + 0 = omega arith in e)
given-append root place (x ∷ xs) ys =
    let e : place + 1 + length xs ≡ place + suc (length xs) = omega arith in
    ap (λ l. goals_at root (place, x.now) ∷ l) (given-append root (place + 1) xs ys ∙ ap (λ n. given root (place + 1) xs ++ given root n ys) e)

place_is : (operands : List (Bor Name)) (i : ℕ) → i < length operands → 1 + length (take i operands) ≡ i + 1
place_is operands i within = let full : i ≤ length operands = omega arith in omega (arith, length-take-le i operands full)

-- the names of one operand more
pub goals_more : (root : Name) (operands : List (Bor Name)) (i : ℕ) (d : Bor Name) (names others : List Name) → i < length operands
    → all_or_fault (given root 1 (take i operands)) ≡ Ok names → goals_at root (i + 1, (get_or operands i d).now) ≡ Ok others
    → all_or_fault (given root 1 (take (i + 1) operands)) ≡ Ok (names ++ others)
goals_more root operands i d names others within so_far next =
    let x = get_or operands i d in
    ap (λ (l : List (Bor Name)). all_or_fault (given root 1 l)) (take_more operands i d within)
    ∙ ap all_or_fault (given-append root 1 (take i operands) (x ∷ []) ∙ ap (λ n. given root 1 (take i operands) ++ goals_at root (n, x.now) ∷ []) (place_is operands i within))
    ∙ some_more (given root 1 (take i operands)) (goals_at root (i + 1, x.now)) names others so_far next

-- the fault of the first operand that has one
pub goals_fault : (root : Name) (operands : List (Bor Name)) (i : ℕ) (d : Bor Name) (names : List Name) (reported : Reported) → i < length operands
    → all_or_fault (given root 1 (take i operands)) ≡ Ok names → goals_at root (i + 1, (get_or operands i d).now) ≡ Err reported
    → all_or_fault (given root 1 operands) ≡ Err reported
goals_fault root operands i d names reported within so_far next =
    let x = get_or operands i d in
    let rest = drop (suc i) operands in
    let whole : operands ≡ take i operands ++ x ∷ rest = sym (take-append-drop i operands) ∙ ap (λ l. take i operands ++ l) (drop-cons operands i d within) in
    ap (λ (l : List (Bor Name)). all_or_fault (given root 1 l)) whole
    ∙ ap all_or_fault (given-append root 1 (take i operands) (x ∷ rest)
    ∙ ap (λ n. given root 1 (take i operands) ++ goals_at root (n, x.now) ∷ given root (1 + length (take i operands) + 1) rest) (place_is operands i within))
    ∙ behind (given root 1 (take i operands)) (goals_at root (i + 1, x.now)) (given root (1 + length (take i operands) + 1) rest) names reported so_far next

-- a fault has no others in front of it
fault_alone : (names : List Name) (more : Result (List Name) Reported) (reported : Reported) → in_front names more ≡ Err reported → more ≡ Err reported
fault_alone names (Ok others) reported e = absurd (cc e)
fault_alone names (Err fault) reported e = e

fault_first : (xs ys : List (Result (List Name) Reported)) (reported : Reported) → all_or_fault xs ≡ Err reported → all_or_fault (xs ++ ys) ≡ Err reported
fault_first [] ys reported e = absurd (cc e)
fault_first (Ok x ∷ xs) ys reported e = ap (in_front x) (fault_first xs ys reported (fault_alone x (all_or_fault xs) reported e))
fault_first (Err t ∷ xs) ys reported e = e

-- the fault of the operands to the left is that of all
pub fault_to_the_left : (root : Name) (operands : List (Bor Name)) (n : ℕ) (reported : Reported)
    → all_or_fault (given root 1 (take n operands)) ≡ Err reported → all_or_fault (given root 1 operands) ≡ Err reported
fault_to_the_left root operands n reported e =
    ap (λ (l : List (Bor Name)). all_or_fault (given root 1 l)) (sym (take-append-drop n operands))
    ∙ ap all_or_fault (given-append root 1 (take n operands) (drop n operands))
    ∙ fault_first (given root 1 (take n operands)) (given root (1 + length (take n operands)) (drop n operands)) reported e

-- a halt for one answer is one for another with the same faults
pub Halts-along : {X Y : Type 0} (halt : Halt) (small : Result X Reported) (big : Result Y Reported) → ((reported : Reported) → small ≡ Err reported → big ≡ Err reported)
    → Halts halt small → Halts halt big
Halts-along halts.Memory small big same h = tt
Halts-along (halts.Fault fault) small big same h = same fault h
