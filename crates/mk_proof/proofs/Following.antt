-- What may stand behind the lines of a trace.
use Rattle.std.proofs.Common.{◌≡◌, ℕ, ◌≤◌, ◌⊎◌, inl, inr, List, [], ◌∷◌, ◌++◌, map, get_or, refl, sym, ap, ap₂, arith}
use Rattle.std.proofs.lemmas.Bool.{eqb-false}
use Rattle.std.proofs.lemmas.Fmt.{decimal_injective}
use Rattle.std.proofs.lemmas.List.Elements.{All-head, All-tail}
use Rattle.std.specs.Fmt.{decimal}
use Rattle.std.specs.List.{All}
use Rattle.mk_proof.specs.Drafts.{IsTimed}
use Rattle.mk_proof.specs.ProofText.{ProofLine, end_line, step_line, time_line}
use Rattle.mk_proof.specs.Shapes.{greatest_node, node_of}
use Rattle.mk_proof.specs.declared.step.Step.{Step}
use Rattle.mk_proof.specs.declared.step.Step.TheVariants.{Skip, Start, Finish}

-- ---- lists of which the first and the others are the same

pub heads : {X : Type 0} (x y : X) (xs ys : List X) → x ∷ xs ≡ y ∷ ys → x ≡ y
heads x y xs ys same = cc

pub tails : {X : Type 0} (x y : X) (xs ys : List X) → x ∷ xs ≡ y ∷ ys → xs ≡ ys
tails x y xs ys same = cc

pub not_nil : {X : Type 0} (x : X) (xs : List X) → [] ≡ x ∷ xs → ⊥
not_nil x xs same = cc

-- lists that are mapped one to one, where the images of one begin the images of the other
pub one_to_one : {X Y : Type 0} (f : X → Y) (P : X → Type 0) → ((a b : X) → P a → P b → f a ≡ f b → a ≡ b) → (xs ys : List X) (back : List Y)
    → All P xs → All P ys → map f ys ≡ map f xs ++ back → (more : List X) × (ys ≡ xs ++ more) × (map f more ≡ back)
one_to_one f P inj [] ys back small large same = (ys, refl, same)
one_to_one f P inj (x ∷ xs) [] back small large same = absurd (not_nil (f x) (map f xs ++ back) same)
one_to_one {X} f P inj (x ∷ xs) (y ∷ ys) back small large same =
    let first : y ≡ x = inj y x (All-head P y ys large) (All-head P x xs small) (heads (f y) (f x) (map f ys) (map f xs ++ back) same) in
    let later = one_to_one f P inj xs ys back (All-tail P x xs small) (All-tail P y ys large) (tails (f y) (f x) (map f ys) (map f xs ++ back) same) in
    (later.0, ap₂ (λ (z : X) (zs : List X). z ∷ zs) first later.1, later.2)

-- lists with the same images
pub map_same : {X Y : Type 0} (f : X → Y) (P : X → Type 0) → ((a b : X) → P a → P b → f a ≡ f b → a ≡ b) → (xs ys : List X)
    → All P xs → All P ys → map f xs ≡ map f ys → xs ≡ ys
map_same f P inj [] [] small large same = refl
map_same f P inj [] (y ∷ ys) small large same = absurd (not_nil (f y) (map f ys) same)
map_same f P inj (x ∷ xs) [] small large same = absurd (not_nil (f x) (map f xs) (sym same))
map_same {X} f P inj (x ∷ xs) (y ∷ ys) small large same =
    ap₂ (λ (z : X) (zs : List X). z ∷ zs) (inj x y (All-head P x xs small) (All-head P y ys large) (heads (f x) (f y) (map f xs) (map f ys) same))
    (map_same f P inj xs ys (All-tail P x xs small) (All-tail P y ys large) (tails (f x) (f y) (map f xs) (map f ys) same))

-- ---- lines

pub decimal_same : (m n : ℕ) → m ≤ 10000000 → n ≤ 10000000 → decimal m ≡ decimal n → m ≡ n
decimal_same m n small large same = decimal_injective m n (omega arith) (omega arith) same

-- the third byte of a line's first word, by which the lines differ
abbrev pub tag : ProofLine → ℕ
tag line = get_or (get_or line 0 []) 2 0

-- a step's line says it
second_word : ProofLine → List ℕ
second_word line = get_or line 1 []

pub step_same : (s t : Step) → node_of s ≤ greatest_node → node_of t ≤ greatest_node → step_line s ≡ step_line t → s ≡ t
unfolding second_word
step_same (Skip m) (Skip n) small large same = ap (λ k. Skip k) (decimal_same m n (omega arith) (omega arith) (ap second_word same))
step_same (Start m) (Start n) small large same = ap (λ k. Start k) (decimal_same m n (omega arith) (omega arith) (ap second_word same))
step_same (Finish m) (Finish n) small large same = ap (λ k. Finish k) (decimal_same m n (omega arith) (omega arith) (ap second_word same))
step_same (Skip m) (Start n) small large same = absurd (eqb-false 105 97 refl (ap tag same))
step_same (Skip m) (Finish n) small large same = absurd (eqb-false 105 110 refl (ap tag same))
step_same (Start m) (Skip n) small large same = absurd (eqb-false 97 105 refl (ap tag same))
step_same (Start m) (Finish n) small large same = absurd (eqb-false 97 110 refl (ap tag same))
step_same (Finish m) (Skip n) small large same = absurd (eqb-false 110 105 refl (ap tag same))
step_same (Finish m) (Start n) small large same = absurd (eqb-false 110 97 refl (ap tag same))

-- a time's line says it
pub pair_same : (p q : ℕ × ℕ) → p.0 ≤ 10000000 → p.1 ≤ 10000000 → q.0 ≤ 10000000 → q.1 ≤ 10000000 → decimal p.0 ≡ decimal q.0 → decimal p.1 ≡ decimal q.1 → p ≡ q
pair_same p q a b c d first second = ap₂ (λ (m n : ℕ). (m, n)) (decimal_same p.0 q.0 a c first) (decimal_same p.1 q.1 b d second)

pub time_same : (t u : ℕ × ℕ) → IsTimed t → IsTimed u → time_line t ≡ time_line u → t ≡ u
time_same t u small large same =
    pair_same t u (omega (arith, small.0)) (omega (arith, small.1)) (omega (arith, large.0)) (omega (arith, large.1))
    (ap (λ (line : ProofLine). get_or line 1 []) same) (ap (λ (line : ProofLine). get_or line 2 []) same)

-- a step, a time and the end have different lines
pub step_not_time : (s : Step) (t : ℕ × ℕ) → step_line s ≡ time_line t → ⊥
step_not_time (Skip n) t same = eqb-false 105 109 refl (ap tag same)
step_not_time (Start n) t same = eqb-false 97 109 refl (ap tag same)
step_not_time (Finish n) t same = eqb-false 110 109 refl (ap tag same)

pub end_not_step : (s : Step) → end_line ≡ step_line s → ⊥
end_not_step (Skip n) same = eqb-false 100 105 refl (ap tag same)
end_not_step (Start n) same = eqb-false 100 97 refl (ap tag same)
end_not_step (Finish n) same = eqb-false 100 110 refl (ap tag same)

pub end_not_time : (t : ℕ × ℕ) → end_line ≡ time_line t → ⊥
end_not_time t same = eqb-false 100 109 refl (ap tag same)

-- ---- the lines of a trace's times and steps

-- what stands behind some steps of a trace: its end, or another step
abbrev pub NextStep : List Step → List Step → List ProofLine → Type 0
NextStep steps all back =
    ((all ≡ steps) × (back ≡ end_line ∷ []))
    ⊎ ((step : Step) × (more : List Step) × (behind : List ProofLine) × (all ≡ steps ++ step ∷ more) × (back ≡ step_line step ∷ behind))

-- what stands behind some times and steps of a trace: its end or another step, or, where there are no steps yet, another time
abbrev pub Next : List (ℕ × ℕ) → List (ℕ × ℕ) → List Step → List Step → List ProofLine → Type 0
Next times all_times steps all_steps back =
    ((all_times ≡ times) × NextStep steps all_steps back)
    ⊎ ((timed : ℕ × ℕ) × (more : List (ℕ × ℕ)) × (behind : List ProofLine) × (steps ≡ []) × (all_times ≡ times ++ timed ∷ more) × (back ≡ time_line timed ∷ behind))

abbrev AreSmall : List Step → Type 0
AreSmall steps = All (λ step. node_of step ≤ greatest_node) steps

step_on : (first step : Step) (steps all : List Step) (back : List ProofLine) → step ≡ first → NextStep steps all back → NextStep (first ∷ steps) (step ∷ all) back
step_on first step steps all back same (inl ends) = inl (ap₂ (λ (s : Step) (ss : List Step). s ∷ ss) same ends.0, ends.1)
step_on first step steps all back same (inr goes) = inr (goes.0, goes.1, goes.2, ap₂ (λ (s : Step) (ss : List Step). s ∷ ss) same goes.3, goes.4)

next_step : (steps all : List Step) (back : List ProofLine) → AreSmall steps → AreSmall all
    → map step_line all ++ end_line ∷ [] ≡ map step_line steps ++ back → NextStep steps all back
next_step [] [] back small large same = inl (refl, sym same)
next_step [] (step ∷ more) back small large same = inr (step, more, map step_line more ++ end_line ∷ [], refl, sym same)
next_step (first ∷ steps) [] back small large same = absurd (end_not_step first (heads end_line (step_line first) [] (map step_line steps ++ back) same))
next_step (first ∷ steps) (step ∷ all) back small large same =
    let P : Step → Type 0 = λ s. node_of s ≤ greatest_node in
    step_on first step steps all back
    (step_same step first (All-head P step all large) (All-head P first steps small) (heads (step_line step) (step_line first) (map step_line all ++ end_line ∷ []) (map step_line steps ++ back) same))
    (next_step steps all back (All-tail P first steps small) (All-tail P step all large) (tails (step_line step) (step_line first) (map step_line all ++ end_line ∷ []) (map step_line steps ++ back) same))

time_on : (first timed : ℕ × ℕ) (times all_times : List (ℕ × ℕ)) (steps all_steps : List Step) (back : List ProofLine) → timed ≡ first
    → Next times all_times steps all_steps back → Next (first ∷ times) (timed ∷ all_times) steps all_steps back
time_on first timed times all_times steps all_steps back same (inl goes) = inl (ap₂ (λ (t : ℕ × ℕ) (ts : List (ℕ × ℕ)). t ∷ ts) same goes.0, goes.1)
time_on first timed times all_times steps all_steps back same (inr goes) =
    inr (goes.0, goes.1, goes.2, goes.3, ap₂ (λ (t : ℕ × ℕ) (ts : List (ℕ × ℕ)). t ∷ ts) same goes.4, goes.5)

-- where no time has come
no_time : (all_times : List (ℕ × ℕ)) (steps all_steps : List Step) (back : List ProofLine) → AreSmall steps → AreSmall all_steps
    → (map time_line all_times ++ map step_line all_steps) ++ end_line ∷ [] ≡ map step_line steps ++ back → Next [] all_times steps all_steps back
no_time [] steps all_steps back small large same = inl (refl, next_step steps all_steps back small large same)
no_time (timed ∷ more) [] all_steps back small large same = inr (timed, more, (map time_line more ++ map step_line all_steps) ++ end_line ∷ [], refl, refl, sym same)
no_time (timed ∷ more) (step ∷ steps) all_steps back small large same =
    absurd (step_not_time step timed (sym (heads (time_line timed) (step_line step) ((map time_line more ++ map step_line all_steps) ++ end_line ∷ []) (map step_line steps ++ back) same)))

-- the lines that some times and steps begin are those of all times and steps, and of the end
pub next : (times all_times : List (ℕ × ℕ)) (steps all_steps : List Step) (back : List ProofLine) → All IsTimed times → All IsTimed all_times → AreSmall steps → AreSmall all_steps
    → (map time_line all_times ++ map step_line all_steps) ++ end_line ∷ [] ≡ (map time_line times ++ map step_line steps) ++ back
    → Next times all_times steps all_steps back
next [] all_times steps all_steps back t u small large same = no_time all_times steps all_steps back small large same
next (first ∷ times) [] steps [] back t u small large same =
    absurd (end_not_time first (heads end_line (time_line first) [] ((map time_line times ++ map step_line steps) ++ back) same))
next (first ∷ times) [] steps (step ∷ all_steps) back t u small large same =
    absurd (step_not_time step first (heads (step_line step) (time_line first) (map step_line all_steps ++ end_line ∷ []) ((map time_line times ++ map step_line steps) ++ back) same))
next (first ∷ times) (timed ∷ all_times) steps all_steps back t u small large same =
    time_on first timed times all_times steps all_steps back
    (time_same timed first (All-head IsTimed timed all_times u) (All-head IsTimed first times t)
    (heads (time_line timed) (time_line first) ((map time_line all_times ++ map step_line all_steps) ++ end_line ∷ []) ((map time_line times ++ map step_line steps) ++ back) same))
    (next times all_times steps all_steps back (All-tail IsTimed first times t) (All-tail IsTimed timed all_times u) small large
    (tails (time_line timed) (time_line first) ((map time_line all_times ++ map step_line all_steps) ++ end_line ∷ []) ((map time_line times ++ map step_line steps) ++ back) same))
