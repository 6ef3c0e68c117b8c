-- Each proof has one text, and a text that is none has a first line that is not good.
use Rattle.std.proofs.Common.{◌≡◌, ℕ, ◌<◌, ◌≤◌, inl, inr, List, [], ◌∷◌, ◌++◌, Result, Ok, Err, length, map, get_or, codes, refl, sym, ap, ap₂, ◌∙◌, subst, arith}
use Rattle.std.proofs.lemmas.Bool.{eqb-false}
use Rattle.std.proofs.lemmas.List.{append-nil, length-append, length-map}
use Rattle.std.proofs.lemmas.List.Elements.{All-append, All-cons, All-map, All-nil, All-weaker}
use Rattle.std.specs.Fmt.{decimal}
use Rattle.std.specs.List.{All}
use Rattle.hex.proofs.HexLemmas.{decode_of-encode_lower, decode_of-same}
use Rattle.hex.specs.Hex.{IsBytes, decode_of, encode_lower}
use Rattle.mk_name.specs.Reported.{Reported}
use Rattle.mk_proof.proofs.Beginnings.{chain_same, chains_front, next_of}
use Rattle.mk_proof.proofs.Following.{Next, decimal_same, end_not_step, end_not_time, heads, map_same, next, not_nil, tag, tails}
use Rattle.mk_proof.proofs.Words.{IsClean, IsCleanLine, Lacks-decimal, Lacks-encode_lower, Lacks-from, whole_lines-text}
use Rattle.mk_proof.specs.Drafts.{IsTimed}
use Rattle.mk_proof.specs.ProofText.{BeginProof, IsProofRead, IsShapedProof, ProofLine, ReadsAs, chain_line, count_line, end_line, nodes_line, open_lines, path_line, proof_lines, proof_text, step_line, time_line, trace_lines, whole_lines, certificate_lines}
use Rattle.mk_proof.specs.Shapes.{AreShapedChains, IsShapedChain, IsShapedTrace, Trace, greatest_node, most_chains, node_of}
use Rattle.mk_proof.specs.declared.proof.Proof.{Proof}
use Rattle.mk_proof.specs.declared.proof.Proof.TheVariants as proofs
use Rattle.mk_proof.specs.declared.step.Step.{Step}
use Rattle.mk_proof.specs.declared.step.Step.TheVariants.{Skip, Start, Finish}

-- ---- the words of a proof hold no spaces and no newlines

clean_decimal : (n : ℕ) → n ≤ 10000000 → IsClean (decimal n)
clean_decimal n small = (Lacks-decimal 32 n (omega arith) (omega arith), Lacks-decimal 10 n (omega arith) (omega arith))

clean_one : (w : List ℕ) → IsClean w → IsCleanLine (w ∷ [])
clean_one w one = (omega arith, All-cons IsClean w [] one (All-nil IsClean))

clean_two : (w v : List ℕ) → IsClean w → IsClean v → IsCleanLine (w ∷ v ∷ [])
clean_two w v one two = (omega arith, All-cons IsClean w (v ∷ []) one (clean_one v two).1)

clean_three : (w v u : List ℕ) → IsClean w → IsClean v → IsClean u → IsCleanLine (w ∷ v ∷ u ∷ [])
clean_three w v u one two three = (omega arith, All-cons IsClean w (v ∷ u ∷ []) one (clean_two v u two three).1)

clean_chain : (chain : List ℕ) → IsShapedChain chain → IsCleanLine (chain_line chain)
clean_chain chain shaped =
    let long = length-map chain decimal in
    (omega (arith, shaped.long), All-map IsClean decimal chain (All-weaker (λ n. n ≤ greatest_node) (λ n. IsClean (decimal n)) (λ n small. clean_decimal n (omega arith)) chain shaped.nodes))

clean_time : (timed : ℕ × ℕ) → IsTimed timed → IsCleanLine (time_line timed)
clean_time timed small =
    clean_three (codes "time") (decimal timed.0) (decimal timed.1) (Lacks-from 32 (codes "time") refl, Lacks-from 10 (codes "time") refl) (clean_decimal timed.0 (omega (arith, small.0))) (clean_decimal timed.1 (omega (arith, small.1)))

clean_step : (step : Step) → node_of step ≤ greatest_node → IsCleanLine (step_line step)
clean_step (Skip n) small = clean_two (codes "skip") (decimal n) (Lacks-from 32 (codes "skip") refl, Lacks-from 10 (codes "skip") refl) (clean_decimal n (omega arith))
clean_step (Start n) small = clean_two (codes "start") (decimal n) (Lacks-from 32 (codes "start") refl, Lacks-from 10 (codes "start") refl) (clean_decimal n (omega arith))
clean_step (Finish n) small = clean_two (codes "finish") (decimal n) (Lacks-from 32 (codes "finish") refl, Lacks-from 10 (codes "finish") refl) (clean_decimal n (omega arith))

clean_end : IsCleanLine end_line
clean_end = clean_one (codes "end") (Lacks-from 32 (codes "end") refl, Lacks-from 10 (codes "end") refl)

pub clean : (proof : Proof) → IsShapedProof proof → All IsCleanLine (proof_lines proof)
clean (proofs.Certificate chains) shaped =
    All-cons IsCleanLine (count_line (length chains)) (map chain_line chains)
    (clean_two (codes "certificate") (decimal (length chains)) (Lacks-from 32 (codes "certificate") refl, Lacks-from 10 (codes "certificate") refl) (clean_decimal (length chains) (omega (arith, shaped.few))))
    (All-map IsCleanLine chain_line chains (All-weaker IsShapedChain (λ chain. IsCleanLine (chain_line chain)) clean_chain chains shaped.each))
clean (proofs.Trace trace) shaped =
    let whole = shaped.0 in
    let spelled = Lacks-encode_lower trace.path shaped.1 in
    let times = All-map IsCleanLine time_line trace.times (All-weaker IsTimed (λ t. IsCleanLine (time_line t)) clean_time trace.times whole.times.small) in
    let steps = All-map IsCleanLine step_line trace.steps (All-weaker (λ s. node_of s ≤ greatest_node) (λ s. IsCleanLine (step_line s)) clean_step trace.steps whole.steps) in
    let first = clean_three (codes "trace") (decimal trace.first) (decimal trace.second) (Lacks-from 32 (codes "trace") refl, Lacks-from 10 (codes "trace") refl)
    (clean_decimal trace.first (omega (arith, whole.order, whole.second))) (clean_decimal trace.second (omega (arith, whole.second))) in
    let second = clean_two (codes "path") (encode_lower trace.path) (Lacks-from 32 (codes "path") refl, Lacks-from 10 (codes "path") refl) spelled in
    let lines = map time_line trace.times ++ map step_line trace.steps in
    let last = All-append IsCleanLine lines (end_line ∷ []) (All-append IsCleanLine (map time_line trace.times) (map step_line trace.steps) times steps)
    (All-cons IsCleanLine end_line [] clean_end (All-nil IsCleanLine)) in
    All-cons IsCleanLine (nodes_line (trace.first, trace.second)) (path_line trace.path ∷ (lines ++ end_line ∷ [])) first
    (All-cons IsCleanLine (path_line trace.path) (lines ++ end_line ∷ []) second last)

-- so its whole lines are its lines
pub whole : (proof : Proof) (text : List ℕ) → IsShapedProof proof → proof_text proof ≡ text → whole_lines text ≡ proof_lines proof
whole proof text shaped is = ap whole_lines (sym is) ∙ whole_lines-text (proof_lines proof) (clean proof shaped)

-- ---- the lines of a proof say it

spelled_same : (xs ys : List ℕ) → IsBytes xs → IsBytes ys → encode_lower xs ≡ encode_lower ys → xs ≡ ys
spelled_same xs ys small large same = decode_of-same (encode_lower ys) xs ys (ap decode_of (sym same) ∙ decode_of-encode_lower xs small) (decode_of-encode_lower ys large)

-- the times and steps of two traces with the same lines
same_steps : (trace other : Trace) → Next trace.times other.times trace.steps other.steps (end_line ∷ []) → (other.times ≡ trace.times) × (other.steps ≡ trace.steps)
same_steps trace other (inl (times, inl ends)) = (times, ends.0)
same_steps trace other (inl (times, inr goes)) = absurd (end_not_step goes.0 (heads end_line (step_line goes.0) [] goes.2 goes.4))
same_steps trace other (inr goes) = absurd (end_not_time goes.0 (heads end_line (time_line goes.0) [] goes.2 goes.5))

same_trace : (trace other : Trace) → IsShapedTrace trace → IsShapedTrace other → IsBytes trace.path → IsBytes other.path → trace_lines other ≡ trace_lines trace → other ≡ trace
same_trace trace other small large bytes more same =
    let first = heads (nodes_line (other.first, other.second)) (nodes_line (trace.first, trace.second)) _ _ same in
    let behind = tails (nodes_line (other.first, other.second)) (nodes_line (trace.first, trace.second)) _ _ same in
    let path = spelled_same other.path trace.path more bytes (ap (λ (line : ProofLine). get_or line 1 []) (heads (path_line other.path) (path_line trace.path) _ _ behind)) in
    let one = decimal_same other.first trace.first (omega (arith, large.order, large.second)) (omega (arith, small.order, small.second)) (ap (λ (line : ProofLine). get_or line 1 []) first) in
    let two = decimal_same other.second trace.second (omega (arith, large.second)) (omega (arith, small.second)) (ap (λ (line : ProofLine). get_or line 2 []) first) in
    let steps = same_steps trace other (next_of trace other end_line [] small large (same ∙ sym (append-nil (trace_lines trace)))) in
    λ i. record { first = one i; second = two i; path = path i; times = steps.0 i; steps = steps.1 i }

same_lines : (p q : Proof) → IsShapedProof p → IsShapedProof q → proof_lines p ≡ proof_lines q → p ≡ q
same_lines (proofs.Certificate chains) (proofs.Certificate other) small large same =
    ap (λ cs. proofs.Certificate cs) (map_same chain_line IsShapedChain chain_same chains other small.each large.each
    (tails (count_line (length chains)) (count_line (length other)) (map chain_line chains) (map chain_line other) same))
same_lines (proofs.Certificate chains) (proofs.Trace trace) small large same =
    absurd (eqb-false 114 97 refl (ap tag (heads (count_line (length chains)) (nodes_line (trace.first, trace.second)) (map chain_line chains) _ same)))
same_lines (proofs.Trace trace) (proofs.Certificate chains) small large same =
    absurd (eqb-false 97 114 refl (ap tag (heads (nodes_line (trace.first, trace.second)) (count_line (length chains)) _ (map chain_line chains) same)))
same_lines (proofs.Trace trace) (proofs.Trace other) small large same =
    ap (λ t. proofs.Trace t) (same_trace other trace large.0 small.0 large.1 small.1 same)

pub one_text : (p q : Proof) → IsShapedProof p → IsShapedProof q → proof_text p ≡ proof_text q → p ≡ q
one_text p q small large same = same_lines p q small large (sym (whole p (proof_text q) small same) ∙ whole q (proof_text q) large refl)

-- ---- the answer on the text of a proof

answer_is : (text : List ℕ) (proof : Proof) → IsShapedProof proof → proof_text proof ≡ text → (answer : Result Proof Reported) → IsProofRead text answer → answer ≡ Ok proof
answer_is text proof shaped is (Ok other) read = ap (λ p. Ok p) (one_text other proof read.0 shaped (read.1 ∙ sym is))
answer_is text proof shaped is (Err fault) read = absurd (read.none proof shaped is)

pub reads_as : (text : List ℕ) (proof : Proof) → IsShapedProof proof → proof_text proof ≡ text → ReadsAs text proof
reads_as text proof shaped is answer = (
  λ read. answer_is text proof shaped is answer read,
  λ same. subst (IsProofRead text) (sym same) (shaped, is),
)

-- ---- beginnings

-- the front of a list that is mapped
map_front : {X Y : Type 0} (f : X → Y) (xs : List X) (front back : List Y) → map f xs ≡ front ++ back
    → (first : List X) × (more : List X) × (xs ≡ first ++ more) × (map f first ≡ front)
map_front f xs [] back same = ([], xs, refl, refl)
map_front f [] (y ∷ front) back same = absurd (not_nil y (front ++ back) same)
map_front {X} {Y} f (x ∷ xs) (y ∷ front) back same =
    let later = map_front f xs front back (tails (f x) y (map f xs) (front ++ back) same) in
    (x ∷ later.0, later.1, ap (λ (zs : List X). x ∷ zs) later.2, ap₂ (λ (z : Y) (zs : List Y). z ∷ zs) (heads (f x) y (map f xs) (front ++ back) same) later.3)

-- the first lines of a proof begin one
pub begins : (proof : Proof) (front back : List ProofLine) → IsShapedProof proof → 0 < length front → proof_lines proof ≡ front ++ back → BeginProof front
begins proof [] back shaped some same = absurd (omega arith)
begins (proofs.Certificate chains) (first ∷ front) back shaped some same =
    let split = map_front chain_line chains front back (tails (count_line (length chains)) first (map chain_line chains) (front ++ back) same) in
    let long = length-append split.0 split.1 in
    inl (record {
      count = length chains;
      chains = split.0;
      small = shaped.few;
      few = omega (arith, ap length split.2);
      shaped = chains_front split.0 split.1 (subst AreShapedChains split.2 shaped);
      are = ap₂ (λ (l : ProofLine) (ls : List ProofLine). l ∷ ls) (heads (count_line (length chains)) first (map chain_line chains) (front ++ back) same) split.3;
    })
begins (proofs.Trace trace) (first ∷ front) back shaped some same =
    inr (record { trace = trace; rest = back; shaped = shaped.0; bytes = shaped.1; are = same })

-- ---- lines that are not all of a proof

pub not_all_chains : (count : ℕ) (chains : List (List ℕ)) → count ≤ most_chains → ¬ (length chains ≡ count)
    → (proof : Proof) → IsShapedProof proof → proof_lines proof ≡ certificate_lines count chains → ⊥
not_all_chains count chains small other (proofs.Certificate all) shaped same =
    let counts = decimal_same (length all) count (omega (arith, shaped.few)) (omega arith)
    (ap (λ (l : ProofLine). get_or l 1 []) (heads (count_line (length all)) (count_line count) (map chain_line all) (map chain_line chains) same)) in
    let lines = ap length (tails (count_line (length all)) (count_line count) (map chain_line all) (map chain_line chains) same) in
    other (sym (length-map chains chain_line) ∙ sym lines ∙ length-map all chain_line ∙ counts)
not_all_chains count chains small other (proofs.Trace trace) shaped same =
    eqb-false 97 114 refl (ap tag (heads (nodes_line (trace.first, trace.second)) (count_line count) _ (map chain_line chains) same))

nothing_next : (trace all : Trace) (back : List ProofLine) → back ≡ [] → Next trace.times all.times trace.steps all.steps back → ⊥
nothing_next trace all back none (inl (times, inl ends)) = not_nil end_line [] (sym none ∙ ends.1)
nothing_next trace all back none (inl (times, inr goes)) = not_nil (step_line goes.0) goes.2 (sym none ∙ goes.4)
nothing_next trace all back none (inr goes) = not_nil (time_line goes.0) goes.2 (sym none ∙ goes.5)

pub not_ended : (trace : Trace) → IsShapedTrace trace → (proof : Proof) → IsShapedProof proof → proof_lines proof ≡ open_lines trace → ⊥
not_ended trace small (proofs.Certificate all) shaped same =
    eqb-false 114 97 refl (ap tag (heads (count_line (length all)) (nodes_line (trace.first, trace.second)) (map chain_line all) _ same))
not_ended trace small (proofs.Trace all) shaped same =
    let lines = map time_line trace.times ++ map step_line trace.steps in
    let rest = tails (path_line all.path) (path_line trace.path) _ _ (tails (nodes_line (all.first, all.second)) (nodes_line (trace.first, trace.second)) _ _ same) in
    nothing_next trace all [] refl (next trace.times all.times trace.steps all.steps [] small.times.small shaped.0.times.small small.steps shaped.0.steps (rest ∙ sym (append-nil lines)))
