-- What may stand behind the lines of a draft.
use Rattle.std.proofs.Common.{◌≡◌, ℕ, ◌<◌, ◌≤◌, ◌⊎◌, inl, inr, Bool, true, false, List, [], ◌∷◌, ◌++◌, length, map, get_or, refl, sym, ap, ap₂, ◌∙◌, subst, arith, append_assoc}
use Rattle.std.proofs.lemmas.Bool.{eqb-false, false≢true, true≢false}
use Rattle.std.proofs.lemmas.Cmp.{nat_cmp_total}
use Rattle.std.proofs.lemmas.List.{append-nil, length-append, length_push, map-append, map_push}
use Rattle.std.proofs.lemmas.List.Elements.{All-head}
use Rattle.std.specs.Fmt.{decimal}
use Rattle.std.specs.List.{All}
use Rattle.std.specs.List.Sorted.{IsStrictlySortedBy}
use Rattle.std.specs.Map.{keys_of}
use Rattle.std.specs.Ordering.{nat_cmp}
use Rattle.hex.specs.Hex.{IsBytes}
use Rattle.mk_proof.proofs.Following.{Next, decimal_same, end_not_step, end_not_time, heads, map_same, next, not_nil, one_to_one, step_not_time, tag, tails, time_same}
use Rattle.mk_proof.proofs.Risen.{All-behind, All-front, All-last, pair_cmp_total, sorted_front}
use Rattle.mk_proof.specs.Drafts.{Adds, AreNodes, IsCount, IsPath, IsTimed}
use Rattle.mk_proof.specs.ProofText.{BeginProof, ProofLine, certificate_lines, chain_line, count_line, end_line, nodes_line, open_lines, path_line, step_line, time_line, trace_lines}
use Rattle.mk_proof.specs.Shapes.{AreShapedChains, AreShapedTimes, IsShapedChain, IsShapedTrace, Trace, ends_of, greatest_node, node_of, pair_cmp}
use Rattle.mk_proof.specs.declared.draft.Draft.TheVariants.{Steps}
use Rattle.mk_proof.specs.declared.step.Step.{Step}

-- ---- chains

pub chain_same : (chain other : List ℕ) → IsShapedChain chain → IsShapedChain other → chain_line chain ≡ chain_line other → chain ≡ other
chain_same chain other small large same =
    map_same decimal (λ n. n ≤ greatest_node) (λ m n low high. decimal_same m n (omega arith) (omega arith)) chain other small.nodes large.nodes same

-- the first chains of a certificate
pub chains_front : (chains more : List (List ℕ)) → AreShapedChains (chains ++ more) → AreShapedChains chains
chains_front chains more shaped = record {
  few = let long = length-append chains more in omega (arith, shaped.few);
  each = All-front IsShapedChain chains more shaped.each;
  rise = sorted_front pair_cmp pair_cmp_total (map ends_of chains) (map ends_of more) (subst (IsStrictlySortedBy pair_cmp) (map-append ends_of chains more) shaped.rise);
}

-- one line is that of one chain
one_chain : (more : List (List ℕ)) (line : ProofLine) → map chain_line more ≡ line ∷ [] → (chain : List ℕ) × (more ≡ chain ∷ []) × (chain_line chain ≡ line)
one_chain [] line same = absurd (not_nil line [] same)
one_chain (chain ∷ []) line same = (chain, refl, heads (chain_line chain) line [] [] same)
one_chain (chain ∷ next ∷ more) line same = absurd (not_nil (chain_line next) (map chain_line more) (sym (tails (chain_line chain) line (map chain_line (next ∷ more)) [] same)))

abbrev NextChain : ℕ → List (List ℕ) → ProofLine → Type 0
NextChain count chains line = (chain : List ℕ) × (chain_line chain ≡ line) × AreShapedChains (chains ++ chain ∷ []) × (length chains < count)

-- a line behind those of a certificate is that of a chain
pub behind_chains : (count : ℕ) (chains : List (List ℕ)) (line : ProofLine) → IsCount count → AreShapedChains chains
    → BeginProof (certificate_lines count chains ++ line ∷ []) → NextChain count chains line
behind_chains count chains line small shaped (inl begin) =
    let lines = map chain_line chains ++ line ∷ [] in
    let counts : begin.count ≡ count = decimal_same begin.count count (omega (arith, begin.small)) (omega arith)
    (ap (λ (l : ProofLine). get_or l 1 []) (heads (count_line begin.count) (count_line count) (map chain_line begin.chains) lines begin.are)) in
    let split = one_to_one chain_line IsShapedChain chain_same chains begin.chains (line ∷ []) shaped.each begin.shaped.each
    (tails (count_line begin.count) (count_line count) (map chain_line begin.chains) lines begin.are) in
    let single = one_chain split.0 line split.2 in
    let all : begin.chains ≡ chains ++ single.0 ∷ [] = split.1 ∙ ap (λ (more : List (List ℕ)). chains ++ more) single.1 in
    let long = length_push chains single.0 in
    (single.0, single.2, subst AreShapedChains all begin.shaped, omega (arith, begin.few, ap length all))
behind_chains count chains line small shaped (inr begin) =
    absurd (eqb-false 97 114 refl (ap tag (heads (nodes_line (begin.trace.first, begin.trace.second)) (count_line count) _ _ begin.are)))

-- ---- the first lines

-- a first line has a number of chains, or two nodes
pub first_line : (line : ProofLine) → BeginProof (line ∷ []) → ((count : ℕ) × IsCount count × (count_line count ≡ line)) ⊎ ((nodes : ℕ × ℕ) × AreNodes nodes × (nodes_line nodes ≡ line))
first_line line (inl begin) = inl (begin.count, begin.small, heads (count_line begin.count) line (map chain_line begin.chains) [] begin.are)
first_line line (inr begin) =
    inr ((begin.trace.first, begin.trace.second), (begin.shaped.order, begin.shaped.second), heads (nodes_line (begin.trace.first, begin.trace.second)) line _ begin.rest begin.are)

-- a second line behind two nodes has a path
pub second_line : (nodes : ℕ × ℕ) (line : ProofLine) → BeginProof (nodes_line nodes ∷ line ∷ []) → (path : List ℕ) × IsPath path × (path_line path ≡ line)
second_line nodes line (inl begin) =
    absurd (eqb-false 114 97 refl (ap tag (heads (count_line begin.count) (nodes_line nodes) (map chain_line begin.chains) (line ∷ []) begin.are)))
second_line nodes line (inr begin) = (
  begin.trace.path,
  (begin.shaped.path, begin.bytes),
  heads (path_line begin.trace.path) line _ begin.rest (tails (nodes_line (begin.trace.first, begin.trace.second)) (nodes_line nodes) _ _ begin.are),
)

-- ---- times and steps

-- the first times of a trace
pub times_front : (times more : List (ℕ × ℕ)) → AreShapedTimes (times ++ more) → AreShapedTimes times
times_front times more shaped = record {
  rise = sorted_front nat_cmp nat_cmp_total (keys_of times) (keys_of more) (subst (IsStrictlySortedBy nat_cmp) (map-append (λ (t : ℕ × ℕ). t.0) times more) shaped.rise);
  small = All-front IsTimed times more shaped.small;
}

-- what may stand behind the lines of a trace without its end: the end, a step, or, where no step has come, a time
abbrev NextLine : Trace → ProofLine → Type 0
NextLine trace line =
    (line ≡ end_line)
    ⊎ (((step : Step) × (node_of step ≤ greatest_node) × (step_line step ≡ line))
    ⊎ ((timed : ℕ × ℕ) × (trace.steps ≡ []) × AreShapedTimes (trace.times ++ timed ∷ []) × (time_line timed ≡ line)))

-- the times, the steps and the end of a trace, whose first lines are those of another
rest_of : (trace other : Trace) (line : ProofLine) (rest : List ProofLine) → trace_lines other ≡ (open_lines trace ++ line ∷ []) ++ rest
    → (map time_line other.times ++ map step_line other.steps) ++ end_line ∷ [] ≡ (map time_line trace.times ++ map step_line trace.steps) ++ line ∷ rest
rest_of trace other line rest same =
    let lines = map time_line trace.times ++ map step_line trace.steps in
    tails (path_line other.path) (path_line trace.path) _ _ (tails (nodes_line (other.first, other.second)) (nodes_line (trace.first, trace.second)) _ _ same)
    ∙ append_assoc lines (line ∷ []) rest

from_next : (trace other : Trace) (line : ProofLine) (rest : List ProofLine) → IsShapedTrace other → Next trace.times other.times trace.steps other.steps (line ∷ rest)
    → NextLine trace line
from_next trace other line rest shaped (inl (times, inl ends)) = inl (heads line end_line rest [] ends.1)
from_next trace other line rest shaped (inl (times, inr goes)) =
    let P : Step → Type 0 = λ s. node_of s ≤ greatest_node in
    let behind : All P (goes.0 ∷ goes.1) = All-behind P trace.steps (goes.0 ∷ goes.1) (subst (All P) goes.3 shaped.steps) in
    inr (inl (goes.0, All-head P goes.0 goes.1 behind, sym (heads line (step_line goes.0) rest goes.2 goes.4)))
from_next trace other line rest shaped (inr goes) =
    let all : other.times ≡ (trace.times ++ goes.0 ∷ []) ++ goes.1 = goes.4 ∙ sym (append_assoc trace.times (goes.0 ∷ []) goes.1) in
    inr (inr (goes.0, goes.3, times_front (trace.times ++ goes.0 ∷ []) goes.1 (subst AreShapedTimes all shaped.times), sym (heads line (time_line goes.0) rest goes.2 goes.5)))

-- the rest of another trace by the lines of this one
pub next_of : (trace other : Trace) (line : ProofLine) (rest : List ProofLine) → IsShapedTrace trace → IsShapedTrace other → trace_lines other ≡ (open_lines trace ++ line ∷ []) ++ rest
    → Next trace.times other.times trace.steps other.steps (line ∷ rest)
next_of trace other line rest shaped large same =
    next trace.times other.times trace.steps other.steps (line ∷ rest) shaped.times.small large.times.small shaped.steps large.steps (rest_of trace other line rest same)

pub behind_trace : (trace : Trace) (line : ProofLine) → IsShapedTrace trace → BeginProof (open_lines trace ++ line ∷ []) → NextLine trace line
behind_trace trace line shaped (inl begin) =
    absurd (eqb-false 114 97 refl (ap tag (heads (count_line begin.count) (nodes_line (trace.first, trace.second)) (map chain_line begin.chains) _ begin.are)))
behind_trace trace line shaped (inr begin) =
    from_next trace begin.trace line begin.rest begin.shaped (next_of trace begin.trace line begin.rest shaped begin.shaped begin.are)

past_end : (trace other : Trace) (back : List ProofLine) (line : ProofLine) (rest : List ProofLine) → back ≡ line ∷ rest
    → Next trace.times other.times trace.steps other.steps (end_line ∷ back) → ⊥
past_end trace other back line rest some (inl (times, inl ends)) = not_nil line rest (sym (tails end_line end_line back [] ends.1) ∙ some)
past_end trace other back line rest some (inl (times, inr goes)) = end_not_step goes.0 (heads end_line (step_line goes.0) back goes.2 goes.4)
past_end trace other back line rest some (inr goes) = end_not_time goes.0 (heads end_line (time_line goes.0) back goes.2 goes.5)

-- nothing stands behind the end
pub behind_end : (trace : Trace) (line : ProofLine) → IsShapedTrace trace → BeginProof (trace_lines trace ++ line ∷ []) → ⊥
behind_end trace line shaped (inl begin) =
    eqb-false 114 97 refl (ap tag (heads (count_line begin.count) (nodes_line (trace.first, trace.second)) (map chain_line begin.chains) _ begin.are))
behind_end trace line shaped (inr begin) =
    past_end trace begin.trace (line ∷ begin.rest) line begin.rest refl
    (next_of trace begin.trace end_line (line ∷ begin.rest) shaped begin.shaped (begin.are ∙ append_assoc (trace_lines trace) (line ∷ []) begin.rest))

-- ---- a time

timed_lines : (times : List (ℕ × ℕ)) (steps : List Step) (timed : ℕ × ℕ) (line : ProofLine) → steps ≡ [] → time_line timed ≡ line
    → map time_line (times ++ timed ∷ []) ++ map step_line steps ≡ (map time_line times ++ map step_line steps) ++ line ∷ []
timed_lines times [] timed line none says =
    append-nil (map time_line (times ++ timed ∷ [])) ∙ map_push time_line times timed
    ∙ ap₂ (λ (ls : List ProofLine) (l : ProofLine). ls ++ l ∷ []) (sym (append-nil (map time_line times))) says
timed_lines times (step ∷ steps) timed line none says = absurd (not_nil step steps (sym none))

-- a line that has a time is no end and no step
no_time : (trace : Trace) (line : ProofLine) (timed : ℕ × ℕ) → IsTimed timed → time_line timed ≡ line
    → ((trace.steps ≡ []) × AreShapedTimes (trace.times ++ timed ∷ []) → ⊥) → NextLine trace line → ⊥
no_time trace line timed small says never (inl ends) = end_not_time timed (sym (says ∙ ends))
no_time trace line timed small says never (inr (inl step)) = step_not_time step.0 timed (step.2 ∙ sym says)
no_time trace line timed small says never (inr (inr other)) =
    let one : other.0 ≡ timed = time_same other.0 timed (All-last IsTimed trace.times other.0 other.2.small) small (other.3 ∙ sym says) in
    never (other.1, subst (λ (t : ℕ × ℕ). AreShapedTimes (trace.times ++ t ∷ [])) one other.2)

not_next : (trace : Trace) (line : ProofLine) → (line ≡ end_line → ⊥) → ((timed : ℕ × ℕ) → IsTimed timed → time_line timed ≡ line → ⊥)
    → ((step : Step) → node_of step ≤ greatest_node → step_line step ≡ line → ⊥) → NextLine trace line → ⊥
not_next trace line ends times steps (inl is) = ends is
not_next trace line ends times steps (inr (inl step)) = steps step.0 step.1 step.2
not_next trace line ends times steps (inr (inr timed)) = times timed.0 (All-last IsTimed trace.times timed.0 timed.2.small) timed.3

-- a line that is no end, no time and no step
pub no_line : (trace : Trace) (line : ProofLine) → IsShapedTrace trace → (line ≡ end_line → ⊥) → ((timed : ℕ × ℕ) → IsTimed timed → time_line timed ≡ line → ⊥)
    → ((step : Step) → node_of step ≤ greatest_node → step_line step ≡ line → ⊥) → BeginProof (open_lines trace ++ line ∷ []) → ⊥
no_line trace line shaped ends times steps begin = not_next trace line ends times steps (behind_trace trace line shaped begin)

-- what a time adds
pub time_adds : (trace new : Trace) (line : ProofLine) (added is_whole : Bool) (timed : ℕ × ℕ) → is_whole ≡ false → IsShapedTrace trace → IsBytes trace.path
    → IsTimed timed → time_line timed ≡ line
    → ((added ≡ true) → (trace.steps ≡ []) × AreShapedTimes (trace.times ++ timed ∷ []))
    → ((trace.steps ≡ []) × AreShapedTimes (trace.times ++ timed ∷ []) → added ≡ true)
    → (added ≡ true → new ≡ record trace { times = trace.times ++ timed ∷ [] }) → Adds (Steps trace is_whole) line added (Steps new is_whole)
time_adds trace new line true true timed going shaped bytes small says fits back pushed = absurd (true≢false going)
time_adds trace new line false true timed going shaped bytes small says fits back pushed = absurd (true≢false going)
time_adds trace new line true false timed going shaped bytes small says fits back pushed =
    let more = record trace { times = trace.times ++ timed ∷ [] } in
    let shape = fits refl in
    let lines : map time_line (trace.times ++ timed ∷ []) ++ map step_line trace.steps ≡ (map time_line trace.times ++ map step_line trace.steps) ++ line ∷ [] =
    timed_lines trace.times trace.steps timed line shape.0 says in
    subst (λ (t : Trace). (IsShapedTrace t × IsBytes t.path) × (open_lines t ≡ open_lines trace ++ line ∷ [])) (sym (pushed refl)) (
      (record { order = shaped.order; second = shaped.second; path = shaped.path; times = shape.1; steps = shaped.steps }, bytes),
      ap (λ (ls : List ProofLine). nodes_line (trace.first, trace.second) ∷ path_line trace.path ∷ ls) lines,
    )
time_adds trace new line false false timed going shaped bytes small says fits back pushed = λ begin.
    no_time trace line timed small says (λ here. false≢true (back here)) (behind_trace trace line shaped begin)
