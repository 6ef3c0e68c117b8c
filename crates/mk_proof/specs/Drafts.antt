-- For private clauses: what the lines of a proof have said so far, and what reads a line.
use Rattle.std.specs.Prelude.{ℕ, ◌≡◌, ◌<◌, ◌≤◌, ◌^◌, ◌==◌, ◌++◌, Bool, false, List, [], ◌∷◌, length, Option, None, Some, if◌then◌else◌}
use Rattle.std.specs.Bool.{MatchBool}
use Rattle.std.specs.List.{All}
use Rattle.hex.specs.Hex.{IsBytes}
use Rattle.mk_proof.specs.Shapes.{AreShapedChains, IsShapedTrace, greatest_node, greatest_time, most_chains}
use Rattle.mk_proof.specs.ProofText.{BeginProof, ProofLine, certificate_lines, nodes_line, open_lines, trace_lines}
use Rattle.mk_proof.specs.declared.draft.Draft.{Draft}
use Rattle.mk_proof.specs.declared.draft.Draft.TheVariants.{Empty, Chains, Nodes, Steps}

-- the text is cut at its first such byte
pub record IsCut (byte : ℕ) (text front back : List ℕ) : Type 0 where
  pub whole : text ≡ front ++ byte ∷ back
  pub first : All (λ b. (b == byte) ≡ false) front

-- what is found is written so, and where nothing is found nothing is
abbrev pub Finds : {X Y : Type 0} → (X → Y) → (X → Type 0) → Y → Option X → Type 0
Finds write fits y None = (x : _) → fits x → ¬ (write x ≡ y)
Finds write fits y (Some x) = fits x × (write x ≡ y)

-- numbers of at most seven digits
abbrev pub IsShort : ℕ → Type 0
IsShort n = n < 10 ^ 7

abbrev pub AreShort : ℕ × ℕ → Type 0
AreShort numbers = IsShort numbers.0 × IsShort numbers.1

-- a number of chains, the nodes, the path and a time of a trace
abbrev pub IsCount : ℕ → Type 0
IsCount count = count ≤ most_chains

abbrev pub AreNodes : ℕ × ℕ → Type 0
AreNodes nodes = (nodes.0 < nodes.1) × (nodes.1 ≤ greatest_node)

abbrev pub IsPath : List ℕ → Type 0
IsPath path = (1 ≤ length path) × IsBytes path

abbrev pub IsTimed : ℕ × ℕ → Type 0
IsTimed timed = (timed.0 ≤ greatest_node) × (timed.1 ≤ greatest_time)

-- the lines that have come
abbrev pub lines_of : Draft → List ProofLine
lines_of Empty = []
lines_of (Chains count chains) = certificate_lines count chains
lines_of (Nodes first second) = nodes_line (first, second) ∷ []
lines_of (Steps trace is_whole) = if is_whole then trace_lines trace else open_lines trace

-- they begin a proof
abbrev pub IsDraft : Draft → Type 0
IsDraft Empty = Unit {0}
IsDraft (Chains count chains) = (count ≤ most_chains) × (length chains ≤ count) × AreShapedChains chains
IsDraft (Nodes first second) = AreNodes (first, second)
IsDraft (Steps trace is_whole) = IsShapedTrace trace × IsBytes trace.path

-- a line comes behind those of a draft, where with these it begins a proof
abbrev pub Adds : Draft → ProofLine → Bool → Draft → Type 0
Adds old line added new =
    MatchBool added (IsDraft new × (lines_of new ≡ lines_of old ++ line ∷ [])) (¬ (BeginProof (lines_of old ++ line ∷ [])))
