-- The texts of proofs, and what reads as one.
use Rattle.std.specs.Prelude.{ℕ, ◌≡◌, ◌<◌, ◌≤◌, ◌+◌, ◌==◌, ◌++◌, ◌⊎◌, ◌↔◌, List, [], ◌∷◌, codes, length, map, take, Result, Ok, Err}
use Rattle.std.specs.Fmt.{decimal}
use Rattle.std.specs.List.{flat_map, join_with_byte, slice_split}
use Rattle.hex.specs.Hex.{IsBytes, encode_lower}
use Rattle.mk_name.specs.Reported.{Reported}
use Rattle.mk_name.specs.declared.fault.Kind.TheVariants.{BadProof}
use Rattle.mk_name.specs.declared.fault.Source.TheVariants as sources
use Rattle.mk_proof.specs.Shapes.{AreShapedChains, IsShapedTrace, Trace, most_chains}
use Rattle.mk_proof.specs.declared.proof.Proof.{Proof}
use Rattle.mk_proof.specs.declared.proof.Proof.TheVariants as proofs
use Rattle.mk_proof.specs.declared.step.Step.{Step}
use Rattle.mk_proof.specs.declared.step.Step.TheVariants.{Skip, Start, Finish}

-- a line is a list of words, and a word a list of bytes
abbrev pub Word : Type 0
Word = List ℕ

abbrev pub ProofLine : Type 0
ProofLine = List Word

-- what is written of it: one space between two words, and a newline behind the last
abbrev pub written : ProofLine → List ℕ
written words = join_with_byte 32 words ++ 10 ∷ []

-- the text of lines
abbrev pub text_of : List ProofLine → List ℕ
text_of lines = flat_map written lines

-- the first line of a certificate says how many chains follow, and each chain is a line
abbrev pub count_line : ℕ → ProofLine
count_line count = codes "certificate" ∷ decimal count ∷ []

abbrev pub chain_line : List ℕ → ProofLine
chain_line chain = map decimal chain

abbrev pub certificate_lines : ℕ → List (List ℕ) → List ProofLine
certificate_lines count chains = count_line count ∷ map chain_line chains

-- the first lines of a trace have its nodes and its path
abbrev pub nodes_line : ℕ × ℕ → ProofLine
nodes_line nodes = codes "trace" ∷ decimal nodes.0 ∷ decimal nodes.1 ∷ []

abbrev pub path_line : List ℕ → ProofLine
path_line path = codes "path" ∷ encode_lower path ∷ []

-- a time and a step have a line each
abbrev pub time_line : ℕ × ℕ → ProofLine
time_line timed = codes "time" ∷ decimal timed.0 ∷ decimal timed.1 ∷ []

abbrev pub step_line : Step → ProofLine
step_line (Skip n) = codes "skip" ∷ decimal n ∷ []
step_line (Start n) = codes "start" ∷ decimal n ∷ []
step_line (Finish n) = codes "finish" ∷ decimal n ∷ []

-- the last line of a trace
abbrev pub end_line : ProofLine
end_line = codes "end" ∷ []

-- the lines of a trace before its last one
abbrev pub open_lines : Trace → List ProofLine
open_lines trace =
    nodes_line (trace.first, trace.second) ∷ path_line trace.path ∷ (map time_line trace.times ++ map step_line trace.steps)

abbrev pub trace_lines : Trace → List ProofLine
trace_lines trace = open_lines trace ++ end_line ∷ []

-- the texts of a certificate, of a trace and of a proof
abbrev pub certificate_text : List (List ℕ) → List ℕ
certificate_text chains = text_of (certificate_lines (length chains) chains)

abbrev pub trace_text : Trace → List ℕ
trace_text trace = text_of (trace_lines trace)

abbrev pub proof_lines : Proof → List ProofLine
proof_lines (proofs.Certificate chains) = certificate_lines (length chains) chains
proof_lines (proofs.Trace trace) = trace_lines trace

abbrev pub proof_text : Proof → List ℕ
proof_text proof = text_of (proof_lines proof)

-- the shape that the type of a proof keeps
abbrev pub IsShapedProof : Proof → Type 0
IsShapedProof (proofs.Certificate chains) = AreShapedChains chains
IsShapedProof (proofs.Trace trace) = IsShapedTrace trace × IsBytes trace.path

-- the whole lines of a text: what stands before each newline, cut at its spaces
abbrev pub words_of : List ℕ → ProofLine
words_of line = slice_split (λ b. b == 32) line

abbrev pub all_but_last : List (List ℕ) → List (List ℕ)
all_but_last [] = []
all_but_last (part ∷ []) = []
all_but_last (part ∷ next ∷ parts) = part ∷ all_but_last (next ∷ parts)

abbrev pub whole_lines : List ℕ → List ProofLine
whole_lines text = map words_of (all_but_last (slice_split (λ b. b == 10) text))

-- lines begin a certificate: they have a number of chains, and no more chains than that
pub record BeginCertificate (lines : List ProofLine) : Type 0 where
  pub count : ℕ
  pub chains : List (List ℕ)
  pub small : count ≤ most_chains
  pub few : length chains ≤ count
  pub shaped : AreShapedChains chains
  pub are : certificate_lines count chains ≡ lines

-- lines begin a trace: they are the first lines of one
pub record BeginTrace (lines : List ProofLine) : Type 0 where
  pub trace : Trace
  pub rest : List ProofLine
  pub shaped : IsShapedTrace trace
  pub bytes : IsBytes trace.path
  pub are : trace_lines trace ≡ lines ++ rest

abbrev pub BeginProof : List ProofLine → Type 0
BeginProof lines = BeginCertificate lines ⊎ BeginTrace lines

-- the line behind the first n lines is good: it is whole, and with the lines before it it begins a proof
abbrev pub IsGood : List ℕ → ℕ → Type 0
IsGood text n = (n < length (whole_lines text)) × BeginProof (take (n + 1) (whole_lines text))

-- the first line that is not good stands behind n lines
pub record IsFirstBad (text : List ℕ) (n : ℕ) : Type 0 where
  pub before : (k : ℕ) → k < n → IsGood text k
  pub here : ¬ (IsGood text n)

-- a line of a proof that is not good
abbrev pub reported : ℕ → Reported
reported place = record { kind = BadProof; source = sources.Proof; place = place; names = [] }

-- a text is no proof: it is the text of none, and the fault is at its first line that is not good; places count from 1
pub record IsNoProof (text : List ℕ) (fault : Reported) : Type 0 where
  pub none : (proof : Proof) → IsShapedProof proof → ¬ (proof_text proof ≡ text)
  pub good : ℕ
  pub first : IsFirstBad text good
  pub says : fault ≡ reported (good + 1)

-- what `read_proof` answers: the proof that is written so, or the first line that is not good
abbrev pub IsProofRead : List ℕ → Result Proof Reported → Type 0
IsProofRead text (Ok proof) = IsShapedProof proof × (proof_text proof ≡ text)
IsProofRead text (Err fault) = IsNoProof text fault

-- a text reads as this proof and as nothing else
abbrev pub ReadsAs : List ℕ → Proof → Type 0
ReadsAs text proof = (answer : Result Proof Reported) → IsProofRead text answer ↔ (answer ≡ Ok proof)
