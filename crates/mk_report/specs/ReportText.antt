-- The reports of jobs that are safe and of a race. Every line ends in a newline.
use Rattle.std.specs.Prelude.{ℕ, ◌≡◌, ◌+◌, ◌-◌, ◌==◌, ◌&&◌, Bool, List, [], ◌∷◌, ◌++◌, codes, drop, length, take, get_or, nat_lt, if◌then◌else◌}
use Rattle.std.specs.Fmt.{decimal}
use Rattle.std.specs.List.{flat_map, list_any}
use Rattle.mk_name.specs.Names.{same_name}
use Rattle.mk_name.specs.Shown.{line, shown}
use Rattle.mk_path.specs.declared.path.Path.{Path}
use Rattle.mk_path.specs.Paths.{is_over}
use Rattle.mk_path.specs.Texts.{text_of}
use Rattle.mk_index.specs.Uses.{IsLeastOverlap}
use Rattle.mk_jobs.specs.Jobs.{Clash, Jobs, is_idle, is_live, name_of, node_count, writes_of}
use Rattle.mk_jobs.specs.Reaching.{uses_of}
use Rattle.mk_proof.specs.Shapes.{Trace, ends_of, node_of}
use Rattle.mk_proof.specs.declared.step.Step.{Step}
use Rattle.mk_proof.specs.declared.step.Step.TheVariants.{Skip, Start, Finish}

-- how many numbers below n pass a test
abbrev pub how_many : (ℕ → Bool) → ℕ → ℕ
how_many test ℕ.zero = 0
how_many test (ℕ.suc n) = how_many test n + (if test n then 1 else 0)

-- a word and a number
abbrev pub number_line : List ℕ → ℕ → List ℕ
number_line word n = line (word ++ codes " " ++ decimal n)

-- how many nodes there are, how many recipes are live and how many idle, and how often `.WAIT` is used
abbrev pub counts_text : Jobs → List ℕ
counts_text jobs =
    number_line (codes "nodes") (node_count jobs)
    ++ number_line (codes "recipes") (how_many (is_live jobs) (node_count jobs))
    ++ number_line (codes "idle") (how_many (is_idle jobs) (node_count jobs))
    ++ number_line (codes "waits") jobs.plan.wait_uses

-- what stands before the label in the name of a task's own node: two slashes and a NUL, which no path spells
abbrev pub own_mark : List ℕ
own_mark = 47 ∷ 47 ∷ 0 ∷ []

-- how reports call a node: a task by its label, any other by its name
abbrev pub label_of : List ℕ → List ℕ
label_of name = if same_name (take 3 name) own_mark then drop 3 name else name

-- the label of a node, as it is shown; what is no node has none
unfoldable pub label_text : Jobs → ℕ → List ℕ
label_text jobs n = shown (label_of (name_of jobs n))

-- the labels of nodes, each behind a space
abbrev pub name_text : Jobs → ℕ → List ℕ
name_text jobs n = codes " " ++ label_text jobs n

abbrev pub names_text : Jobs → List ℕ → List ℕ
names_text jobs numbers = flat_map (name_text jobs) numbers

-- the line of a chain: a path on which its ends clash, and the names of its nodes
abbrev pub order_line : Jobs → Path → List ℕ → List ℕ
order_line jobs path chain = line (codes "order " ++ shown (text_of path) ++ codes " :" ++ names_text jobs chain)

-- the path is the least on which the ends of a chain clash
abbrev pub IsLeastOfChain : Jobs → List ℕ → Path → Type 0
IsLeastOfChain jobs chain path = IsLeastOverlap (uses_of jobs) (ends_of chain).0 (ends_of chain).1 path

-- the ends of a chain clash
abbrev pub EndsClash : Jobs → List ℕ → Type 0
EndsClash jobs chain = Clash jobs (ends_of chain).0 (ends_of chain).1

-- what is reported of a chain: its line, with the least path on which its ends clash; and nothing where they do not clash
pub record IsOrderText (jobs : Jobs) (chain text : List ℕ) : Type 0 where
  pub reported : EndsClash jobs chain → (path : Path) × IsLeastOfChain jobs chain path × (text ≡ order_line jobs path chain)
  pub unreported : (EndsClash jobs chain → ⊥) → text ≡ []

-- what is reported of the chains, in their order
abbrev pub AreOrderLines : Jobs → List (List ℕ) → List ℕ → Type 0
AreOrderLines jobs [] text = text ≡ []
AreOrderLines jobs (chain ∷ chains) text = (own : List ℕ) × (rest : List ℕ)
    × IsOrderText jobs chain own × AreOrderLines jobs chains rest × (text ≡ own ++ rest)

-- what stands before the lines of a certificate's chains: the counts, and how many chains there are
abbrev pub safe_head : Jobs → ℕ → List ℕ
safe_head jobs pairs = line (codes "safe") ++ counts_text jobs ++ number_line (codes "pairs") pairs

-- the report of jobs with this certificate
abbrev pub IsSafeText : Jobs → List (List ℕ) → List ℕ → Type 0
IsSafeText jobs chains text = (lines : List ℕ) × AreOrderLines jobs chains lines × (text ≡ safe_head jobs (length chains) ++ lines)

-- a text spells a tree where a slash stands behind a name
abbrev pub spells_tree : List ℕ → Bool
spells_tree text = nat_lt 1 (length text) && (get_or text (length text - 1) 0 == 47)

-- the path that a text spells
abbrev pub spelled_path : List ℕ → Path
spelled_path text = record {
  name = if spells_tree text then take (length text - 1) text else text;
  tree = spells_tree text;
}

-- a path that the node writes covers the whole of this one
abbrev pub writes_whole : Jobs → ℕ → Path → Bool
writes_whole jobs n path = list_any (λ written. is_over jobs.root written path) (writes_of jobs n)

-- what a node does with a path
abbrev pub verb_text : Jobs → ℕ → Path → List ℕ
verb_text jobs n path = if writes_whole jobs n path then codes "writes" else codes "reads"

-- the line of one of the two nodes of a race
abbrev pub racer_line : Jobs → List ℕ → ℕ → Path → List ℕ
racer_line jobs word n path = line (word ++ name_text jobs n ++ codes " " ++ verb_text jobs n path)

-- the line of a time
abbrev pub time_line : Jobs → ℕ × ℕ → List ℕ
time_line jobs timed = line (codes "time" ++ name_text jobs timed.0 ++ codes " " ++ decimal timed.1)

-- the line of a step
abbrev pub step_word : Step → List ℕ
step_word (Skip n) = codes "skip"
step_word (Start n) = codes "start"
step_word (Finish n) = codes "finish"

abbrev pub step_line : Jobs → Step → List ℕ
step_line jobs step = line (step_word step ++ name_text jobs (node_of step))

-- the lines of the path and of the two nodes
abbrev pub pair_text : Jobs → Trace → List ℕ
pair_text jobs trace =
    line (codes "path " ++ shown trace.path)
    ++ racer_line jobs (codes "first") trace.first (spelled_path trace.path)
    ++ racer_line jobs (codes "second") trace.second (spelled_path trace.path)

-- the report of a race
abbrev pub race_text : Jobs → Trace → List ℕ
race_text jobs trace =
    line (codes "race") ++ counts_text jobs ++ pair_text jobs trace
    ++ flat_map (time_line jobs) trace.times ++ flat_map (step_line jobs) trace.steps
