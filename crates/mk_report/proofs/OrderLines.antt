-- The lines of chains.
use Rattle.std.proofs.Common.{◌≡◌, ◌∙◌, ℕ, List, [], ◌∷◌, ◌++◌, append_assoc, refl, sym, ap}
use Rattle.std.proofs.lemmas.List.{append-nil}
use Rattle.mk_path.specs.declared.path.Path.{Path}
use Rattle.mk_jobs.specs.Jobs.{Jobs}
use Rattle.mk_report.specs.ReportText.{AreOrderLines, EndsClash, IsLeastOfChain, IsOrderText, order_line}

-- the lines of one chain more
pub lines_more : (jobs : Jobs) (chains : List (List ℕ)) (text : List ℕ) (chain own : List ℕ)
    → AreOrderLines jobs chains text → IsOrderText jobs chain own
    → AreOrderLines jobs (chains ++ chain ∷ []) (text ++ own)
lines_more jobs [] text chain own are is =
    (own, [], is, refl, ap (λ (t : List ℕ). t ++ own) are ∙ sym (append-nil own))
lines_more jobs (first ∷ chains) text chain own are is = (
  are.0,
  are.1 ++ own,
  are.2,
  lines_more jobs chains are.1 chain own are.3 is,
  ap (λ (t : List ℕ). t ++ own) are.4 ∙ append_assoc are.0 are.1 own,
)

-- what is reported of a chain whose ends clash, least on this path
pub reported_of : (jobs : Jobs) (chain text : List ℕ) (path : Path) → EndsClash jobs chain → IsLeastOfChain jobs chain path
    → text ≡ order_line jobs path chain → IsOrderText jobs chain text
reported_of jobs chain text path clash least is = record { reported = λ _. (path, least, is); unreported = λ no. absurd (no clash) }

-- and of one whose ends do not
pub unreported_of : (jobs : Jobs) (chain text : List ℕ) → (EndsClash jobs chain → ⊥) → text ≡ [] → IsOrderText jobs chain text
unreported_of jobs chain text apart is = record { reported = λ clash. absurd (apart clash); unreported = λ _. is }
