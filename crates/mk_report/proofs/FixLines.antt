-- The lines of fixes.
use Rattle.std.proofs.Common.{◌≡◌, ◌≤◌, ◌∙◌, ℕ, Bool, true, false, List, [], ◌∷◌, ◌++◌, append_assoc, refl, sym, ap}
use Rattle.std.proofs.lemmas.List.{append-nil}
use Rattle.mk_jobs.specs.Jobs.{Clash, Jobs, is_listed, node_count}
use Rattle.mk_report.specs.FixText.{AreFixLines, IsFixLine, maker_obstacle, obstacle_of}
use Rattle.mk_report.specs.declared.fixes.Form.{Form}
use Rattle.mk_report.proofs.PastTheEnd.{no_maker}

-- the lines of one edge more
pub fix_lines_more : (form : Form) (jobs : Jobs) (edges : List (ℕ × ℕ)) (text : List ℕ) (edge : ℕ × ℕ) (own : List ℕ)
    → AreFixLines form jobs edges text → IsFixLine form jobs edge own
    → AreFixLines form jobs (edges ++ edge ∷ []) (text ++ own)
fix_lines_more form jobs [] text edge own are is =
    (own, [], is, refl, ap (λ (t : List ℕ). t ++ own) are ∙ sym (append-nil own))
fix_lines_more form jobs (first ∷ edges) text edge own are is = (
  are.0,
  are.1 ++ own,
  are.2,
  fix_lines_more form jobs edges are.1 edge own are.3 is,
  ap (λ (t : List ℕ). t ++ own) are.4 ∙ append_assoc are.0 are.1 own,
)

-- two nodes that do not clash have no line
pub fix_left_out : (form : Form) (jobs : Jobs) (edge : ℕ × ℕ) (text : List ℕ) → (Clash jobs edge.0 edge.1 → ⊥) → text ≡ [] → IsFixLine form jobs edge text
fix_left_out form jobs edge text apart is = record { given = λ clash. absurd (apart clash); left_out = λ _. is }

-- what is no node has no obstacle of its own
pub no_obstacle : (jobs : Jobs) (n : ℕ) (words : Bool) → words ≡ true → node_count jobs ≤ n → obstacle_of jobs n words ≡ []
no_obstacle jobs n words is past = rw is (ap (λ maker. maker_obstacle maker (is_listed jobs n)) (no_maker jobs n past))
