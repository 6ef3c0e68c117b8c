-- The report of an answer.
use Rattle.std.specs.Prelude.{ℕ, ◌≡◌, Bool, true, false, List}
use Rattle.mk_name.specs.Shown.{refused_text}
use Rattle.mk_proof.specs.ProofText.{certificate_text, trace_text}
use Rattle.mk_report.specs.ReportText.{IsSafeText, race_text}
use Rattle.mk_report.specs.declared.answer.BuildAnswer.{BuildAnswer}
use Rattle.mk_report.specs.declared.answer.BuildAnswer.TheVariants.{Safe, Race, Refused}

-- the text of an answer: its report; or its proof, where that is asked for and there is one
abbrev pub IsReport : BuildAnswer → Bool → List ℕ → Type 0
IsReport (Safe jobs chains) true text = text ≡ certificate_text chains
IsReport (Safe jobs chains) false text = IsSafeText jobs chains text
IsReport (Race jobs trace) true text = text ≡ trace_text trace
IsReport (Race jobs trace) false text = text ≡ race_text jobs trace
IsReport (Refused fault) proof text = text ≡ refused_text fault
