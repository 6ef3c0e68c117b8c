use Rattle.std.proofs.Common.{ap₂, codes, ◌∙◌, ◌∷◌, ◌++◌, [], List, ℕ}
use Rattle.std.specs.Fmt.{decimal}
use Rattle.mk_sched.specs.Shown.{number_of, word_of}
use Rattle.mk_program.proofs.OutcomeLines.{refusal_reported}
use Rattle.mk_program.proofs.outcome_lines.not_allowed_text.Goals as goal

pub returns : goal.returns
returns c =
    let place = decimal c.args.place in
    rw c.into_bytes.ensures.value (c.in_ok-text.ensures.ok
    ∙ ap₂ (λ (number : ℕ) (word : List ℕ). codes "not allowed V" ++ (decimal number ++ 32 ∷ (word ++ (32 ∷ 97 ∷ 116 ∷ 32 ∷ (place ++ 10 ∷ [])))))
    c.number-number.ensures c.word-word.ensures
    ∙ refusal_reported (decimal (number_of c.args.refusal)) (word_of c.args.refusal) place)
