-- Lemmas on the text of a replay.
use Rattle.std.proofs.Common.{◌≡◌, ◌∙◌, ℕ, List, [], ◌∷◌, ◌++◌, codes, ap, sym, append_assoc}
use Rattle.mk_name.specs.Names.{Name}
use Rattle.mk_name.specs.Shown.{line}
use Rattle.mk_sched.specs.Stored.{StoredFiles}
use Rattle.mk_sched.specs.Stores.{File}
use Rattle.mk_program.specs.OutcomeText.{file_line, file_lines}

-- a refusal that is reported in parts
pub refusal_reported : (number word place : List ℕ) → codes "not allowed V" ++ (number ++ 32 ∷ (word ++ (32 ∷ 97 ∷ 116 ∷ 32 ∷ (place ++ 10 ∷ []))))
    ≡ line (codes "not allowed V" ++ number ++ codes " " ++ word ++ codes " at " ++ place)
refusal_reported number word place = simp append_assoc

-- the line of one file more, in front of those that are left
pub lines_step : (old new all : List ℕ) (name : Name) (file : File) (before rest : StoredFiles) → before ≡ (name, file) ∷ rest → old ++ file_lines before ≡ all
    → new ≡ old ++ file_line (name, file) → new ++ file_lines rest ≡ all
lines_step old new all name file before rest steps so_far more =
    ap (λ (text : List ℕ). text ++ file_lines rest) more ∙ append_assoc old (file_line (name, file)) (file_lines rest)
    ∙ sym (ap (λ (files : StoredFiles). old ++ file_lines files) steps) ∙ so_far
