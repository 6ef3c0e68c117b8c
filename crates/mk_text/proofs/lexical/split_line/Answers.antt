use Rattle.std.proofs.Common.{◌==◌, ◌+◌, ◌∙◌, ◌∷◌, sym, ap, take}
use Rattle.std.proofs.lemmas.List.{take_rest}
use Rattle.mk_text.specs.Lexical.{newline, physical_lines}
use Rattle.mk_text.proofs.Searches.{split_found, split_whole}
use Rattle.mk_text.proofs.lexical.split_line.Goals as goal

pub returns-in-Some-clause-lines : goal.returns-in-Some-clause-lines
returns-in-Some-clause-lines c =
    let text = c.args.text.now in
    let end = c.in-Some.end in
    split_found (λ b. b == newline) text end c.in-Some.ensures
    ∙ ap (λ rest. take end text ∷ physical_lines rest) (sym (take_rest text (end + 1)))

pub returns-in-None-clause-lines : goal.returns-in-None-clause-lines
returns-in-None-clause-lines c = split_whole (λ b. b == newline) c.args.text.now c.in-None.ensures
