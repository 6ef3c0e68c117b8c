use Rattle.std.proofs.Common.{◌++◌, ◌∷◌, [], List, ℕ, ap, ◌∙◌}
use Rattle.mk_proof.proofs.Written.{line_pushed, spaced}
use Rattle.mk_proof.proofs.writing.push_line.Goals as goal

pub returns : goal.returns
returns c =
    c.in_ok-push.ensures.items
    ∙ ap (λ (t : List ℕ). t ++ 10 ∷ []) (c.in_ok-push_numbers.ensures ∙ ap (λ (t : List ℕ). t ++ spaced c.args.numbers.now) c.in_ok-extend_from_slice.ensures.items)
    ∙ line_pushed c.args.out.now.items c.args.word.now c.args.numbers.now
