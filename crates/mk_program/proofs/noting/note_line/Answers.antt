use Rattle.std.proofs.Common.{ℕ, List, ◌++◌, ap, append_assoc, codes, sym, ◌∙◌}
use Rattle.mk_name.specs.Shown.{shown}
use Rattle.mk_program.specs.Noting.{count_text}
use Rattle.mk_program.proofs.noting.note_line.Goals as goal

pub returns : goal.returns
returns c =
    let unused = c.args.unused.now in
    c.in_ok-extend_from_slice-2.ensures.items
    ∙ ap (λ (l : List ℕ). l ++ codes "; see --base\n") (c.in_ok-push_count.ensures
    ∙ ap (λ (l : List ℕ). l ++ count_text unused.count) (c.in_ok-extend_from_slice.ensures.items
    ∙ ap (λ (l : List ℕ). l ++ codes " here, though its footprint says what its recipe does ") (c.in_ok-push_shown.ensures.shown
    ∙ ap (λ (l : List ℕ). l ++ shown c.as_bytes.result.now) c.in_ok-out.ensures.items
    ∙ ap (λ (x : List ℕ). codes "race: note: nothing makes " ++ shown x) c.as_bytes.ensures)))
    ∙ sym (append_assoc (codes "race: note: nothing makes " ++ shown unused.name ++ codes " here, though its footprint says what its recipe does "
    ++ count_text unused.count) (codes "; see --base") (codes "\n"))
