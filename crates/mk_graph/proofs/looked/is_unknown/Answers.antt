use Rattle.std.proofs.Common.{◌≡◌, ◌∙◌, ap, length, sym}
use Rattle.std.specs.Prelude.{nat_eq, not, ◌&&◌}
use Rattle.mk_graph.proofs.Unknowns.{unknown_by}
use Rattle.mk_graph.proofs.looked.is_unknown.Goals as goal
use Rattle.mk_graph.proofs.looked.is_unknown.Goals.{then-not-looked, else-not-looked}

pub returns-then-is_empty : goal.returns-then-is_empty
returns-then-is_empty c = λ book listing t is.
    let value : c.if-not-looked.value ≡ (not c.looked.inside.phony && nat_eq (length c.looked.inside.rules.now) 0) = elim c.if-not-looked.branch [
      | then-not-looked w ↦ w.value-is ∙ w.is_empty.ensures ∙ sym (ap (λ p. not p && nat_eq (length c.looked.inside.rules.now) 0) w.if-not-looked.true)
      | else-not-looked w ↦ w.value-is ∙ ap not w.if-not-looked.false ∙ sym (ap (λ p. not p && nat_eq (length c.looked.inside.rules.now) 0) w.if-not-looked.false)
    ] in
    ap (λ b. b && not c.looked.inside.listed) (sym c.if-is_empty.true ∙ value) ∙ unknown_by book listing t _ (c.looked.view_is ∙ is)

pub returns-else-is_empty : goal.returns-else-is_empty
returns-else-is_empty c = λ book listing t is.
    let value : c.if-not-looked.value ≡ (not c.looked.inside.phony && nat_eq (length c.looked.inside.rules.now) 0) = elim c.if-not-looked.branch [
      | then-not-looked w ↦ w.value-is ∙ w.is_empty.ensures ∙ sym (ap (λ p. not p && nat_eq (length c.looked.inside.rules.now) 0) w.if-not-looked.true)
      | else-not-looked w ↦ w.value-is ∙ ap not w.if-not-looked.false ∙ sym (ap (λ p. not p && nat_eq (length c.looked.inside.rules.now) 0) w.if-not-looked.false)
    ] in
    c.if-is_empty.false ∙ ap (λ b. b && not c.looked.inside.listed) (sym c.if-is_empty.false ∙ value) ∙ unknown_by book listing t _ (c.looked.view_is ∙ is)
