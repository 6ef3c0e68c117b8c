use Rattle.std.proofs.Common.{arith, ap, ◌∙◌, ◌++◌, ◌∷◌, [], List, ℕ}
use Rattle.std.specs.Fmt.{decimal}
use Rattle.mk_name.specs.Shown.{shown}
use Rattle.mk_program.specs.PlanText.{needs}
use Rattle.mk_program.proofs.PlanLines.{line_reported}
use Rattle.mk_program.proofs.plan_lines.push_node.Goals as goal

pub push_needs-requires : goal.push_needs-requires
push_needs-requires c n stands = omega (arith, c.prerequisites.ensures.smaller n stands, c.requires)

pub returns : goal.returns
returns c =
    let nodes = c.args.plan.now.nodes in
    let head = c.in_ok-extend_from_slice.ensures.items in
    let named = c.in_ok-push_shown.ensures.shown ∙ ap (λ (l : List ℕ). l ++ shown c.as_bytes-2.result.now) head
    ∙ ap (λ (name : List ℕ). (c.args.out.now.items ++ c.as_bytes.result.now) ++ shown name) c.as_bytes-2.ensures in
    let needed = c.in_ok-push_needs.ensures ∙ ap (λ (l : List ℕ). l ++ needs nodes c.prerequisites.result.now) named in
    let reported = c.as_bytes.ensures.value ∙ c.in_ok-head.ensures.ok ∙ ap (λ (word : List ℕ). decimal c.args.number ++ 32 ∷ (word ++ 32 ∷ [])) c.kind_word-kind.ensures in
    line_reported nodes c.args.number c.maker.result c.name.result.now c.prerequisites.result.now c.args.out.now.items _ _ c.maker.ensures c.name.ensures c.prerequisites.ensures.value
    reported (c.in_ok-push.ensures.items ∙ ap (λ (l : List ℕ). l ++ 10 ∷ []) needed)
