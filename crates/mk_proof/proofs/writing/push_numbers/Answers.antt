use Rattle.std.proofs.Common.{◌++◌, ◌∷◌, List, ℕ, ap, ◌∙◌}
use Rattle.std.proofs.lemmas.List.{take_all}
use Rattle.std.specs.Fmt.{decimal}
use Rattle.std.specs.List.{flat_map}
use Rattle.mk_proof.proofs.writing.push_numbers.Goals as goal

pub returns : goal.returns
returns c =
    c.loop-number.invariant
    ∙ ap (λ (ns : List ℕ). c.args.out.now.items ++ flat_map (λ n. 32 ∷ decimal n) ns) (take_all c.loop-number.number-index c.args.numbers.now c.loop-number-test.false)
