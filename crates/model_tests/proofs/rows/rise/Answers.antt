use Rattle.std.proofs.Common.{[], false, arith}
use Rattle.std.proofs.lemmas.Map.Keys.{sorted_from_all_adjacent}
use Rattle.mk_path.proofs.PathOrder.{path_cmp_total}
use Rattle.model_tests.proofs.rows.rise.Goals as goal

pub returns : goal.returns
returns c = λ done.
    sorted_from_all_adjacent path_cmp_total c.args.paths.now (record { name = []; tree = false })
    (λ k inside. c.loop-place.invariant k (omega (arith, inside, c.loop-place-test.false)))
