use Rattle.std.proofs.Common.{arith, map}
use Rattle.std.proofs.lemmas.List.{length-map}
use Rattle.mk_path.proofs.Numbering.{behind}
use Rattle.mk_index.proofs.Uniting.{run_before}
use Rattle.mk_index.proofs.gather.run_end.Goals as goal

pub returns-else-is_lt-clause-before : goal.returns-else-is_lt-clause-before
returns-else-is_lt-clause-before c =
    let kept = c.loop-leap.invariant in
    run_before (map behind c.args.paths.now) (map behind c.args.others.now) c.loop-leap.end c.args.at c.requires.rise (omega (arith, kept.more))
    (omega (arith, kept.within, length-map c.args.paths.now behind)) kept.last

pub returns-after-loop-leap-clause-before : goal.returns-after-loop-leap-clause-before
returns-after-loop-leap-clause-before c =
    let kept = c.loop-leap.invariant in
    run_before (map behind c.args.paths.now) (map behind c.args.others.now) c.loop-leap.end c.args.at c.requires.rise (omega (arith, kept.more))
    (omega (arith, kept.within, length-map c.args.paths.now behind)) kept.last
