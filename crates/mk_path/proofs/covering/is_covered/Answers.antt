use Rattle.std.proofs.Common.{rules}
use Rattle.mk_path.proofs.Found.{covered_found}
use Rattle.mk_path.proofs.covering.is_covered.Goals as goal

pub returns : goal.returns
returns c = let h = covered_found c.args.root.now c.args.paths.now c.args.name.now in search rules
