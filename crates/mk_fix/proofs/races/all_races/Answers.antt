use Rattle.std.proofs.Common.{◌≡◌, arith, length}
use Rattle.mk_fix.proofs.races.all_races.Goals as goal

pub returns-clause-pairs : goal.returns-clause-pairs
returns-clause-pairs g c =
    let long : c.len.result ≡ length c.in_ok-pairs.pairs.items = let len = c.len.ensures in let ok = c.in_ok-pairs.pairs.ok.0 in omega (arith, len, ok) in
    (c.in_ok-pairs.pairs.items, c.in_ok-pairs.ensures.pairs, long)
