use Rattle.std.proofs.Common.{[]}
use Rattle.mk_read.proofs.devices.read_under.Goals as goal

pub returns-clause-read : goal.returns-clause-read
returns-clause-read g c =
    let fed = c.in_ok-feed_all.ensures.fed in
    (fed.0, fed.1, c.in_ok-read.ensures c.args.root fed.0 (fed.2 c.args.root [] c.begin-reader.ensures))
