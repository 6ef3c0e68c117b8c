use Rattle.std.proofs.Common.{[]}
use Rattle.mk_foot.proofs.reading.read_footprints.Goals as goal

pub returns : goal.returns
returns c =
    c.finish.ensures.value c.args.root.now c.args.text.now
    (c.feed-fed.ensures.read c.args.root.now [] (rw c.in_ok-copy.ensures at c.new-reader.ensures))
