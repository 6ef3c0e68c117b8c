use Rattle.std.proofs.Common.{◌≡◌, map}
use Rattle.mk_log.proofs.ReadLines.{ReadsTo}
use Rattle.mk_log.proofs.reading.read_log.Given as goal

-- the nodes are those of the jobs below the root, and the lines so far are read
abbrev pub invariant-loop-number : goal.invariant-loop-number
invariant-loop-number l =
    (l.nodes ≡ record { jobs = l.jobs; root = l.root })
    × ReadsTo l.jobs l.root (map (λ line. line.now) l.text-items) l.number l.log
