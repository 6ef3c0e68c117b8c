use Rattle.std.proofs.Common.{take, length}
use Rattle.mk_missing.proofs.News.{Gains}
use Rattle.mk_missing.proofs.hearing.add_news.Given as goal

-- the news of the nodes so far are added
abbrev pub invariant-loop-p : goal.invariant-loop-p
invariant-loop-p l = Gains l.jobs (length l.initial.row) l.done l.carries (take l.p-index l.nodes) l.initial.row l.row
