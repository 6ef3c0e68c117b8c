use Rattle.std.proofs.Common.{◌≡◌, ◌*◌, All, drop}
use Rattle.mk_missing.specs.Hearing.{AreHeard}
use Rattle.mk_missing.proofs.hearing.fill_rows.Given as goal

-- the rows so far are filled, the others clear
abbrev pub invariant-loop-n : goal.invariant-loop-n
invariant-loop-n l = AreHeard l.jobs l.width l.words l.n × All (λ word. word ≡ 0) (drop (l.n * l.width) l.words)
