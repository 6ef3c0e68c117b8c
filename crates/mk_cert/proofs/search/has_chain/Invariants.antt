use Rattle.std.proofs.Common.{◌-◌}
use Rattle.mk_cert.proofs.Searched.{IsBetween}
use Rattle.mk_cert.proofs.search.has_chain.Given as goal

abbrev pub invariant-loop-low : goal.invariant-loop-low
invariant-loop-low l = IsBetween l.certificate (l.first, l.last) l.low l.high

abbrev pub decreases-loop-low : goal.decreases-loop-low
decreases-loop-low l = l.high - l.low
