use Rattle.std.proofs.Common.{◌≡◌, map, take}
use Rattle.mk_files.specs.Includes.{shown}
use Rattle.mk_files.proofs.includes.pairs_of.Given as goal

-- the texts so far are pairs
abbrev pub invariant-loop-known : goal.invariant-loop-known
invariant-loop-known l = map (λ pair. (pair.0.now, pair.1.now)) l.pairs.items ≡ shown (take l.known-index l.texts)
