use Rattle.std.proofs.Common.{◌≡◌, take}
use Rattle.std.specs.List.{flat_map}
use Rattle.mk_name.specs.Names.{firsts, same_name}
use Rattle.mk_rules.proofs.Indexes.{prerequisites_at}
use Rattle.mk_rules.proofs.rulebook.Rulebook.prerequisites.Given as goal

-- the prerequisites at the places so far are taken in
abbrev pub invariant-loop-place : goal.invariant-loop-place
invariant-loop-place l = l.joined.keys ≡ firsts same_name (flat_map (prerequisites_at l.self.rules) (take l.place-index l.place-items))
