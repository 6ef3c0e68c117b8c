use Rattle.std.proofs.Common.{◌≡◌, ◌++◌}
use Rattle.mk_text.proofs.listing.Listing.copy.Given as goal

-- the names so far, and then those that are left
abbrev pub invariant-loop-name : goal.invariant-loop-name
invariant-loop-name l = l.names.keys ++ l.name-iterator ≡ l.self
