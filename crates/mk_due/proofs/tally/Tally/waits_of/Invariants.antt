use Rattle.std.proofs.Common.{◌≡◌, [], drop}
use Rattle.mk_due.specs.Items.{waits_among}
use Rattle.mk_due.proofs.tally.Tally.waits_of.Given as goal

-- the numbers so far, with those of the labels that are left, are all of them
abbrev pub invariant-loop-label : goal.invariant-loop-label
invariant-loop-label l = waits_among l.place l.self.items.items l.waits.keys (drop l.label-index l.after) ≡ waits_among l.place l.self.items.items [] l.after
