use Rattle.std.proofs.Common.{◌≡◌, ◌≤◌, drop, length}
use Rattle.mk_due.specs.Good.{IsNew, IsTally}
use Rattle.mk_due.specs.Items.{leaves_of, with_items}
use Rattle.mk_due.proofs.tally.Tally.add_leaves.Given as goal

-- the items so far, with leaves for the names that are left, are all of them
abbrev pub invariant-loop-name : goal.invariant-loop-name
invariant-loop-name l = record {
  tally : IsTally l.self;
  new : IsNew l.self.items.items l.label;
  more : length l.initial.self.items.items ≤ length l.self.items.items;
  added :
      with_items l.place l.self.items.items (leaves_of l.listing l.place l.label l.self.items.items (drop l.name-index l.needs))
      ≡ with_items l.place l.initial.self.items.items (leaves_of l.listing l.place l.label l.initial.self.items.items l.needs);
}
