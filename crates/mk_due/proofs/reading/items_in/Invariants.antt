use Rattle.std.proofs.Common.{◌≡◌, ◌+◌, ◌++◌, [], List, ℕ, length}
use Rattle.std.specs.Option.{option_map_or}
use Rattle.mk_text.specs.LineFeed.{place_behind}
use Rattle.mk_text.specs.Lexical.{physical_lines}
use Rattle.mk_due.specs.Good.{IsTally}
use Rattle.mk_due.specs.Items.{AreItems}
use Rattle.mk_due.proofs.reading.items_in.Given as goal

-- the lines so far have these items, and with those that are left they are all of them
abbrev pub invariant-lines : goal.invariant-lines
invariant-lines l = record {
  tally : IsTally l.tally;
  done : List (List ℕ);
  all : done ++ option_map_or (λ rest. physical_lines rest.now) l.rest [] ≡ physical_lines l.fn.text;
  place : l.place ≡ place_behind done;
  items : AreItems l.root l.listing done l.tally.items.items;
}

abbrev pub decreases-lines : goal.decreases-lines
decreases-lines l = option_map_or (λ rest. length rest.now + 1) l.rest 0
