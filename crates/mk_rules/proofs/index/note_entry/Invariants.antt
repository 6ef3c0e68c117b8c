use Rattle.std.proofs.Common.{◌≡◌, length, map, take}
use Rattle.mk_rules.specs.Index.{NotesEntry}
use Rattle.mk_rules.proofs.index.note_entry.Given as goal

-- the entry with the targets so far is noted
abbrev pub invariant-loop-name : goal.invariant-loop-name
invariant-loop-name l = record {
  long : length l.places.items ≡ length l.targets.keys;
  noted : NotesEntry (take l.name-index l.names) l.place l.initial.targets.keys (map (λ row. row.items) l.initial.places.items) l.targets.keys (map (λ row. row.items) l.places.items);
}
