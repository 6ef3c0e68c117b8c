-- What an entry's line answers, by where its reading stops.
use Rattle.std.proofs.Common.{ℕ, List, Result, Ok, Err, refl, sym}
use Rattle.mk_name.specs.Gives.{Answers, Gives, Halts, HaltsAmong}
use Rattle.mk_name.specs.Names.{Name}
use Rattle.mk_name.specs.declared.fault.Halt.{Halt}
use Rattle.mk_name.specs.declared.fault.Halt.TheVariants as halts
use Rattle.mk_lines.specs.Parts.{EntryParts}
use Rattle.mk_macro.specs.Macros.{Macros}
use Rattle.mk_rules.specs.Book.{Entry}
use Rattle.mk_rules.specs.Entries.{EntrySays, PartSays, bad_prerequisites, bad_targets, checked_entry, entry_of, good_names}
use Rattle.mk_rules.specs.Placed.{Placed}

module _ (root : List ℕ) (macros : Macros) (p : Placed) (parts : EntryParts) where
  pub targets_stop : (halt : Halt) → HaltsAmong halt (PartSays root macros parts.targets) → HaltsAmong halt (EntrySays root macros p parts)
  targets_stop halts.Memory h = tt
  targets_stop (halts.Fault fault) h = bad_targets fault h refl

  module _ (targets : List Name) (said : PartSays root macros parts.targets (Ok targets)) where
    pub prerequisites_stop : (halt : Halt) → HaltsAmong halt (PartSays root macros parts.prerequisites) → HaltsAmong halt (EntrySays root macros p parts)
    prerequisites_stop halts.Memory h = tt
    prerequisites_stop (halts.Fault fault) h = bad_prerequisites targets fault said h refl

    module _ (prerequisites : List Name) (also : PartSays root macros parts.prerequisites (Ok prerequisites)) where
      check_stops : (halt : Halt) → Halts halt (checked_entry (entry_of p parts.has_command targets prerequisites)) → HaltsAmong halt (EntrySays root macros p parts)
      check_stops halts.Memory h = tt
      check_stops (halts.Fault fault) h = good_names targets prerequisites said also (sym h)

      pub entry_answers : (result : Result Entry Halt) → Gives result (checked_entry (entry_of p parts.has_command targets prerequisites)) → Answers result (EntrySays root macros p parts)
      entry_answers (Ok entry) h = good_names targets prerequisites said also (sym h)
      entry_answers (Err halt) h = check_stops halt h
