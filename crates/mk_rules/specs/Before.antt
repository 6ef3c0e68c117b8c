-- What is kept of the macros before an include line.
use Rattle.std.specs.Prelude.{◌≡◌}
use Rattle.mk_macro.specs.Macros.{Entries, Macros, macros_of}
use Rattle.mk_rules.specs.declared.before.Before.{Before}
use Rattle.mk_rules.specs.declared.before.Before.TheVariants.{Same, Kept, Gone}

-- the macros before a line, as far as they are kept: with these macros now
abbrev pub IsBefore : Before → Entries → Macros → Type 0
IsBefore (Same begun) now first = first ≡ macros_of now
IsBefore (Kept kept) now first = first ≡ macros_of kept
IsBefore (Gone begun) now first = Unit {0}
