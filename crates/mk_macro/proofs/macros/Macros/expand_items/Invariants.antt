use Rattle.std.proofs.Common.{◌+◌, ◌-◌, ◌*◌, ◌^◌, length, reverse}
use Rattle.mk_macro.specs.Expansion.{reference_limit}
use Rattle.mk_macro.specs.Macros.{macros_of}
use Rattle.mk_macro.specs.Recent.{IsRecent}
use Rattle.mk_macro.specs.References.{items_of}
use Rattle.mk_macro.proofs.Steps.{Stands}
use Rattle.mk_macro.proofs.Work.{work}
use Rattle.mk_macro.proofs.macros.Macros.expand_items.Given as goal

abbrev pub invariant-items : goal.invariant-items
invariant-items l =
    Stands (macros_of l.self) l.text (reverse l.opens.items) l.out (items_of l.rest) l.count
    × IsRecent (macros_of l.self) l.last

-- a reference counts more than any value is long
abbrev pub decreases-items : goal.decreases-items
decreases-items l = (reference_limit - l.count) * 2 ^ 64 + length l.rest + work l.opens.items
