use Rattle.std.proofs.Common.{◌↔◌, IsSome}
use Rattle.std.specs.BTreeMap.{get}
use Rattle.std.specs.List.{All}
use Rattle.std.specs.Cmp.Lexicographic.{slice_cmp}
use Rattle.std.specs.Ordering.{nat_cmp}
use Rattle.mk_text.proofs.listing.Listing.are_all_in.Given as goal

-- all names are keys of the map where those that are left are
abbrev pub invariant-loop-name : goal.invariant-loop-name
invariant-loop-name g l =
    All (λ name. IsSome (get (slice_cmp nat_cmp) l.map name)) l.self ↔ All (λ name. IsSome (get (slice_cmp nat_cmp) l.map name)) l.name-iterator
