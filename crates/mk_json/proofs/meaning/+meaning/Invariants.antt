use Rattle.std.proofs.Common.{◌≡◌, is_some, drop}
use Rattle.json.specs.Value.{items_view, members_view}
use Rattle.serde_json.specs.Data.{no_members}
use Rattle.serde_json.specs.Read.{of_items, of_members}
use Rattle.mk_json.proofs.meaning.+meaning.Given as goal

-- it depends on the rest alone
abbrev pub invariant-are_meant-items : goal.invariant-are_meant-items
invariant-are_meant-items l = is_some (of_items (items_view l.items.items)) ≡ is_some (of_items (items_view (drop l.item-index l.item-items)))

abbrev pub invariant-members_are_meant-members : goal.invariant-members_are_meant-members
invariant-members_are_meant-members l =
    is_some (of_members (members_view l.members.items) no_members) ≡ is_some (of_members (members_view (drop l.member-index l.member-items)) no_members)
