use Rattle.std.proofs.Common.{◌∙◌, sym}
use Rattle.mk_json.proofs.Meanings.{passed_member}
use Rattle.mk_json.proofs.meaning.+meaning.Goals as goal

pub members_are_meant-members-preserved : goal.members_are_meant-members-preserved
members_are_meant-members-preserved t c =
    let meant = sym c.is_meant.ensures ∙ c.if-not-is_meant.false in
    c.members.invariant ∙ passed_member c.deref-member-items.result.now c.members.member-index c.member-item.result c.members-test.true c.member-item.is meant
