use Rattle.std.proofs.Common.{◌≡◌, ◌↔◌, Bool, subst, sym, true}
use Rattle.mk_missing.specs.Kinds.{HasFlaw}
use Rattle.mk_missing.specs.Violations.{IsWrittenTree}
use Rattle.mk_missing.specs.declared.kind.Flaw.{Flaw}
use Rattle.mk_missing.proofs.Alone.{tree_is}
use Rattle.mk_missing.proofs.flaws.has_flaw.Goals as goal

pub returns-in-Listed : goal.returns-in-Listed
returns-in-Listed c = subst (λ (flaw : Flaw). (c.is_listed_output.result ≡ true) ↔ HasFlaw c.args.jobs.now c.args.listing.now flaw c.args.user.now.file) (sym c.in-Listed.is) c.is_listed_output.ensures

pub returns-in-Tree : goal.returns-in-Tree
returns-in-Tree c =
    let user = c.args.user.now in
    subst (λ (flaw : Flaw). (c.is_written_tree.result ≡ true) ↔ HasFlaw c.args.jobs.now c.args.listing.now flaw user.file) (sym c.in-Tree.is)
    (subst (λ (b : Bool). (b ≡ true) ↔ IsWrittenTree c.args.jobs.now user.file) (sym c.is_written_tree.ensures) (tree_is c.args.jobs.now user c.requires.users))
