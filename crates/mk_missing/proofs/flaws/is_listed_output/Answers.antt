use Rattle.std.proofs.Common.{◌≡◌, ◌↔◌, Bool, subst, sym, true}
use Rattle.mk_missing.specs.Violations.{IsListedOutput}
use Rattle.mk_missing.proofs.Alone.{listed_is}
use Rattle.mk_missing.proofs.flaws.is_listed_output.Goals as goal

pub returns : goal.returns
returns c =
    let user = c.args.user.now in
    subst (λ (b : Bool). (b ≡ true) ↔ IsListedOutput c.args.jobs.now c.args.listing.now user.file) (sym c.is_listed_file.ensures)
    (listed_is c.args.jobs.now c.args.listing.now user c.is_present_name-present.result c.requires.users c.is_present_name-present.ensures)
