use Rattle.std.proofs.Common.{◌∙◌, sym}
use Rattle.mk_race.proofs.Noting.{first_within}
use Rattle.mk_race.proofs.unused.unused_by.Goals as goal

pub name-requires : goal.name-requires
name-requires c =
    first_within c.args.footprints.now c.args.plan.now.nodes c.deref.result.now _ (c.deref.ensures.value ∙ c.in_ok-numbers.ensures) (sym c.in-Some.ensures.value)
