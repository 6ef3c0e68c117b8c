use Rattle.std.proofs.Common.{sym, ◌∙◌, ap}
use Rattle.mk_rules.proofs.Indexes.{find_here, find_none}
use Rattle.mk_rules.proofs.rulebook.Rulebook.recipe_among.Goals as goal

pub returns-then-has_commands : goal.returns-then-has_commands
returns-then-has_commands c =
    find_here c.args.self.now.rules c.args.places.now c.loop-place.place-index c.index.result.now c.loop-place-test.true (c.requires c.loop-place.place-index 0 c.loop-place-test.true)
    (rw (sym (ap (λ b. b.rules) c.self.view_is)) c.loop-place.invariant) (rw (sym (ap (λ b. b.rules) c.self.view_is)) c.index.ensures) (sym c.has_commands.ensures ∙ c.if-has_commands.true)

pub returns : goal.returns
returns c =
    find_none c.args.self.now.rules c.args.places.now c.loop-place.place-index c.loop-place-test.false (rw (sym (ap (λ b. b.rules) c.self.view_is)) c.loop-place.invariant)
