use Rattle.std.proofs.Common.{◌≡◌, drop, find}
use Rattle.mk_rules.specs.Book.{commands_at}
use Rattle.mk_rules.proofs.rulebook.Rulebook.recipe_among.Given as goal

-- the first with commands is among the places that are left
abbrev pub invariant-loop-place : goal.invariant-loop-place
invariant-loop-place l = find (commands_at l.self-inside.rules.items) (drop l.place-index l.places) ≡ find (commands_at l.self-inside.rules.items) l.places
