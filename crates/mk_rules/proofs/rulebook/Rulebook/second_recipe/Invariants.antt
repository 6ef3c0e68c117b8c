use Rattle.std.proofs.Common.{◌≡◌, drop, slice_get}
use Rattle.std.specs.List.{enumerate_from, filter_map}
use Rattle.mk_rules.proofs.Recipes.{second_at}
use Rattle.mk_rules.proofs.rulebook.Rulebook.second_recipe.Given as goal

-- the first such entry is among those that are left
abbrev pub invariant-loop-place : goal.invariant-loop-place
invariant-loop-place l =
    slice_get (filter_map (second_at l.self.rules) (drop l.place (enumerate_from 0 l.self.rules))) 0
    ≡ slice_get (filter_map (second_at l.self.rules) (enumerate_from 0 l.self.rules)) 0
