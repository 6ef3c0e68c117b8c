-- The line of a change that a second build makes in its plan.
use Rattle.std.specs.Prelude.{ℕ, List, [], ◌++◌, Option, Some, None, codes}
use Rattle.mk_name.specs.Shown.{line, shown}
use Rattle.mk_jobs.specs.Jobs.{Jobs, name_of}
use Rattle.mk_race.specs.declared.again.BuildChange.{BuildChange}
use Rattle.mk_race.specs.declared.again.BuildChange.TheVariants as changes

-- a node that it lacks or makes in another way
abbrev pub node_text : Jobs → ℕ → List ℕ
node_text jobs n = line (codes "plan " ++ shown (name_of jobs n))

-- the line, if there is a change
abbrev pub change_text : Jobs → Option BuildChange → List ℕ
change_text jobs None = []
change_text jobs (Some (changes.Node n)) = node_text jobs n
change_text jobs (Some changes.Refused) = line (codes "plan : refused")
