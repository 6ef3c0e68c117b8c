-- Which nodes of a plan have a recipe that can run.
use Rattle.std.specs.Prelude.{Bool}
use Rattle.mk_jobs.specs.Plan.{Node}
use Rattle.mk_jobs.specs.Jobs.{has_commands, live_by}

-- a node of a plan has a recipe that is live
abbrev pub is_live_node : Node → Bool
is_live_node node = live_by (has_commands node.maker) node.listed node.phony node.prerequisites
