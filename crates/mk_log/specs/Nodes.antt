-- For private clauses: the nodes of a build, by the texts that spell their names.
use Rattle.std.specs.Prelude.{ℕ, ◌≡◌, List, Option, option_and_then}
use Rattle.mk_jobs.specs.Jobs.{Jobs}
use Rattle.mk_jobs.specs.Numbered.{number_of}
use Rattle.mk_jobs.specs.Plan.{names_of}
use Rattle.mk_foot.specs.Json.{path_named}
use Rattle.mk_log.specs.declared.nodes.Spelled.{Spelled}

-- some jobs, and the root that their names stand below
pub record Build : Type 0 where
  pub jobs : Jobs
  pub root : List ℕ

-- the number of the node whose name a text spells
abbrev pub node_named : Build → List ℕ → Option ℕ
node_named build text = option_and_then (number_of (names_of build.jobs.plan.nodes)) (path_named build.root text)

-- what is kept of a text is so
abbrev pub IsSo : Build → Spelled → Type 0
IsSo build spelled = spelled.node ≡ node_named build spelled.text.items
