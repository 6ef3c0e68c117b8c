-- Whether a second build, which finds what the first one made, is planned as the first.
use Rattle.std.specs.Prelude.{ℕ, ◌≡◌, ◌<◌, ◌&&◌, not, Bool, List, [], ◌∷◌, ◌++◌, map, Option, Some, None, Result, Ok, Err, if◌then◌else◌}
use Rattle.mk_name.specs.Names.{Name}
use Rattle.mk_name.specs.Reported.{Reported}
use Rattle.mk_jobs.specs.Jobs.{Jobs, is_phony, maker_of, name_of, node_count, prerequisites_of}
use Rattle.mk_jobs.specs.Numbered.{number_of}
use Rattle.mk_jobs.specs.Plan.{Node, names_of, node_at}
use Rattle.mk_missing.specs.Watching.{makes_own}
use Rattle.mk_text.specs.Listing.{put_among}
use Rattle.mk_race.specs.Parts.{IsPlannedWith}
use Rattle.mk_race.specs.Stages.{Texts}
use Rattle.mk_race.specs.declared.again.BuildChange.{BuildChange}
use Rattle.mk_race.specs.declared.again.BuildChange.TheVariants as changes
use Rattle.mk_race.specs.declared.planning.Planned.{Planned}
use Rattle.mk_race.specs.declared.preparing.Prepared.{Prepared}

-- a node is a product: it makes its own file, and is not phony
abbrev pub is_product : Jobs → ℕ → Bool
is_product jobs n = makes_own jobs n && not (is_phony jobs n)

-- its name, if it is one
abbrev pub product_name : Jobs → ℕ → List Name
product_name jobs n = if is_product jobs n then name_of jobs n ∷ [] else []

-- those of all products below a number
abbrev pub product_names : Jobs → ℕ → List Name
product_names jobs ℕ.zero = []
product_names jobs (ℕ.suc n) = product_names jobs n ++ product_name jobs n

-- the listing of a second build: the files that were listed, and the products
abbrev pub listed_again : List Name → Jobs → List Name
listed_again listed jobs = put_among listed (product_names jobs (node_count jobs))

-- the name of a node of a plan
abbrev pub name_in : List Node → ℕ → Name
name_in nodes n = (node_at nodes n).name

-- node n of the jobs and node m of a plan are made in the same way, of prerequisites of the same names
pub record IsAlike (jobs : Jobs) (n : ℕ) (nodes : List Node) (m : ℕ) : Type 0 where
  pub maker : maker_of jobs n ≡ (node_at nodes m).maker
  pub needs : map (name_of jobs) (prerequisites_of jobs n) ≡ map (name_in nodes) (node_at nodes m).prerequisites

abbrev pub IsAlikeIfAny : Jobs → ℕ → List Node → Option ℕ → Type 0
IsAlikeIfAny jobs n nodes None = ⊥
IsAlikeIfAny jobs n nodes (Some m) = IsAlike jobs n nodes m

-- a plan keeps node n: it has a node of this name, which is made alike
abbrev pub KeepsNode : Jobs → List Node → ℕ → Type 0
KeepsNode jobs nodes n = IsAlikeIfAny jobs n nodes (number_of (names_of nodes) (name_of jobs n))

-- node n is the first of the jobs that a plan does not keep
pub record IsFirstLost (jobs : Jobs) (nodes : List Node) (n : ℕ) : Type 0 where
  pub inside : n < node_count jobs
  pub lost : KeepsNode jobs nodes n → ⊥
  pub before : (k : ℕ) → k < n → KeepsNode jobs nodes k

-- the first change that a plan makes, if it makes one
abbrev pub IsChangeTo : Jobs → List Node → Option BuildChange → Type 0
IsChangeTo jobs nodes None = (n : ℕ) → n < node_count jobs → KeepsNode jobs nodes n
IsChangeTo jobs nodes (Some (changes.Node n)) = IsFirstLost jobs nodes n
IsChangeTo jobs nodes (Some changes.Refused) = ⊥

-- that of a plan, if there is one; or there is none, since its texts are refused
abbrev pub IsChangeBy : Jobs → Result Planned Reported → Option BuildChange → Type 0
IsChangeBy jobs (Ok planned) change = IsChangeTo jobs planned.plan.nodes change
IsChangeBy jobs (Err reported) change = change ≡ Some changes.Refused

-- that of the build that these texts mean, where these files are listed
abbrev pub IsChangeWith : Texts → List Name → Jobs → Option BuildChange → Type 0
IsChangeWith texts listed jobs change = (given : Result Planned Reported) × IsPlannedWith texts (Ok listed) given × IsChangeBy jobs given change

-- that of a second build
abbrev pub IsChange : Texts → Prepared → Option BuildChange → Type 0
IsChange texts prepared change = IsChangeWith texts (listed_again prepared.listing prepared.jobs) prepared.jobs change
