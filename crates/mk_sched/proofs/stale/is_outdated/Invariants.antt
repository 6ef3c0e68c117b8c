use Rattle.std.proofs.Common.{◌≡◌, ◌||◌, drop, option_map}
use Rattle.std.specs.List.{list_any}
use Rattle.mk_jobs.specs.Jobs.{name_of, is_phony}
use Rattle.mk_sched.specs.Stored.{store_of}
use Rattle.mk_sched.specs.Stores as stores
use Rattle.mk_sched.proofs.stale.is_outdated.Given as goal

-- one of all is phony or newer where one of those that are left is
abbrev pub invariant-loop-node : goal.invariant-loop-node
invariant-loop-node l =
    list_any (λ p. is_phony l.jobs p || stores.outdates l.tie (option_map (λ file. file.now) l.own) (store_of l.store (name_of l.jobs p))) l.nodes
    ≡ list_any (λ p. is_phony l.jobs p || stores.outdates l.tie (option_map (λ file. file.now) l.own) (store_of l.store (name_of l.jobs p))) (drop l.node-index l.nodes)
