use Rattle.std.proofs.Common.{◌≡◌, fold, map, take}
use Rattle.std.specs.BTreeSet.{insert_key}
use Rattle.std.specs.Cmp.Lexicographic.{slice_cmp}
use Rattle.std.specs.Ordering.{nat_cmp}
use Rattle.mk_jobs.specs.Plan.{names_of}
use Rattle.mk_foot.proofs.owned.add_nodes.Given as goal

-- the names of the nodes so far are added
abbrev pub invariant-loop-n : goal.invariant-loop-n
invariant-loop-n l = map (λ name. name.now) l.names.keys ≡ fold (insert_key (slice_cmp nat_cmp)) (map (λ name. name.now) l.initial.names.keys) (take l.n (names_of l.plan.nodes))
