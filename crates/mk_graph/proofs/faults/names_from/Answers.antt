use Rattle.std.proofs.Common.{List, ℕ, subst, take, drop, ◌+◌}
use Rattle.std.proofs.lemmas.List.{take_rest, take-append-drop}
use Rattle.mk_name.proofs.Names.{nat_is_exact, in_left, in_right}
use Rattle.std.specs.Prelude.{nat_eq}
use Rattle.mk_graph.proofs.Steps.{In}
use Rattle.mk_graph.proofs.faults.names_from.Goals as goal

pub add_names-requires : goal.add_names-requires
add_names-requires c = λ n h. c.requires.within n (subst (λ (xs : List ℕ). In xs n) (take-append-drop c.args.first c.args.ring.now)
    (in_right nat_eq nat_is_exact (take c.args.first c.args.ring.now) (drop c.args.first c.args.ring.now) n (subst (λ (xs : List ℕ). In xs n) (take_rest c.args.ring.now c.args.first) h)))

pub add_names-requires-2 : goal.add_names-requires-2
add_names-requires-2 c = λ n h. c.requires.within n (subst (λ (xs : List ℕ). In xs n) (take-append-drop (c.args.first + 1) c.args.ring.now)
    (in_left nat_eq nat_is_exact (take (c.args.first + 1) c.args.ring.now) (drop (c.args.first + 1) c.args.ring.now) n h))
