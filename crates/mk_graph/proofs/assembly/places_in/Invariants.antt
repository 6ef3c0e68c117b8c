use Rattle.std.proofs.Common.{◌≡◌, ◌<◌, ℕ, length, get_or}
use Rattle.mk_graph.proofs.assembly.places_in.Given as goal

abbrev pub invariant-loop-place : goal.invariant-loop-place
invariant-loop-place l = record {
  long : length l.places.items ≡ l.count;
  placed : (i : ℕ) → i < l.place → get_or l.places.items (get_or l.order i 0) 0 ≡ i;
}
