use Rattle.std.proofs.Common.{◌≡◌, ℕ, ◌<◌, ◌≤◌, [], Some, get_or, length, take, drop, reverse, option_map}
use Rattle.mk_macro.specs.Layer.{Layer, Relays}
use Rattle.mk_macro.specs.Words.{reach}
use Rattle.mk_macro.proofs.output.relay.Given as goal

-- the layers from here on have passed on what is settled, and the others are as they were
abbrev pub invariant-layers : goal.invariant-layers
invariant-layers l = record {
  inside : l.place ≤ length l.layers;
  front : take l.place l.layers ≡ take l.place l.fn.layers;
  relays : Relays (reverse (drop l.place l.fn.layers)) (Some []) (reverse (drop l.place l.layers)) (option_map (λ v. v.items) l.flow);
  short : (k : ℕ) (d : Layer) → l.place ≤ k → k < length l.layers → length (get_or l.layers k d).kept ≤ reach (get_or l.layers k d).change;
}

abbrev pub decreases-layers : goal.decreases-layers
decreases-layers l = l.place
