use Rattle.std.proofs.Common.{◌≡◌, ◌+◌, ◌-◌, ◌≤◌, ◌==◌, ◌||◌, length, drop}
use Rattle.std.specs.Option.{option_map}
use Rattle.mk_lines.specs.Outside.{place_outside}
use Rattle.mk_lines.proofs.references.place_outside.Given as goal

-- the place is that of the rest, which begins outside of references
abbrev pub invariant-search : goal.invariant-search
invariant-search l = record {
  inside : l.start ≤ length l.fn.text;
  whole : place_outside (λ b. b == l.fn.first || b == l.fn.second) l.fn.text ≡ option_map (λ n. n + l.start) (place_outside (λ b. b == l.fn.first || b == l.fn.second) (drop l.start l.fn.text));
}

abbrev pub decreases-search : goal.decreases-search
decreases-search l = length l.fn.text - l.start
