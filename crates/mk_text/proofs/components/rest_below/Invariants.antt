use Rattle.std.proofs.Common.{◌≡◌, ◌≤◌, length, map, drop}
use Rattle.mk_text.specs.Spelling.{below}
use Rattle.mk_text.proofs.components.rest_below.Given as goal

-- what is left on both sides leads to the same answer
abbrev pub invariant-loop-i : goal.invariant-loop-i
invariant-loop-i l = record {
  room : l.i ≤ length l.parts;
  answer : below (map (λ part. part.items) (drop l.i l.root)) (map (λ x. x.now) (drop l.i l.parts)) ≡ below (map (λ part. part.items) l.root) (map (λ x. x.now) l.parts);
}
