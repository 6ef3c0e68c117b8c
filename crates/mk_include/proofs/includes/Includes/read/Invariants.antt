use Rattle.std.proofs.Common.{◌≡◌, drop, map, take}
use Rattle.std.specs.List.{position_from}
use Rattle.mk_include.specs.Includes.{is_bad, named_pair, texts_of}
use Rattle.mk_include.proofs.includes.Includes.read.Given as goal

-- the first bad pair is not among those so far, whose texts are there
abbrev pub invariant-loop-i : goal.invariant-loop-i
invariant-loop-i l = record {
  bad : position_from is_bad 0 (map (λ pair. (pair.0.now, pair.1.now)) l.pairs) ≡ position_from is_bad l.i (map (λ pair. (pair.0.now, pair.1.now)) (drop l.i l.pairs));
  texts : texts_of l.includes ≡ texts_of (map (named_pair l.root) (map (λ pair. (pair.0.now, pair.1.now)) (take l.i l.pairs)));
}
