use Rattle.std.proofs.Common.{◌≡◌, ◌+◌, ◌++◌, List, [], Some, length}
use Rattle.std.specs.Option.{option_map_or}
use Rattle.mk_text.specs.Lexical.{physical_lines}
use Rattle.mk_files.specs.Includes.{Pair, pairs_of, shown}
use Rattle.mk_files.proofs.Included.{AreReadUpTo}
use Rattle.mk_files.proofs.includes.read_listed.Given as goal

-- the texts so far with those of the rest are all of them, the lines so far may be read, and the opener states what it stated at
-- the start
abbrev pub invariant-lines : goal.invariant-lines
invariant-lines g l = record {
  reported : (pairs : List Pair) → pairs_of (g.P.Opener.files l.fn.opener).text (physical_lines l.fn.listed) ≡ Some pairs
      → (more : List Pair) × (pairs_of (g.P.Opener.files l.fn.opener).text (option_map_or (λ rest. physical_lines rest.now) l.rest []) ≡ Some more) × (shown l.texts.items ++ more ≡ pairs);
  read : AreReadUpTo (g.P.Opener.files l.fn.opener) (physical_lines l.fn.listed) (option_map_or (λ rest. physical_lines rest.now) l.rest []);
  same : g.P.Opener.files l.opener ≡ g.P.Opener.files l.fn.opener;
}

abbrev pub decreases-lines : goal.decreases-lines
decreases-lines g l = option_map_or (λ rest. length rest.now + 1) l.rest 0
