use Rattle.std.proofs.Common.{◌+◌, ◌++◌, ℕ, List, [], length}
use Rattle.std.specs.Option.{option_map_or}
use Rattle.mk_text.specs.Lexical.{physical_lines}
use Rattle.mk_text.specs.LineFeed.{IsIn}
use Rattle.mk_text.proofs.Feeding.{ReadsOn}
use Rattle.mk_text.proofs.line_feed.LineFeed.read.Given as goal

-- what was read before the piece goes on with the lines of the piece so far
abbrev pub invariant-lines : goal.invariant-lines
invariant-lines g l =
    (root text : List ℕ) → IsIn (g.S.LineSink.has root) g.S.LineSink.KEPT text l.fn.self
    → ReadsOn (g.S.LineSink.has root) g.S.LineSink.KEPT (physical_lines (text ++ l.fn.piece)) l.line (option_map_or (λ rest. physical_lines rest.now) l.rest []) l.self

abbrev pub decreases-lines : goal.decreases-lines
decreases-lines g l = option_map_or (λ rest. length rest.now + 1) l.rest 0
