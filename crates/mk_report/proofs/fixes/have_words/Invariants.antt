use Rattle.std.proofs.Common.{◌≡◌, take, true}
use Rattle.std.specs.List.{list_all}
use Rattle.mk_report.specs.FixText.{has_words}
use Rattle.mk_report.proofs.fixes.have_words.Given as goal

-- the edges so far have words
abbrev pub invariant-loop-edge : goal.invariant-loop-edge
invariant-loop-edge l = list_all (has_words l.jobs) (take l.edge-index l.edges) ≡ true
