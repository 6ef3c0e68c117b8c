use Rattle.std.proofs.Common.{◌≡◌, drop}
use Rattle.program_tests.specs.Shelf.{page_at}
use Rattle.program_tests.proofs.shelf.page_at.Given as goal

-- the first files have other paths
abbrev pub invariant-loop-book : goal.invariant-loop-book
invariant-loop-book l = page_at (drop l.book-index l.books) l.path ≡ page_at l.books l.path
