use Rattle.std.proofs.Common.{◌∙◌, arith, sym}
use Rattle.program_tests.proofs.Shelving.{found, not_there, passed}
use Rattle.program_tests.proofs.shelf.page_at.Goals as goal

pub returns-then-eq : goal.returns-then-eq
returns-then-eq c = found c.args.books.now c.loop-book.book-index _ c.args.path.now c.loop-book-test.true c.loop-book.invariant (sym c.eq.ensures ∙ c.if-eq.true)

pub loop-book-preserved : goal.loop-book-preserved
loop-book-preserved c = passed c.args.books.now c.loop-book.book-index _ c.args.path.now c.loop-book-test.true c.loop-book.invariant (sym c.eq.ensures ∙ c.if-eq.false)

pub returns : goal.returns
returns c =
    not_there c.args.books.now c.loop-book.book-index c.args.path.now (omega (arith, c.loop-book-test.false)) c.loop-book.invariant
