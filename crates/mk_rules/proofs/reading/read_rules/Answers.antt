use Rattle.std.proofs.Common.{subst}
use Rattle.std.proofs.lemmas.Result.{err_from_is_err_and}
use Rattle.mk_macro.specs.Macros.{macros_of}
use Rattle.mk_include.specs.Includes.{texts_of}
use Rattle.mk_name.specs.Gives.{Answers}
use Rattle.mk_rules.specs.Book.{Book}
use Rattle.mk_rules.specs.Placed.{all_lines}
use Rattle.mk_rules.specs.Reading.{BookSays}
use Rattle.mk_rules.proofs.Beginning.{lines_all, memory_has}
use Rattle.mk_rules.proofs.BothTexts.{book_answers, lines_stop}
use Rattle.mk_rules.proofs.reading.read_rules.Goals as goal

pub returns-in_err-rules-clause-says : goal.returns-in_err-rules-clause-says
returns-in_err-rules-clause-says c =
    let p = err_from_is_err_and c.from_residual.result c.from_residual.ensures.1 in
    rw (p.1, p.2) (lines_stop c.args.root.now (texts_of c.args.includes.now) (macros_of c.args.macros.now) (all_lines c.args.base.now c.args.makefile.now) c.in_err-rules.field-0.0 (macros_of c.read_all.new.macros) c.in_err-rules.ensures.says)

pub returns-clause-says : goal.returns-clause-says
returns-clause-says c =
    let Checks : Book → Type 0 = λ b. Answers c.checked.result (BookSays b) in
    book_answers c.args.root.now (texts_of c.args.includes.now) (macros_of c.args.macros.now) (all_lines c.args.base.now c.args.makefile.now) c.in_ok-rules.rules.items (macros_of c.read_all.new.macros) c.in_ok-rules.ensures.says
    c.checked.result (subst Checks c.in_ok-book.ensures c.checked.ensures)

pub returns-in_err-book-clause-begun : goal.returns-in_err-book-clause-begun
returns-in_err-book-clause-begun c = memory_has _ _ (lines_all c.args.root.now (texts_of c.args.includes.now) (macros_of c.args.macros.now) (all_lines c.args.base.now c.args.makefile.now) c.in_ok-rules.rules.items (macros_of c.read_all.new.macros) c.in_ok-rules.ensures.says)

pub returns-clause-begun : goal.returns-clause-begun
returns-clause-begun c = memory_has c.checked.result _ (lines_all c.args.root.now (texts_of c.args.includes.now) (macros_of c.args.macros.now) (all_lines c.args.base.now c.args.makefile.now) c.in_ok-rules.rules.items (macros_of c.read_all.new.macros) c.in_ok-rules.ensures.says)
