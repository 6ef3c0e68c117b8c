use Rattle.std.proofs.lemmas.Result.{err_from_is_err_and}
use Rattle.mk_name.specs.declared.fault.Source.TheVariants.{Base, Makefile}
use Rattle.mk_macro.specs.Macros.{macros_of}
use Rattle.mk_include.specs.Includes.{texts_of}
use Rattle.mk_rules.specs.Placed.{placed}
use Rattle.mk_rules.specs.Reading.{point}
use Rattle.mk_rules.proofs.Beginning.{base_begun, more_begun}
use Rattle.mk_rules.proofs.BothTexts.{base_stops, both_answer}
use Rattle.mk_rules.proofs.reading.read_both.Goals as goal

pub returns-in_err-read_lines-clause-says : goal.returns-in_err-read_lines-clause-says
returns-in_err-read_lines-clause-says c =
    let p = err_from_is_err_and c.from_residual.result c.from_residual.ensures.1 in
    let ends = rw (c.requires.empty, c.requires.untaken) at c.in_err-read_lines.ensures.leads in
    rw (p.1, p.2) (base_stops c.args.reader.now.root.now (texts_of c.args.reader.now.includes.now) (macros_of c.args.macros.now) (placed Base c.args.base.now) (placed Makefile c.args.makefile.now) c.in_err-read_lines.field-0.0 (macros_of c.read_lines.new.macros) ends)

pub returns-clause-says : goal.returns-clause-says
returns-clause-says c =
    let first = rw (c.requires.empty, c.requires.untaken) at c.in_ok-read_lines.ensures.leads in
    both_answer c.args.reader.now.root.now (texts_of c.args.reader.now.includes.now) (macros_of c.args.macros.now) (placed Base c.args.base.now) (placed Makefile c.args.makefile.now)
    (point c.read_lines.new.so_far.rules.items c.read_lines.new.so_far.taken c.read_lines.new.macros) first c.read_lines-2.result c.read_lines-2.new.so_far.rules.items c.read_lines-2.new.so_far.taken c.read_lines-2.new.macros c.read_lines-2.ensures.leads

pub returns-in_err-read_lines-clause-begun : goal.returns-in_err-read_lines-clause-begun
returns-in_err-read_lines-clause-begun c =
    let p = err_from_is_err_and c.from_residual.result c.from_residual.ensures.1 in
    let begun = rw (c.requires.empty, c.requires.untaken) at c.in_err-read_lines.ensures.begun in
    rw (p.1, p.2) (base_begun c.args.reader.now.root.now (texts_of c.args.reader.now.includes.now) (macros_of c.args.macros.now) (placed Base c.args.base.now) (placed Makefile c.args.makefile.now) c.in_err-read_lines.field-0.0 (macros_of c.read_lines.new.macros) begun)

pub returns-clause-begun : goal.returns-clause-begun
returns-clause-begun c =
    let first = rw (c.requires.empty, c.requires.untaken) at c.in_ok-read_lines.ensures.leads in
    more_begun c.args.reader.now.root.now (texts_of c.args.reader.now.includes.now) (macros_of c.args.macros.now) (placed Base c.args.base.now) (placed Makefile c.args.makefile.now)
    (point c.read_lines.new.so_far.rules.items c.read_lines.new.so_far.taken c.read_lines.new.macros) c.read_lines-2.result (macros_of c.read_lines-2.new.macros) first c.read_lines-2.ensures.begun
