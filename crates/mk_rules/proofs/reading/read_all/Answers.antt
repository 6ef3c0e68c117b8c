use Rattle.std.proofs.Common.{refl}
use Rattle.mk_macro.specs.Macros.{macros_of}
use Rattle.mk_include.specs.Includes.{texts_of}
use Rattle.mk_rules.specs.Placed.{all_lines}
use Rattle.mk_rules.proofs.Beginning.{lines_none, memory_has}
use Rattle.mk_rules.proofs.reading.read_all.Goals as goal

pub returns-in_err-first-clause-begun : goal.returns-in_err-first-clause-begun
returns-in_err-first-clause-begun c =
    memory_has _ _ (lines_none c.args.root.now (texts_of c.args.includes.now) (macros_of c.args.macros.now) (all_lines c.args.base.now c.args.makefile.now) (macros_of c.args.macros.now) refl)

pub returns-clause-says : goal.returns-clause-says
returns-clause-says c = rw c.in_ok-first.ensures at c.read_once.ensures.says
