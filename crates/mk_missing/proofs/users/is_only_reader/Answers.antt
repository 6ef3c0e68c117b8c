use Rattle.std.proofs.Common.{◌∙◌, List, ap, sym}
use Rattle.mk_name.specs.Names.{has}
use Rattle.mk_path.specs.declared.path.Path.{Path}
use Rattle.mk_path.specs.Paths.{same_path}
use Rattle.mk_missing.proofs.Keeping.{only_apart, only_named}
use Rattle.mk_missing.proofs.users.is_only_reader.Goals as goal

pub returns-then-is_empty : goal.returns-then-is_empty
returns-then-is_empty c =
    only_named c.args.jobs.now c.args.writers.now c.args.file.now c.args.n c.names.result (sym c.is_empty.ensures ∙ c.if-is_empty.true)
    (c.names.ensures ∙ ap (λ (paths : List Path). has same_path paths c.args.file.now) c.reads.ensures.reads)

pub returns : goal.returns
returns c =
    only_apart c.args.jobs.now c.args.writers.now c.args.file.now c.args.n c.is_among.result (sym c.is_empty.ensures ∙ c.if-is_empty.false) c.is_among.ensures
