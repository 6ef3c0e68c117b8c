use Rattle.std.proofs.Common.{◌∙◌, ◌&&◌, List, ap, sym}
use Rattle.mk_path.specs.declared.path.Path.{Path}
use Rattle.mk_path.specs.Paths.{covered}
use Rattle.mk_jobs.specs.Jobs.{may_read, reads_of}
use Rattle.mk_jobs.proofs.jobs.Jobs.may_read.Goals as goal

pub returns-then-is_live : goal.returns-then-is_live
unfolding may_read
returns-then-is_live c =
    c.is_covered.ensures ∙ ap (λ root. covered root c.reads.result.now c.args.name.now) c.root.ensures
    ∙ ap (λ (paths : List Path). covered c.args.self.now.root paths c.args.name.now) c.reads.ensures.reads
    ∙ ap (λ b. b && covered c.args.self.now.root (reads_of c.args.self.now c.args.n) c.args.name.now) (sym c.if-is_live.true ∙ c.is_live.ensures)

pub returns-else-is_live : goal.returns-else-is_live
unfolding may_read
returns-else-is_live c =
    c.if-is_live.false ∙ ap (λ b. b && covered c.args.self.now.root (reads_of c.args.self.now c.args.n) c.args.name.now) (sym c.if-is_live.false ∙ c.is_live.ensures)
