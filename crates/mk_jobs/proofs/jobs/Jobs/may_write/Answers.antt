use Rattle.std.proofs.Common.{◌∙◌, ◌&&◌, List, ap, sym}
use Rattle.mk_path.specs.declared.path.Path.{Path}
use Rattle.mk_path.specs.Paths.{covered}
use Rattle.mk_jobs.specs.Jobs.{may_write, writes_of}
use Rattle.mk_jobs.proofs.jobs.Jobs.may_write.Goals as goal

pub returns-then-is_live : goal.returns-then-is_live
unfolding may_write
returns-then-is_live c =
    c.is_covered.ensures ∙ ap (λ root. covered root c.writes.result.now c.args.name.now) c.root.ensures
    ∙ ap (λ (paths : List Path). covered c.args.self.now.root paths c.args.name.now) c.writes.ensures.writes
    ∙ ap (λ b. b && covered c.args.self.now.root (writes_of c.args.self.now c.args.n) c.args.name.now) (sym c.if-is_live.true ∙ c.is_live.ensures)

pub returns-else-is_live : goal.returns-else-is_live
unfolding may_write
returns-else-is_live c =
    c.if-is_live.false ∙ ap (λ b. b && covered c.args.self.now.root (writes_of c.args.self.now c.args.n) c.args.name.now) (sym c.if-is_live.false ∙ c.is_live.ensures)
