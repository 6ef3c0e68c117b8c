use Rattle.std.proofs.Common.{sym, ◌∙◌}
use Rattle.mk_sched.proofs.Storing.{found}
use Rattle.mk_sched.proofs.store.Store.file.Goals as goal

pub returns : goal.returns
returns c = rw (sym c.self.view_is) (c.get.ensures.value ∙ found c.self.inside.files.entries c.args.name.now)
