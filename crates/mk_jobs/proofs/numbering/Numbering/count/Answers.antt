use Rattle.std.proofs.Common.{subst, List}
use Rattle.mk_name.specs.Names.{IsDistinct, Name, same_name}
use Rattle.mk_jobs.proofs.Numberings.{set_distinct}
use Rattle.mk_jobs.proofs.numbering.Numbering.count.Goals as goal

pub returns-clause-distinct : goal.returns-clause-distinct
returns-clause-distinct c =
    subst (λ (ns : List Name). IsDistinct same_name ns) c.self.view_is (set_distinct c.self.inside.names.keys c.len.ensures.unique)
