use Rattle.std.proofs.Common.{sym, subst₂, List, Vec}
use Rattle.std.specs.Global.{Global}
use Rattle.mk_path.specs.declared.path.Path.{Path}
use Rattle.mk_index.specs.Uses.{AreRising, uses_of}
use Rattle.mk_jobs.specs.Jobs.{reads_of, writes_of}
use Rattle.mk_jobs.proofs.jobs.Jobs.new.Goals as goal

pub new-requires-clause-rise : goal.new-requires-clause-rise
unfolding reads_of writes_of
new-requires-clause-rise c =
    subst₂ (λ (reads writes : List (Vec Path Global)). AreRising (uses_of c.args.root reads writes)) (sym c.as_slice.ensures.value) (sym c.as_slice-2.ensures.value)
    (record { reads = c.requires.reads_rise; writes = c.requires.writes_rise })
