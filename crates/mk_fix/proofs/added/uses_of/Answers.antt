use Rattle.std.proofs.Common.{[], ◌<◌, ◌∙◌, arith, length}
use Rattle.std.proofs.lemmas.Option.{unwrap_or-slice_get}
use Rattle.mk_jobs.specs.Jobs.{reads_of, writes_of}
use Rattle.mk_fix.proofs.Made.{copy_more}
use Rattle.mk_fix.proofs.added.uses_of.Goals as goal

pub loop-n-preserved : goal.loop-n-preserved
unfolding reads_of writes_of
loop-n-preserved c =
    let jobs = c.args.jobs.now in
    let n = c.loop-n.n in
    let shape = c.count-n-end.ensures.shape in
    let count = c.count-n-end.ensures.count in
    let below = c.loop-n-test.true in
    let reads_below : n < length jobs.reads = omega (arith, shape.all_reads, count, below) in
    let writes_below : n < length jobs.writes = omega (arith, shape.all_writes, count, below) in
    record {
      reads = copy_more c.loop-n.reads.items c.push.new.self.items jobs.reads n c.in_ok-copies.field-0 reads_below c.loop-n.invariant.reads
          (c.in_ok-copies.ensures ∙ c.reads.ensures.reads ∙ unwrap_or-slice_get jobs.reads n []) c.in_ok-push.ensures.items;
      writes = copy_more c.loop-n.writes.items c.push-in-loop-n.new.self.items jobs.writes n c.in_ok-copies-2.field-0 writes_below c.loop-n.invariant.writes
          (c.in_ok-copies-2.ensures ∙ c.writes.ensures.writes ∙ unwrap_or-slice_get jobs.writes n []) c.in_ok-push-2.ensures.items;
    }
