use Rattle.std.proofs.Common.{◌≡◌, ◌++◌, map}
use Rattle.mk_jobs.specs.Jobs.{Jobs}
use Rattle.mk_sched.specs.Stored.{StoredFiles}
use Rattle.mk_log.specs.Spelled.{Adds, file_entry}
use Rattle.mk_log.proofs.writing.add_files.Given as goal

-- the files so far have their lines
abbrev pub invariant-loop-path : goal.invariant-loop-path
invariant-loop-path l = (done : StoredFiles) × (done ++ l.path-iterator ≡ l.store)
    × ((jobs : Jobs) → Adds jobs (map file_entry done) l.initial.text.items l.text.items)
