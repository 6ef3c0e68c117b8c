use Rattle.std.proofs.Common.{◌<◌, ◌∙◌, [], false, List, length, get_or, sym, ap, subst}
use Rattle.mk_path.specs.declared.path.Path.{Path}
use Rattle.mk_index.specs.Uses.{paths_of}
use Rattle.mk_jobs.specs.Jobs.{reads_of, writes_of}
use Rattle.mk_jobs.specs.Reaching.{uses_of}
use Rattle.mk_jobs.proofs.jobs.Jobs.path.Goals as goal

-- at a place of what is written
pub path_in-requires : goal.path_in-requires
unfolding writes_of
path_in-requires c =
    subst (λ (paths : List Path). c.args.place.place < length paths)
    (ap (paths_of (uses_of c.args.self.now) c.args.place.node) c.if-place.true ∙ sym c.writes.ensures.writes) c.requires.within

pub returns-then-place : goal.returns-then-place
unfolding writes_of
returns-then-place c =
    c.path_in.ensures
    ∙ ap (λ (paths : List Path). get_or paths c.args.place.place (record { name = []; tree = false }))
    (c.writes.ensures.writes ∙ sym (ap (paths_of (uses_of c.args.self.now) c.args.place.node) c.if-place.true))

-- and of what is read
pub path_in-requires-2 : goal.path_in-requires-2
unfolding reads_of
path_in-requires-2 c =
    subst (λ (paths : List Path). c.args.place.place < length paths)
    (ap (paths_of (uses_of c.args.self.now) c.args.place.node) c.if-place.false ∙ sym c.reads.ensures.reads) c.requires.within

pub returns : goal.returns
unfolding reads_of
returns c =
    c.path_in-2.ensures
    ∙ ap (λ (paths : List Path). get_or paths c.args.place.place (record { name = []; tree = false }))
    (c.reads.ensures.reads ∙ sym (ap (paths_of (uses_of c.args.self.now) c.args.place.node) c.if-place.false))
