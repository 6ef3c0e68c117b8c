use Rattle.std.proofs.Common.{◌<◌, All, List, ℕ, get_or, subst, sym}
use Rattle.std.proofs.lemmas.List.Elements.{Contains-get_or}
use Rattle.mk_jobs.specs.Jobs.{Jobs, node_count}
use Rattle.mk_missing.specs.Users.{AreUsers}
use Rattle.mk_missing.specs.Violations.{IsLate}
use Rattle.mk_missing.proofs.Gathering.{reader_node}
use Rattle.mk_missing.proofs.Using.{writer_inside}
use Rattle.mk_missing.proofs.checker.Checker.late_by.Goals as goal

pub late_writer-requires-clause-nodes : goal.late_writer-requires-clause-nodes
late_writer-requires-clause-nodes c =
    let users = c.args.users.now in
    let writers = users.writers.items in
    let jobs = c.self.inside.jobs.now in
    let are = subst (λ (jobs : Jobs). AreUsers jobs users) (sym c.self.view_is) c.requires.users in
    let all : All (λ m. m < node_count jobs) writers = λ k d at. writer_inside jobs users are (get_or writers k d) c.self.invariant.shape (Contains-get_or writers k d at) in
    subst (λ (ns : List ℕ). All (λ m. m < node_count c.self.inside.before) ns) (sym c.deref.ensures.value) (subst (λ (j : Jobs). All (λ m. m < node_count j) writers) (sym c.self.invariant.before) all)

pub late_writer-requires-clause-node : goal.late_writer-requires-clause-node
late_writer-requires-clause-node c =
    let jobs = c.self.inside.jobs.now in
    subst (λ (j : Jobs). c.args.n < node_count j) (sym c.self.invariant.before)
    (reader_node jobs c.args.n c.args.users.now.file c.self.invariant.shape (subst (λ (j : Jobs). IsLate j c.args.n c.args.users.now.file) (sym c.self.view_is) c.requires.late).input.reads)
