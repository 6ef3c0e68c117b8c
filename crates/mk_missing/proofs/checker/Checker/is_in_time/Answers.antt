use Rattle.std.proofs.Common.{◌<◌, ◌∙◌, All, Contains, IfSome, List, ℕ, get_or, subst, sym}
use Rattle.std.proofs.lemmas.List.Elements.{Contains-get_or}
use Rattle.mk_jobs.specs.Jobs.{Before, Jobs, node_count}
use Rattle.mk_missing.specs.Users.{AreUsers}
use Rattle.mk_missing.proofs.Using.{input_inside, late_if, writer_inside}
use Rattle.mk_missing.proofs.checker.Checker.is_in_time.Goals as goal

pub late_writer-requires-clause-nodes : goal.late_writer-requires-clause-nodes
late_writer-requires-clause-nodes c =
    let users = c.args.users.now in
    let writers = users.writers.items in
    let jobs = c.self.inside.jobs.now in
    let are = subst (λ (jobs : Jobs). AreUsers jobs users) (sym c.self.view_is) c.requires.users in
    let all : All (λ m. m < node_count jobs) writers = λ k d at. writer_inside jobs users are (get_or writers k d) c.self.invariant.shape (Contains-get_or writers k d at) in
    subst (λ (ns : List ℕ). All (λ m. m < node_count c.self.inside.before) ns) (sym c.deref.ensures.value) (subst (λ (j : Jobs). All (λ m. m < node_count j) writers) (sym c.self.invariant.before) all)

pub late_writer-requires-clause-node : goal.late_writer-requires-clause-node
late_writer-requires-clause-node c =
    let jobs = c.self.inside.jobs.now in
    subst (λ (j : Jobs). c.args.n < node_count j) (sym c.self.invariant.before)
    (input_inside jobs c.args.users.now (subst (λ (j : Jobs). AreUsers j c.args.users.now) (sym c.self.view_is) c.requires.users) c.args.n c.self.invariant.shape c.requires.node)

pub returns-clause-late : goal.returns-clause-late
returns-clause-late c = λ nay.
    let users = c.args.users.now in
    let n = c.args.n in
    let late = subst (λ (j : Jobs). IfSome c.late_writer.result (λ m. Contains users.writers.items m × (Before j m n → ⊥))) (c.self.invariant.before ∙ c.self.view_is)
    (subst (λ (ns : List ℕ). IfSome c.late_writer.result (λ m. Contains ns m × (Before c.self.inside.before m n → ⊥))) c.deref.ensures.value c.late_writer.ensures.late) in
    late_if c.args.self.now users c.requires.users n c.late_writer.result c.is_none.result c.is_none.ensures late c.requires.node nay
