use Rattle.std.proofs.Common.{ℕ, ◌<◌, IfSome, Option, subst, sym}
use Rattle.mk_jobs.specs.Jobs.{Jobs, node_count}
use Rattle.mk_missing.specs.Users.{AreUsers}
use Rattle.mk_missing.proofs.Using.{last_inside, writer_inside}
use Rattle.mk_missing.proofs.checker.Checker.is_with_last.Goals as goal

pub runs_with-requires-clause-first : goal.runs_with-requires-clause-first
runs_with-requires-clause-first c =
    let are = subst (λ (jobs : Jobs). AreUsers jobs c.args.users.now) (sym c.self.view_is) c.requires.users in
    subst (λ (j : Jobs). c.args.n < node_count j) (sym c.self.invariant.hearing) (writer_inside c.self.inside.jobs.now c.args.users.now are c.args.n c.self.invariant.shape c.requires.node)

pub runs_with-requires-clause-second : goal.runs_with-requires-clause-second
runs_with-requires-clause-second c =
    let users = c.args.users.now in
    let jobs = c.self.inside.jobs.now in
    let are = subst (λ (j : Jobs). AreUsers j users) (sym c.self.view_is) c.requires.users in
    subst (λ (j : Jobs). c.in-Some.w < node_count j) (sym c.self.invariant.hearing)
    (subst (λ (o : Option ℕ). IfSome o (λ w. w < node_count jobs)) c.in-Some.is (last_inside jobs users.file users.last c.self.invariant.shape are.last))
