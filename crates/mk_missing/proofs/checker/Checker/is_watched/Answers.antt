use Rattle.std.proofs.Common.{◌≡◌, ◌↔◌, true, subst, sym}
use Rattle.mk_jobs.specs.Jobs.{Jobs}
use Rattle.mk_missing.specs.Files.{WatchesFile}
use Rattle.mk_missing.specs.Users.{AreUsers}
use Rattle.mk_missing.proofs.Using.{input_inside}
use Rattle.mk_missing.proofs.checker.Checker.is_watched.Goals as goal

pub watches-requires-clause-node : goal.watches-requires-clause-node
watches-requires-clause-node c =
    let are = subst (λ (jobs : Jobs). AreUsers jobs c.args.users.now) (sym c.self.view_is) c.requires.users in
    input_inside c.self.inside.jobs.now c.args.users.now are c.args.n c.self.invariant.shape c.requires.node

pub returns : goal.returns
returns c = subst (λ (jobs : Jobs). (c.watches.result ≡ true) ↔ WatchesFile jobs c.args.n c.args.users.now.file) c.self.view_is c.watches.ensures
