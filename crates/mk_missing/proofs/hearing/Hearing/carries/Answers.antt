use Rattle.std.proofs.Common.{◌≡◌, ◌&&◌, subst}
use Rattle.mk_jobs.specs.Jobs.{Jobs, is_live}
use Rattle.mk_missing.specs.Watching.{makes_own}
use Rattle.mk_missing.proofs.Heard.{carries_else, carries_then}
use Rattle.mk_missing.proofs.hearing.Hearing.carries.Goals as goal

pub returns-then-may_carry : goal.returns-then-may_carry
returns-then-may_carry c =
    let m = c.args.m in
    let n = c.args.n in
    let is = subst (λ (jobs : Jobs). c.may_carry.result ≡ (is_live jobs n && makes_own jobs m)) c.self.view_is c.may_carry.ensures in
    carries_then c.args.self.now m n c.may_carry.result c.hears.result is c.if-may_carry.true c.hears.ensures

pub returns-else-may_carry : goal.returns-else-may_carry
returns-else-may_carry c =
    let m = c.args.m in
    let n = c.args.n in
    let is = subst (λ (jobs : Jobs). c.may_carry.result ≡ (is_live jobs n && makes_own jobs m)) c.self.view_is c.may_carry.ensures in
    carries_else c.args.self.now m n c.may_carry.result is c.if-may_carry.false
