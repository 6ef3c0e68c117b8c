use Rattle.std.proofs.Common.{◌≡◌, arith, length}
use Rattle.std.proofs.lemmas.List.{length-map}
use Rattle.mk_missing.specs.declared.users.Users.{Users}
use Rattle.mk_missing.specs.Kinds.{IsFine, IsWrong}
use Rattle.mk_missing.specs.Users.{files_of}
use Rattle.mk_missing.proofs.Adding.{found_in_order}
use Rattle.mk_missing.proofs.wrong.wrong_pairs.Goals as goal

pub returns-clause-pairs : goal.returns-clause-pairs
returns-clause-pairs c =
    let jobs = c.args.checker.now in
    let users = c.args.users.now in
    let whole : c.loop-k.k ≡ length (files_of users) = omega (arith, c.loop-k-test.false, c.loop-k.auto.k-end, length-map users (λ (user : Users). user.file)) in
    found_in_order (files_of users) (IsWrong jobs c.args.kind) (IsFine jobs c.args.kind) c.loop-k.pairs.items c.in_order.new.pairs.items c.loop-k.k c.loop-k.invariant.found whole c.in_order.ensures.rise c.in_order.ensures.same
