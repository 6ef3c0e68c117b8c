use Rattle.std.proofs.Common.{Contains, subst, sym}
use Rattle.std.proofs.lemmas.Bool.{both_ways}
use Rattle.mk_missing.specs.declared.kind.Kind.{Kind}
use Rattle.mk_missing.specs.Kinds.{IsFine, IsWrong, nodes_of}
use Rattle.mk_missing.proofs.Using.{apart_if, together_if}
use Rattle.mk_missing.proofs.checker.Checker.is_fine.Goals as goal

pub returns-in-Unwatched-clause-wrong : goal.returns-in-Unwatched-clause-wrong
returns-in-Unwatched-clause-wrong c = λ nay.
    let users = c.args.users.now in
    let n = c.args.n in
    subst (λ (kind : Kind). IsWrong c.args.self.now kind n users.file) (sym c.in-Unwatched.is) (record {
      input = (c.requires.users.inputs n).0 (subst (λ (kind : Kind). Contains (nodes_of kind users) n) c.in-Unwatched.is c.requires.node);
      unwatched = λ at. both_ways c.is_watched.result nay (c.is_watched.ensures.1 at);
    })

pub returns-in-Late-clause-wrong : goal.returns-in-Late-clause-wrong
returns-in-Late-clause-wrong c = λ nay. subst (λ (kind : Kind). IsWrong c.args.self.now kind c.args.n c.args.users.now.file) (sym c.in-Late.is) (c.is_in_time.ensures.late nay)

pub returns-in-Shared-clause-fine : goal.returns-in-Shared-clause-fine
returns-in-Shared-clause-fine c = λ so.
    let users = c.args.users.now in
    subst (λ (kind : Kind). IsFine c.args.self.now kind c.args.n users.file) (sym c.in-Shared.is)
    (together_if c.args.self.now users.file users.last c.args.n c.requires.users.last (c.is_with_last.ensures.0 so))

pub returns-in-Shared-clause-wrong : goal.returns-in-Shared-clause-wrong
returns-in-Shared-clause-wrong c = λ nay.
    let users = c.args.users.now in
    let n = c.args.n in
    subst (λ (kind : Kind). IsWrong c.args.self.now kind n users.file) (sym c.in-Shared.is)
    (apart_if c.args.self.now users.file users.last n c.requires.users.last
    ((c.requires.users.writers n).0 (subst (λ (kind : Kind). Contains (nodes_of kind users) n) c.in-Shared.is c.requires.node))
    (λ at. both_ways c.is_with_last.result nay (c.is_with_last.ensures.1 at)))
