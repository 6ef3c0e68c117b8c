use Rattle.std.proofs.Common.{◌≡◌, ◌∙◌, ◌-◌, ℕ, Bool, false, ap, arith, get_or}
use Rattle.mk_due.specs.Awaited.{with_needs}
use Rattle.mk_due.specs.Items.{nodes_of}
use Rattle.mk_due.proofs.Awaiting.{down}
use Rattle.mk_due.proofs.early.mark_behind.Goals as goal

pub loop-n-preserved : goal.loop-n-preserved
loop-n-preserved c = λ k.
    let nodes = nodes_of c.args.items.now in
    let before = c.loop-n.n - 1 in
    let on : ℕ.suc before ≡ c.loop-n.n = omega (arith, c.loop-n-test.true) in
    down nodes before k (λ p. get_or c.loop-n.marks p false) (λ p. get_or c.mark_needs.new.marks p false) c.mark_needs.ensures
    ∙ ap (λ n. with_needs nodes n (λ p. get_or c.loop-n.marks p false) k) on ∙ c.loop-n.invariant k

pub returns : goal.returns
returns c = λ k.
    let nodes = nodes_of c.args.items.now in
    let none : ℕ.zero ≡ c.loop-n.n = omega (arith, c.loop-n-test.false) in
    ap (λ n. with_needs nodes n (λ p. get_or c.loop-n.marks p false) k) none ∙ c.loop-n.invariant k
