use Rattle.std.proofs.Common.{◌∙◌, sym, ap, subst, ◌<◌, length, arith, get_or, List, ℕ, Bool, ◌++◌, ◌∷◌, []}
use Rattle.std.specs.Prelude.{Vec}
use Rattle.std.specs.Global.{Global}
use Rattle.mk_graph.specs.Seen.{IsSeen}
use Rattle.mk_graph.proofs.Rowing.{in_at, seen_push, kept_seen, kept_fresh}
use Rattle.mk_graph.proofs.rows.add_new.Goals as goal
use Rattle.mk_graph.proofs.rows.add_new.Goals.{then-not-seen-number+in_ok-push, else-not-seen-number}

pub bounds-seen-number : goal.bounds-seen-number
bounds-seen-number c = let w = c.requires.within _ (in_at c.args.numbers.now c.loop-number.number-index c.loop-number-test.true) in omega (arith, w, c.loop-number.auto.seen)

pub bounds-seen-number-then-not-seen-number : goal.bounds-seen-number-then-not-seen-number
bounds-seen-number-then-not-seen-number c = let w = c.requires.within _ (in_at c.args.numbers.now c.loop-number.number-index c.loop-number-test.true) in omega (arith, w, c.loop-number.auto.seen)

pub loop-number-preserved : goal.loop-number-preserved
loop-number-preserved c =
    let n = get_or c.args.numbers.now c.loop-number.number-index 0 in
    let w = c.requires.within n (in_at c.args.numbers.now c.loop-number.number-index c.loop-number-test.true) in
    let inside : n < length c.loop-number.seen = omega (arith, w, c.loop-number.auto.seen) in
    let mark = c.loop-number.invariant.marked n inside in
    elim c.if-not-seen-number.branch [
      | then-not-seen-number+in_ok-push b ↦
          (let items = ap (λ (v : Vec ℕ Global). v.items) b.row-is ∙ b.in_ok-push.ensures.items in
          let t = b.if-not-seen-number.true in
          record {
            row = items ∙ kept_fresh c.args.row.now.items c.args.numbers.now c.loop-number.row.items c.loop-number.number-index c.loop-number-test.true c.loop-number.invariant.row (sym mark ∙ t);
            marked = subst (λ (xs : List ℕ). IsSeen c.if-not-seen-number.seen xs) (sym items) (subst (λ (ms : List Bool). IsSeen ms (c.loop-number.row.items ++ n ∷ [])) (sym b.seen-is) (seen_push c.loop-number.seen c.loop-number.row.items n inside c.loop-number.invariant.marked));
          })
      | else-not-seen-number b ↦
          (let items = ap (λ (v : Vec ℕ Global). v.items) b.row-is in
          let f = b.if-not-seen-number.false in
          record {
            row = items ∙ kept_seen c.args.row.now.items c.args.numbers.now c.loop-number.row.items c.loop-number.number-index c.loop-number-test.true c.loop-number.invariant.row (sym mark ∙ f);
            marked = subst (λ (xs : List ℕ). IsSeen c.if-not-seen-number.seen xs) (sym items) (subst (λ (ms : List Bool). IsSeen ms c.loop-number.row.items) (sym b.seen-is) c.loop-number.invariant.marked);
          })
    ]
