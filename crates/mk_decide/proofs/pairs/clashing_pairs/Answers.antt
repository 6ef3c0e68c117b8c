use Rattle.std.proofs.Common.{ℕ, ◌≡◌, ◌+◌, List, ap, sym, subst, arith}
use Rattle.mk_decide.specs.Pairs.{OnlyClashing}
use Rattle.std.proofs.lemmas.Result.{err_from_is_err_and}
use Rattle.mk_decide.proofs.Paired.{AllHeld, halts_more, held_more, many_are, pairs_are, same_clash, same_held}
use Rattle.mk_decide.proofs.pairs.clashing_pairs.Goals as goal
use Rattle.mk_decide.proofs.pairs.clashing_pairs.Goals.{then-len-gt-ROOM+in_ok-thin, else-len-gt-ROOM}

pub loop-b-preserved : goal.loop-b-preserved
loop-b-preserved c =
    let jobs = c.args.jobs.now in
    let added = c.add_pairs.new.pairs.items in
    let all : AllHeld jobs added (c.loop-b.b + 1) = held_more jobs c.loop-b.pairs.items added c.loop-b.b c.loop-b.invariant.held c.in_ok-add_pairs.ensures.kept c.in_ok-add_pairs.ensures.added in
    let result : (new : List (ℕ × ℕ)) → c.if-len-gt-ROOM.pairs.items ≡ new → OnlyClashing jobs new → AllHeld jobs new (c.loop-b.b + 1)
    → OnlyClashing jobs c.if-len-gt-ROOM.pairs.items × AllHeld jobs c.if-len-gt-ROOM.pairs.items (c.loop-b.b + 1) =
    λ new is only held. (subst (OnlyClashing jobs) (sym is) only, subst (λ (ps : List (ℕ × ℕ)). AllHeld jobs ps (c.loop-b.b + 1)) (sym is) held) in
    elim c.if-len-gt-ROOM.branch [
      | then-len-gt-ROOM+in_ok-thin w ↦
          let new = w.thin.new.pairs.items in
          let r = result new (ap (λ v. v.items) w.pairs-is) (same_clash added new w.in_ok-thin.ensures.same c.in_ok-add_pairs.ensures.clash)
          (λ a b below other reaches. same_held added new a b w.in_ok-thin.ensures.same (all a b below other reaches)) in
          record { clash = r.0; held = r.1 }
      | else-len-gt-ROOM w ↦
          let r = result added (ap (λ v. v.items) w.pairs-is) c.in_ok-add_pairs.ensures.clash all in
          record { clash = r.0; held = r.1 }
    ]

pub returns-in_err-thin-clause-many : goal.returns-in_err-thin-clause-many
returns-in_err-thin-clause-many c =
    let p = err_from_is_err_and c.from_residual-in_err-thin.result c.from_residual-in_err-thin.ensures.1 in
    let thinned = c.in_err-thin.ensures in
    rw (p.1, p.2) (halts_more _ _ _ c.in_err-thin.field-0.0
    (many_are c.add_pairs.new.pairs.items c.thin.new.pairs.items c.in_ok-add_pairs.ensures.clash thinned.rising thinned.same) thinned.many)

pub returns-in_err-thin-2-clause-many : goal.returns-in_err-thin-2-clause-many
returns-in_err-thin-2-clause-many c =
    let p = err_from_is_err_and c.from_residual-in_err-thin-2.result c.from_residual-in_err-thin-2.ensures.1 in
    let thinned = c.in_err-thin-2.ensures in
    rw (p.1, p.2) (halts_more _ _ _ c.in_err-thin-2.field-0.0
    (many_are c.loop-b.pairs.items c.thin-2.new.pairs.items c.loop-b.invariant.clash thinned.rising thinned.same) thinned.many)

pub returns-clause-pairs : goal.returns-clause-pairs
returns-clause-pairs c =
    pairs_are c.args.jobs.now c.loop-b.pairs.items _ c.count-count.ensures.shape c.loop-b.invariant.clash
    (λ a b below other reaches. c.loop-b.invariant.held a b (omega (arith, below, c.loop-b-test.false, c.count-count.ensures.count)) other reaches)
    c.in_ok-thin-2.ensures.rising c.in_ok-thin-2.ensures.same
