use Rattle.std.proofs.Common.{◌≡◌, ◌<◌, ℕ, arith, length, subst, sym, ◌∙◌, ◌+◌, Option, Some, None}
use Rattle.mk_graph.specs.Least.{IsLeastPassing}
use Rattle.mk_jobs.specs.Numbered.{name_at}
use Rattle.mk_graph.specs.Looked.{looked_of}
use Rattle.mk_graph.specs.Makers.{is_unmade, maker_of}
use Rattle.mk_graph.proofs.Collecting.{looked_at, looked_count}
use Rattle.mk_graph.proofs.Leasts.{pass_skip, pass_first, pass_keep, pass_take}
use Rattle.mk_graph.proofs.faults.least_unmade.Goals as goal
use Rattle.mk_graph.proofs.faults.least_unmade.Goals.{then-is_unmade+in-Some, then-is_unmade+in_default-2, then-is_unmade+in_default, else-is_unmade}

pub loop-number-preserved : goal.loop-number-preserved
loop-number-preserved c =
    let test = is_unmade c.args.book.now c.args.listing.now in
    let names = c.args.names.now in
    let i = c.loop-number.number in
    let below : i < length names = omega (arith, c.count-number-end.ensures.count) in
    let is = c.is_unmade.ensures c.args.book.now c.args.listing.now (name_at names i)
    (c.index-looked-number.is ∙ looked_at (looked_of c.args.book.now c.args.listing.now) names c.args.looked.now i _ c.requires.looked below)
    (looked_at (maker_of c.args.book.now c.args.listing.now) names c.args.makers.now i _ c.requires.makers below) in
    let p = c.loop-number.invariant in
    elim c.if-is_unmade.branch [
      | then-is_unmade+in-Some w ↦ subst (λ (o : Option ℕ). IsLeastPassing test names (i + 1) o) (sym w.least-is)
          (pass_keep test names i w.in-Some.best (sym w.is_upto.ensures ∙ w.if-is_upto.true) (subst (λ (o : Option ℕ). IsLeastPassing test names i o) w.in-Some.is p))
      | then-is_unmade+in_default-2 w ↦ subst (λ (o : Option ℕ). IsLeastPassing test names (i + 1) o) (sym w.least-is)
          (pass_take test names i w.in-Some.best (sym w.is_upto.ensures ∙ w.if-is_upto.false) (sym is ∙ w.if-is_unmade.true) (subst (λ (o : Option ℕ). IsLeastPassing test names i o) w.in-Some.is p))
      | then-is_unmade+in_default w ↦ subst (λ (o : Option ℕ). IsLeastPassing test names (i + 1) o) (sym w.least-is)
          (pass_first test names i c.loop-number.least (λ b q. let e : c.loop-number.least ≡ None = w.in_default.is in let z : Some b ≡ None = sym q ∙ e in cc) (sym is ∙ w.if-is_unmade.true) p)
      | else-is_unmade w ↦ subst (λ (o : Option ℕ). IsLeastPassing test names (i + 1) o) (sym w.least-is)
          (pass_skip test names i c.loop-number.least (sym is ∙ w.if-is_unmade.false) p)
    ]

pub bounds-looked-number : goal.bounds-looked-number
bounds-looked-number c = let e = looked_count (looked_of c.args.book.now c.args.listing.now) c.args.names.now c.args.looked.now c.requires.looked in omega (arith, e, c.count-number-end.ensures.count)
