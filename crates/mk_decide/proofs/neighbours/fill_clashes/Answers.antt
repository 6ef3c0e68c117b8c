use Rattle.std.proofs.Common.{rules, ℕ, ◌≡◌, All, length, replicate, refl, sym, subst, inl, inr, arith}
use Rattle.std.proofs.lemmas.Bool.{cases_lt}
use Rattle.std.proofs.lemmas.List.Elements.{All-replicate}
use Rattle.mk_decide.specs.Swept.{HoldsPair}
use Rattle.mk_decide.proofs.Sweeping.{clashes_are, no_pairs}
use Rattle.mk_decide.proofs.neighbours.fill_clashes.Goals as goal

pub loop-b-init : goal.loop-b-init
loop-b-init c =
    let clear : c.fill.new.self ≡ replicate (length c.args.table.now) 0 = c.fill.ensures.after (λ y same. search rules) in
    record {
      clash = no_pairs c.args.jobs.now c.fill.new.self (subst (All (λ word. word ≡ 0)) (sym clear) (All-replicate (λ (word : ℕ). word ≡ 0) (length c.args.table.now) 0 refl));
      held = λ a b none. absurd (omega (arith, none));
      long = omega (arith, c.fill.auto.self, c.requires);
    }

pub loop-b-preserved : goal.loop-b-preserved
loop-b-preserved c =
    let before = c.loop-b.invariant in
    record {
      clash = c.add_clashes.ensures.clash;
      held = λ a b below other reaches. elim (cases_lt b c.loop-b.b) [
        | inl past ↦
            let held = before.held a b past other reaches in
            record { rising = λ less. c.add_clashes.ensures.kept a b (held.rising less); falling = λ more. c.add_clashes.ensures.kept b a (held.falling more) }
        | inr least ↦
            let same : c.loop-b.b ≡ b = omega (arith, below, least) in
            subst (HoldsPair c.add_clashes.new.table a) same (c.add_clashes.ensures.added a (λ e. other (omega (arith, e, same))) (rw same reaches))
      ];
      long = omega (arith, c.add_clashes.auto.table, before.long);
    }

pub returns : goal.returns
returns c =
    clashes_are c.args.jobs.now c.loop-b.table c.count-b-end.ensures.shape c.loop-b.invariant.clash
    (λ a b below other reaches. c.loop-b.invariant.held a b (omega (arith, below, c.loop-b-test.false, c.count-b-end.ensures.count)) other reaches)
