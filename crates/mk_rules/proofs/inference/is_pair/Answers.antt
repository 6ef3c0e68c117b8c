use Rattle.std.proofs.Common.{◌≡◌, Bool, sym, ◌∙◌, ap, subst, drop, position, IfOk}
use Rattle.mk_rules.proofs.Pairs.{is_period, pair_none, pair_some}
use Rattle.mk_rules.proofs.inference.is_pair.Goals as goal

pub returns-in-Some : goal.returns-in-Some
returns-in-Some c =
    let here = ap (λ n. position is_period (drop 1 n)) (sym c.as_bytes.ensures) ∙ sym c.next_period.ensures.place ∙ c.in-Some.is in
    let Answers : Bool → Type 0 = λ b. IfOk c.parts_differ.result (λ answer. answer ≡ b) in
    subst Answers (pair_some c.args.suffixes.now.keys c.args.name.now c.in-Some.place c.requires here) c.parts_differ.ensures

pub returns-in-None : goal.returns-in-None
returns-in-None c =
    pair_none c.args.suffixes.now.keys c.args.name.now c.requires
    (ap (λ n. position is_period (drop 1 n)) (sym c.as_bytes.ensures) ∙ sym c.next_period.ensures.place ∙ c.in-None.is)
