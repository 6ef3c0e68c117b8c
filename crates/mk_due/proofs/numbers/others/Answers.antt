use Rattle.std.proofs.Common.{◌≡◌, ℕ, ◌+◌, false, true, ◌++◌, ◌∷◌, [], ◌∙◌, Vec, append_assoc, drop, get_or, ap, sym}
use Rattle.std.specs.Prelude.{nat_eq}
use Rattle.std.specs.Global.{Global}
use Rattle.std.proofs.lemmas.List.{drop_more}
use Rattle.mk_name.specs.Names.{has}
use Rattle.mk_due.specs.Items.{others}
use Rattle.mk_due.proofs.Numbering.{others_skip, others_take}
use Rattle.mk_due.proofs.numbers.others.Goals as goal
use Rattle.mk_due.proofs.numbers.others.Goals.{then-not-is_among+in_ok-push, else-not-is_among}

pub loop-number-preserved : goal.loop-number-preserved
loop-number-preserved c =
    let waits = c.args.waits.now in
    let needs = c.args.needs.now.keys in
    let i = c.loop-number.number-index in
    let list = c.loop-number.list.items in
    let x = get_or waits i 0 in
    let rest = drop (i + 1) waits in
    let here : drop i waits ≡ x ∷ rest = drop_more waits i 0 c.loop-number-test.true in
    elim c.if-not-is_among.branch [
      | then-not-is_among+in_ok-push w ↦
          let other : has nat_eq needs x ≡ false = cc in
          ap (λ l. l ++ others needs rest) (ap (λ (v : Vec ℕ Global). v.items) w.list-is ∙ w.in_ok-push.ensures.items)
          ∙ append_assoc list (x ∷ []) (others needs rest)
          ∙ ap (λ o. list ++ o) (sym (ap (others needs) here ∙ others_take needs rest x other)) ∙ c.loop-number.invariant
      | else-not-is_among w ↦
          let needed : has nat_eq needs x ≡ true = cc in
          ap (λ l. l ++ others needs rest) (ap (λ (v : Vec ℕ Global). v.items) w.list-is)
          ∙ ap (λ o. list ++ o) (sym (ap (others needs) here ∙ others_skip needs rest x needed)) ∙ c.loop-number.invariant
    ]
