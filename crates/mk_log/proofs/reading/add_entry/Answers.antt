use Rattle.std.proofs.Common.{◌≡◌, true, [], ◌∷◌, ◌++◌, ap, sym, subst, ◌∙◌, refl}
use Rattle.mk_log.specs.Logs.{Log}
use Rattle.mk_log.specs.Reading.{IsLogOf, may_follow}
use Rattle.mk_log.specs.declared.entry.Entry.{Entry}
use Rattle.mk_log.specs.declared.entry.Entry.TheVariants.{Holds}
use Rattle.mk_log.proofs.Entering.{holds_more}
use Rattle.mk_log.proofs.reading.add_entry.Goals as goal

pub returns-then-not-may_hold : goal.returns-then-not-may_hold
returns-then-not-may_hold c before known = (
  sym c.if-not-may_hold.true ∙ c.may_hold.ensures before c.in-Holds.contents c.in-Holds.time known ∙ ap (may_follow before) (sym c.in-Holds.is),
  λ follows. absurd (cc follows),
)

pub returns-in_ok-put-in-Holds : goal.returns-in_ok-put-in-Holds
returns-in_ok-put-in-Holds c before known =
    let events = c.log.inside.events.items in
    let old : Log = record { store = c.log.inside.store; events = events } in
    let new : Log = record { store = c.put.new.self; events = events } in
    let is : IsLogOf before old = subst (λ (l : Log). IsLogOf before l) (sym c.log.view_is) known in
    let follows : true ≡ may_follow before (Holds c.in-Holds.path c.in-Holds.contents c.in-Holds.time) =
    sym c.if-not-may_hold.false ∙ c.may_hold.ensures before c.in-Holds.contents c.in-Holds.time known in (
      follows ∙ ap (may_follow before) (sym c.in-Holds.is),
      λ _. subst (λ (e : Entry). IsLogOf (before ++ e ∷ []) new) (sym c.in-Holds.is)
          (holds_more before old new c.in-Holds.path c.in-Holds.contents c.in-Holds.time is (sym follows)
          c.in_ok-put-in-Holds.ensures.ok c.in_ok-put-in-Holds.ensures.files refl),
    )
