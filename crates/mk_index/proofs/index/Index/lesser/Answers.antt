use Rattle.std.proofs.Common.{ℕ, ◌≡◌, ◌∷◌, List, Some, get_or, refl, sym, ap, subst}
use Rattle.mk_index.specs.declared.index.Found.{Found}
use Rattle.mk_index.specs.Index.{Index}
use Rattle.mk_index.specs.Meets.{IsMet, IsLeastMet}
use Rattle.mk_index.specs.Ups.{Ups}
use Rattle.mk_index.proofs.Overlaps.{least_found, least_kept}
use Rattle.mk_index.proofs.index.Index.lesser.Goals as goal

pub returns-in-Some-clause-least : goal.returns-in-Some-clause-least
returns-in-Some-clause-least c =
    let ups = c.args.self.now.ups in
    let theirs = c.args.theirs.now in
    let front = c.before-mine.result.now in
    let place = c.in-Some.place in
    let same : c.self.inside.ups ≡ ups = ap (λ (index : Index). index.ups) c.self.view_is in
    let found : Found = record { number = get_or front place 0; place = record { node = c.args.node; written = c.args.written; place = place } } in
    λ pairs least. subst (λ (numbers : List ℕ). IsLeastMet ups (record { mine = numbers; theirs = theirs } ∷ pairs) (Some found)) c.numbers.ensures.numbers
    (least_found ups c.numbers.result.now theirs front c.numbers.ensures.row.rise c.args.best pairs found place c.before-mine.ensures c.in-Some.ensures.within refl
    (subst (λ (u : Ups). IsMet u theirs (get_or front place 0)) same c.in-Some.ensures.met)
    (λ k less met. c.in-Some.ensures.first k less (subst (λ (u : Ups). IsMet u theirs (get_or front k 0)) (sym same) met)) least)

pub returns-in-None-clause-least : goal.returns-in-None-clause-least
returns-in-None-clause-least c =
    let ups = c.args.self.now.ups in
    let theirs = c.args.theirs.now in
    let front = c.before-mine.result.now in
    let same : c.self.inside.ups ≡ ups = ap (λ (index : Index). index.ups) c.self.view_is in
    λ pairs least. subst (λ (numbers : List ℕ). IsLeastMet ups (record { mine = numbers; theirs = theirs } ∷ pairs) c.args.best) c.numbers.ensures.numbers
    (least_kept ups c.numbers.result.now theirs front c.numbers.ensures.row.rise c.args.best pairs c.before-mine.ensures
    (λ k below met. c.in-None.ensures.none k below (subst (λ (u : Ups). IsMet u theirs (get_or front k 0)) (sym same) met)) least)
