use Rattle.std.proofs.Common.{ℕ, ◌≡◌, ◌<◌, ◌+◌, ◌-◌, ◌∙◌, List, Option, None, Some, Ok, Err, IfNone, IfSome, drop, get_or, length, take, ap, sym, subst, arith}
use Rattle.std.proofs.lemmas.List.{get_or-drop, get_or_default, length-drop, take_rest}
use Rattle.std.proofs.lemmas.List.Elements.{Contains-get_or}
use Rattle.std.proofs.lemmas.List.Sorted.{searched}
use Rattle.mk_jobs.specs.Jobs.{Before, Jobs, node_count}
use Rattle.mk_jobs.proofs.Needed.{same_members}
use Rattle.mk_decide.specs.Chosen.{IsFirstFrom, IsLeastFrom, NoneFrom}
use Rattle.mk_decide.proofs.Choosing.{least_behind, least_itself, none_behind}
use Rattle.mk_decide.proofs.chains.least_from.Goals as goal

some_of : (o : Option ℕ) (P Q : ℕ → Type 0) → IfSome o P → ((p : ℕ) → P p → Q p) → IfSome o Q
some_of None P Q found on = tt
some_of (Some p) P Q found on = on p found

none_of : (o : Option ℕ) (A B : Type 0) → IfNone o A → (A → B) → IfNone o B
none_of None A B found on = on found
none_of (Some p) A B found on = tt

pub first_from-requires-clause-all : goal.first_from-requires-clause-all
first_from-requires-clause-all g c = λ k d at.
    let needs = c.needs-needs.result.now in
    let place = c.in-Err.place in
    let rest : take (length needs - place) (drop place needs) ≡ drop place needs = take_rest needs place in
    let short : k < length (drop place needs) = subst (λ (nodes : List ℕ). k < length nodes) rest at in
    let here : get_or (take (length needs - place) (drop place needs)) k d ≡ get_or needs (place + k) d = ap (λ (nodes : List ℕ). get_or nodes k d) rest ∙ get_or-drop place needs k d in
    let inside : place + k < length needs = omega (arith, short, length-drop place needs) in
    let small = c.requires.valid.smaller c.args.x (get_or needs (place + k) d) ((same_members _ _ c.needs-needs.ensures.all (get_or needs (place + k) d)).0 (Contains-get_or needs (place + k) d inside)) in
    subst (λ (jobs : Jobs). get_or (take (length needs - place) (drop place needs)) k d < node_count jobs) (sym c.requires.same) (omega (arith, here, small, c.requires.last))

pub returns-in-Ok-clause-some : goal.returns-in-Ok-clause-some
returns-in-Ok-clause-some g c =
    let needs = c.needs-needs.result.now in
    let place = c.in-Ok.field-0 in
    let at = searched needs c.args.a (Ok place) c.in-Ok.ensures.position (λ i j le inside. c.needs-needs.ensures.rising i j 0 le inside) in
    least_itself c.args.jobs.now c.args.a c.args.x c.requires.valid ((same_members _ _ c.needs-needs.ensures.all c.args.a).0 (place, at.0, get_or_default needs place c.args.a 0 at.0 ∙ at.1))

pub returns-in-Err-clause-some : goal.returns-in-Err-clause-some
returns-in-Err-clause-some g c =
    let jobs = c.args.jobs.now in
    let needs = c.needs-needs.result.now in
    let place = c.in-Err.place in
    let rest = take (length needs - place) (drop place needs) in
    let at = searched needs c.args.a (Err place) c.in-Err.ensures.position (λ i j le inside. c.needs-needs.ensures.rising i j 0 le inside) in
    some_of c.first_from.result (IsFirstFrom (g.B.Before.jobs c.args.before.now) c.args.a rest) (λ p. IsLeastFrom jobs c.args.a p c.args.x) c.first_from.ensures.some
    (λ p first.
    least_behind jobs c.args.a c.args.x place needs c.requires.valid c.needs-needs.ensures.rising (same_members _ _ c.needs-needs.ensures.all) at.1 p
    (subst (λ (nodes : List ℕ). IsFirstFrom jobs c.args.a nodes p) (take_rest needs place) (subst (λ (j : Jobs). IsFirstFrom j c.args.a rest p) c.requires.same first)))

pub returns-in-Err-clause-none : goal.returns-in-Err-clause-none
returns-in-Err-clause-none g c =
    let jobs = c.args.jobs.now in
    let needs = c.needs-needs.result.now in
    let place = c.in-Err.place in
    let rest = take (length needs - place) (drop place needs) in
    let at = searched needs c.args.a (Err place) c.in-Err.ensures.position (λ i j le inside. c.needs-needs.ensures.rising i j 0 le inside) in
    none_of c.first_from.result (NoneFrom (g.B.Before.jobs c.args.before.now) c.args.a rest (length rest)) (Before jobs c.args.a c.args.x → ⊥) c.first_from.ensures.none
    (λ none.
    none_behind jobs c.args.a c.args.x place needs c.requires.valid c.needs-needs.ensures.rising (same_members _ _ c.needs-needs.ensures.all) at.1
    (subst (λ (nodes : List ℕ). NoneFrom jobs c.args.a nodes (length nodes)) (take_rest needs place)
    (subst (λ (j : Jobs). NoneFrom j c.args.a rest (length rest)) c.requires.same none)))
