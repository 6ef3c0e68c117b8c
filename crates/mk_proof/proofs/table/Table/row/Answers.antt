use Rattle.std.proofs.Common.{◌≡◌, ◌∷◌, ◌-◌, get_or, length, take, drop, ap, ◌∙◌, arith, List, ℕ}
use Rattle.std.proofs.lemmas.List.{get_or_default}
use Rattle.mk_proof.proofs.Tabled.{inside, row_is, row_within}
use Rattle.mk_proof.proofs.table.Table.row.Goals as goal

pub start_of-requires : goal.start_of-requires
start_of-requires c =
    let here = inside c.self.inside.numbers.items c.self.inside.ends.items c.args.self.now c.args.number c.self.view_is c.requires in
    omega (arith, ap length c.deref-2.ensures.value)

pub index-requires : goal.index-requires
index-requires c =
    let here = inside c.self.inside.numbers.items c.self.inside.ends.items c.args.self.now c.args.number c.self.view_is c.requires in
    omega (arith, c.self.inside.ends.ok.0)

pub part-requires-clause-order : goal.part-requires-clause-order
part-requires-clause-order c =
    let ends = c.self.inside.ends.items in
    let here = inside c.self.inside.numbers.items ends c.args.self.now c.args.number c.self.view_is c.requires in
    let within = row_within 0 (length c.self.inside.numbers.items) ends c.args.number c.self.invariant here in
    let from : c.start_of.result ≡ get_or (0 ∷ ends) c.args.number 0 = c.start_of.ensures ∙ ap (λ (es : List ℕ). get_or (0 ∷ es) c.args.number 0) c.deref-2.ensures.value in
    let to : c.index.result.now ≡ get_or ends c.args.number 0 = c.index.ensures ∙ get_or_default ends c.args.number c.index.result.now 0 here in
    omega (arith, within.0, from, to)

pub part-requires-clause-within : goal.part-requires-clause-within
part-requires-clause-within c =
    let ends = c.self.inside.ends.items in
    let here = inside c.self.inside.numbers.items ends c.args.self.now c.args.number c.self.view_is c.requires in
    let within = row_within 0 (length c.self.inside.numbers.items) ends c.args.number c.self.invariant here in
    let to : c.index.result.now ≡ get_or ends c.args.number 0 = c.index.ensures ∙ get_or_default ends c.args.number c.index.result.now 0 here in
    omega (arith, within.1, to, ap length c.deref.ensures.value)

pub returns : goal.returns
returns c =
    let numbers = c.self.inside.numbers.items in
    let ends = c.self.inside.ends.items in
    let here = inside numbers ends c.args.self.now c.args.number c.self.view_is c.requires in
    let from : c.start_of.result ≡ get_or (0 ∷ ends) c.args.number 0 = c.start_of.ensures ∙ ap (λ (es : List ℕ). get_or (0 ∷ es) c.args.number 0) c.deref-2.ensures.value in
    let to : c.index.result.now ≡ get_or ends c.args.number 0 = c.index.ensures ∙ get_or_default ends c.args.number c.index.result.now 0 here in
    c.part.ensures
    ∙ ap (λ (xs : List ℕ). take (c.index.result.now - c.start_of.result) (drop c.start_of.result xs)) c.deref.ensures.value
    ∙ row_is numbers ends c.args.self.now c.args.number c.start_of.result c.index.result.now c.part.result.now c.self.view_is here from to
