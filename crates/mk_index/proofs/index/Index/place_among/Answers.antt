use Rattle.std.proofs.Common.{ℕ, ◌≡◌, ◌<◌, List, Contains, get_or, length, subst, sym}
use Rattle.std.proofs.lemmas.List.Elements.{All-contains}
use Rattle.mk_index.specs.Index.{numbers_of}
use Rattle.mk_index.specs.Table.{row_of}
use Rattle.mk_index.proofs.Placing.{first_there, none_there, stands_there}
use Rattle.mk_index.proofs.index.Index.place_among.Goals as goal

pub returns-in-Some-clause-some : goal.returns-in-Some-clause-some
returns-in-Some-clause-some c =
    let index = c.args.self.now in
    let written = c.args.written in
    let node = c.in-Some.field-0.now in
    let t = c.args.t in
    let place = c.place_of.result in
    let held : Contains (row_of c.holders.result.now t) node = subst (λ (row : List ℕ). Contains row node) c.row.ensures (first_there c.row.result.now node c.in-Some.ensures.value) in
    let there : Contains (numbers_of index node written) t = (c.holders.ensures.whole.hold written t node).0 (subst (λ (table : List (List ℕ)). Contains (row_of table t) node) c.holders.ensures.is held) in
    let stands = stands_there c.numbers.result.now place t c.numbers.ensures.row.rise c.place_of.ensures.below c.place_of.ensures.rest (subst (λ (row : List ℕ). Contains row t) (sym c.numbers.ensures.numbers) there) in (
      record {
        node = All-contains (λ n. n < length index.reads) (row_of c.holders.result.now t) node (c.holders.ensures.held.within t) held;
        within = subst (λ (row : List ℕ). place < length row) c.numbers.ensures.numbers stands.0;
      },
      subst (λ (row : List ℕ). get_or row place 0 ≡ t) c.numbers.ensures.numbers stands.1,
    )

pub returns-in-None-clause-none : goal.returns-in-None-clause-none
returns-in-None-clause-none c = λ n there.
    let held = subst (λ (table : List (List ℕ)). Contains (row_of table c.args.t) n) (sym c.holders.ensures.is) ((c.holders.ensures.whole.hold c.args.written c.args.t n).1 there) in
    none_there c.row.result.now c.in-None.ensures.value n (subst (λ (row : List ℕ). Contains row n) (sym c.row.ensures) held)
