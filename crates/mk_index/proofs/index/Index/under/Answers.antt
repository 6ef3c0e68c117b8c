use Rattle.std.proofs.Common.{ℕ, ◌∷◌, List, true, false, subst}
use Rattle.mk_index.specs.Index.{numbers_of}
use Rattle.mk_index.specs.Meets.{Facing, IsLeastMet}
use Rattle.mk_index.proofs.index.Index.under.Goals as goal

pub returns-clause-least : goal.returns-clause-least
returns-clause-least c =
    let index = c.args.self.now in
    let reads = numbers_of index c.args.b false in
    let writes = numbers_of index c.args.b true in
    λ pairs least.
    let first_pairs : List Facing = record { mine = writes; theirs = numbers_of index c.args.a true } ∷ pairs in
    let second_pairs : List Facing = record { mine = writes; theirs = numbers_of index c.args.a false } ∷ first_pairs in
    let first : IsLeastMet index.ups first_pairs c.lesser-best.result =
    subst (λ (theirs : List ℕ). IsLeastMet index.ups (record { mine = writes; theirs = theirs } ∷ pairs) c.lesser-best.result) c.numbers.ensures.numbers
    (c.lesser-best.ensures.least pairs least) in
    let second : IsLeastMet index.ups second_pairs c.lesser-best-2.result =
    subst (λ (theirs : List ℕ). IsLeastMet index.ups (record { mine = writes; theirs = theirs } ∷ first_pairs) c.lesser-best-2.result) c.numbers-2.ensures.numbers
    (c.lesser-best-2.ensures.least first_pairs first) in
    subst (λ (theirs : List ℕ). IsLeastMet index.ups (record { mine = reads; theirs = theirs } ∷ second_pairs) c.lesser.result) c.numbers-3.ensures.numbers
    (c.lesser.ensures.least second_pairs second)
