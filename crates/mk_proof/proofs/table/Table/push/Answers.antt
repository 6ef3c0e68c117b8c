use Rattle.std.proofs.Common.{◌≡◌, ℕ, ◌+◌, List, ◌++◌, ◌∷◌, [], length, ap, ap₂, ◌∙◌, arith}
use Rattle.std.proofs.lemmas.List.{length-append}
use Rattle.mk_proof.specs.Tables.{rows_from}
use Rattle.mk_proof.proofs.Tabled.{ends_push, rows_push}
use Rattle.mk_proof.proofs.table.Table.push.Goals as goal
use Rattle.mk_proof.proofs.table.Table.push.Goals.{In-Ok}

-- where the new row ends
new_end : (c : In-Ok) → c.len.result ≡ length c.self.inside.numbers.items + length c.args.row.now
new_end c = c.len.ensures ∙ omega (arith, c.extend_from_slice.new.self.ok.0, ap length c.in_ok-extend_from_slice.ensures.items, length-append c.self.inside.numbers.items c.args.row.now)

-- the numbers and the ends
new_numbers : (c : In-Ok) → c.extend_from_slice.new.self.items ≡ c.self.inside.numbers.items ++ c.args.row.now
new_numbers c = c.in_ok-extend_from_slice.ensures.items

new_ends : (c : In-Ok) → c.push.new.self.items ≡ c.self.inside.ends.items ++ (length c.self.inside.numbers.items + length c.args.row.now) ∷ []
new_ends c = c.in-Ok.ensures.items ∙ ap (λ n. c.self.inside.ends.items ++ n ∷ []) (new_end c)

pub invariant_of-self-in-Ok : goal.invariant_of-self-in-Ok
invariant_of-self-in-Ok c =
    let was = c.self.inside.numbers.items in
    let long : length c.extend_from_slice.new.self.items ≡ length was + length c.args.row.now = ap length (new_numbers c) ∙ length-append was c.args.row.now in
    rw (long, new_ends c) (ends_push 0 (length was) (length c.args.row.now) c.self.inside.ends.items c.self.invariant)

pub returns-in-Ok-clause-pushed : goal.returns-in-Ok-clause-pushed
returns-in-Ok-clause-pushed c =
    ap₂ (λ (numbers ends : List ℕ). rows_from 0 numbers ends) (new_numbers c) (new_ends c)
    ∙ rows_push 0 c.self.inside.numbers.items c.self.inside.ends.items c.args.row.now c.self.invariant
    ∙ ap (λ (rows : List (List ℕ)). rows ++ c.args.row.now ∷ []) c.self.view_is
