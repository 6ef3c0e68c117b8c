use Rattle.std.proofs.Common.{ℕ, ◌≡◌, ◌+◌, ◌++◌, ◌∷◌, [], List, Vec, ap, arith, drop, length, refl, subst, sym, take, ◌∙◌}
use Rattle.std.specs.Global.{Global}
use Rattle.std.proofs.lemmas.List.{take_more}
use Rattle.mk_path.specs.declared.path.Path.{Path}
use Rattle.mk_index.specs.Places.{AreNumbers}
use Rattle.mk_index.proofs.Numbers.{numbers_more}
use Rattle.mk_index.proofs.Uniting.{rest_more, row_fits, row_places}
use Rattle.mk_index.proofs.places.cut.Goals as goal

pub split_at-requires : goal.split_at-requires
split_at-requires c =
    let row = c.row-item.result in
    let fits = row_fits c.args.rows.now c.args.numbers.now c.loop-row.row-index row c.loop-row-test.true c.row-item.is c.requires in
    omega (arith, fits, c.len.ensures, row.ok.0, ap length c.loop-row.invariant.left)

pub loop-row-preserved : goal.loop-row-preserved
loop-row-preserved c =
    let rows = c.args.rows.now in
    let numbers = c.args.numbers.now in
    let i = c.loop-row.row-index in
    let row = c.row-item.result in
    let size = c.len.result in
    let long : length row.items ≡ size = sym (c.len.ensures ∙ row.ok.0) in
    let left = c.loop-row.invariant.left in
    let own : c.split_at.result.0.now ≡ take size (drop _ numbers) = c.split_at.ensures.front ∙ ap (take size) left in
    let rows_is : take (i + 1) rows ≡ take i rows ++ row ∷ [] = take_more rows i row c.loop-row-test.true ∙ ap (λ (r : Vec Path Global). take i rows ++ r ∷ []) (sym c.row-item.is) in
    record {
      left = c.split_at.ensures.back ∙ ap (drop size) left ∙ rest_more rows numbers i row size c.loop-row-test.true c.row-item.is long;
      done = λ paths places.
          subst (λ (rs : List (Vec Path Global)). AreNumbers paths c.push_row.new.self rs) (sym rows_is)
          (subst (λ (table : List (List ℕ)). AreNumbers paths table (take i rows ++ row ∷ []))
          (sym (c.in_ok-push_row.ensures.put ∙ ap (λ (ns : List ℕ). c.loop-row.table ++ ns ∷ []) own))
          (numbers_more paths c.loop-row.table (take i rows) _ row (c.loop-row.invariant.done paths places)
          (row_places paths rows numbers i row _ size c.loop-row-test.true c.row-item.is places refl long)));
    }
