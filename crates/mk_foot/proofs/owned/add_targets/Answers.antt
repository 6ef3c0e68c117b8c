use Rattle.std.proofs.Common.{◌≡◌, ◌<◌, [], ap, map, sym, ◌∙◌, get_or, length, Option, None, Some, subst}
use Rattle.std.proofs.lemmas.Option.{get_or_from_slice_get, slice_get-get_or}
use Rattle.std.specs.Cmp.Lexicographic.{slice_cmp}
use Rattle.std.specs.Ordering.{nat_cmp}
use Rattle.mk_name.specs.Names.{Name}
use Rattle.mk_rules.specs.Book.{targets_of}
use Rattle.mk_foot.proofs.OwnedNames.{lent_put, names_more}
use Rattle.mk_foot.proofs.owned.add_targets.Goals as goal
use Rattle.mk_foot.proofs.owned.add_targets.Goals.{in-Some+in_ok-insert, in_default}

pub loop-number-preserved : goal.loop-number-preserved
loop-number-preserved c =
    let targets = targets_of c.args.rulebook.now.rules in
    let n = c.loop-number.number in
    let within : n < length targets = subst (λ k. n < k) c.target_count-number-end.ensures c.loop-number-test.true in
    elim c.match-target.branch [
      | in-Some+in_ok-insert w ↦
          names_more _ _ _ targets n _ [] within c.loop-number.invariant
          (ap (λ names. map (λ name. name.now) names.keys) w.names-is ∙ ap (map (λ name. name.now)) w.in_ok-insert.ensures.keys ∙ lent_put (λ name. name.now) (slice_cmp nat_cmp) c.loop-number.names.keys w.in-Some.target)
          (sym (get_or_from_slice_get targets n _ [] (sym w.in-Some.ensures)))
      | in_default w ↦
          let none : ◌≡◌ {A = Option Name} None (Some (get_or targets n [])) = w.in_default.ensures ∙ slice_get-get_or targets n [] within in
          absurd cc
    ]
