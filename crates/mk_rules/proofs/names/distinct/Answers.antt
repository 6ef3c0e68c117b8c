use Rattle.std.proofs.Common.{rules, length, ◌<◌, arith, ap, sym, ◌∙◌}
use Rattle.std.specs.Cmp.Lexicographic.{nat_list_eq_equiv}
use Rattle.indexmap.specs.IndexSet.{insert_key}
use Rattle.mk_name.specs.Names.{same_name}
use Rattle.mk_rules.proofs.Firsts.{firsts-push, firsts_short}
use Rattle.mk_rules.proofs.names.distinct.Goals as goal

pub returns-then-len-lt2 : goal.returns-then-len-lt2
returns-then-len-lt2 c =
    let small : length c.args.names.items < 2 = first_of (search rules, omega (arith, c.args.names.ok)) in
    firsts_short c.args.names.items small

pub loop-name-preserved : goal.loop-name-preserved
loop-name-preserved c =
    c.in_ok-insert.ensures.keys ∙ ap (λ keys. insert_key same_name keys c.in-Some.name) c.loop-name.invariant ∙ sym (firsts-push same_name nat_list_eq_equiv c.loop-name.yielded c.in-Some.name)
