use Rattle.std.proofs.Common.{List, Err, subst, sym, ap, ◌∷◌, []}
use Rattle.mk_name.specs.Names.{Name}
use Rattle.mk_name.specs.Reported.{Reported}
use Rattle.mk_name.specs.declared.fault.Kind.TheVariants.{TwoRecipes}
use Rattle.mk_name.specs.declared.fault.Source.{Source}
use Rattle.mk_rules.specs.Reading.{BookSays}
use Rattle.mk_rules.proofs.SecondRecipes.{recipe_reported, second_within}
use Rattle.mk_rules.proofs.reading.refuse_second.Goals as goal

pub rule_source-requires : goal.rule_source-requires
rule_source-requires c = second_within c.args.book.now.rules c.in-Some.place c.in-Some.name.now c.in-Some.ensures

pub rule_line-line-requires : goal.rule_line-line-requires
rule_line-line-requires c = second_within c.args.book.now.rules c.in-Some.place c.in-Some.name.now c.in-Some.ensures

pub returns-in-Some : goal.returns-in-Some
returns-in-Some c =
    let book = c.args.book.now in
    let line = c.rule_line-line.result in
    let reported = recipe_reported book c.in-Some.place c.in-Some.name.now c.rule_source.result.now line c.in-Some.ensures c.rule_source.ensures c.rule_line-line.ensures in
    let names = ap (λ (n : Name). n ∷ []) c.in_ok-name.ensures in
    let ByNames : List Name → Type 0 = λ ns. BookSays book (Err (record { kind = TwoRecipes; source = c.in_ok-source.source; place = line; names = ns })) in
    let BySource : Source → Type 0 = λ s. BookSays book (Err (record { kind = TwoRecipes; source = s; place = line; names = c.in-Some.name.now ∷ [] })) in
    let Says : Reported → Type 0 = λ f. BookSays book (Err f) in
    subst Says (sym c.in_ok-fault.ensures) (subst ByNames (sym names) (subst BySource (sym c.in_ok-source.ensures) reported))
