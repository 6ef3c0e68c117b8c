use Rattle.std.proofs.Common.{ap, refl, subst, ◌∙◌, ◌≡◌, true, List, [], map}
use Rattle.std.proofs.lemmas.Result.{err_from_is_err_and}
use Rattle.std.specs.Borrow.{Bor}
use Rattle.clap.specs.Words.{App, HasKind, Text, fault_of, is_simple, is_simple_and_free, subcommand_of}
use Rattle.mk_request.specs.CommandLine as spec
use Rattle.mk_request.proofs.Asked.{asks, found_is, none_wrong, one_named, still_wrong, value_wrong}
use Rattle.mk_request.proofs.words.read_words.Goals as goal

pub request_of-requires : goal.request_of-requires
request_of-requires c =
    let words : List Text = map (λ (word : Bor Text). word.now) c.args.words.now in
    let app = c.in_ok-race_command.ensures.app in
    let simple : is_simple spec.race_app ≡ true = refl in
    let same = (c.in_ok-matches.ensures.matches (ap is_simple app ∙ simple)).1 ∙ ap (λ (a : App). subcommand_of a words) app in
    one_named words _ (found_is c.in_ok-matches.matches _ c.in-Some.name.now _ same c.in-Some.ensures.name c.in-Some.ensures.rows)

pub returns-clause-values : goal.returns-clause-values
returns-clause-values c =
    let words : List Text = map (λ (word : Bor Text). word.now) c.args.words.now in
    let app = c.in_ok-race_command.ensures.app in
    let simple : is_simple spec.race_app ≡ true = refl in
    let same = (c.in_ok-matches.ensures.matches (ap is_simple app ∙ simple)).1 ∙ ap (λ (a : App). subcommand_of a words) app in
    asks c.in_ok-request_of-in-Some.field-0 (subcommand_of spec.race_app words) _ _
    (found_is c.in_ok-matches.matches _ c.in-Some.name.now _ same c.in-Some.ensures.name c.in-Some.ensures.rows) c.in_ok-request_of-in-Some.ensures

pub returns-in_err-matches-clause-kinds : goal.returns-in_err-matches-clause-kinds
returns-in_err-matches-clause-kinds c =
    let p = err_from_is_err_and c.from_residual-in_err-matches.result c.from_residual-in_err-matches.ensures.1 in
    let words : List Text = map (λ (word : Bor Text). word.now) c.args.words.now in
    let app = c.in_ok-race_command.ensures.app in
    let free : is_simple_and_free spec.race_app ≡ true = refl in
    rw (p.1, p.2) (still_wrong (fault_of spec.race_app words) (spec.value_kinds (subcommand_of spec.race_app words)) c.in_err-matches.field-0.0
    (subst (λ (a : App). HasKind (fault_of a words) c.in_err-matches.field-0.0) app (c.in_err-matches.ensures.kinds (ap is_simple_and_free app ∙ free))))

pub returns-clause-kinds : goal.returns-clause-kinds
returns-clause-kinds c =
    let words : List Text = map (λ (word : Bor Text). word.now) c.args.words.now in
    let app = c.in_ok-race_command.ensures.app in
    let free : is_simple_and_free spec.race_app ≡ true = refl in
    let simple : is_simple spec.race_app ≡ true = refl in
    let same = (c.in_ok-matches.ensures.matches (ap is_simple app ∙ simple)).1 ∙ ap (λ (a : App). subcommand_of a words) app in
    none_wrong (fault_of spec.race_app words) (spec.value_kinds (subcommand_of spec.race_app words))
    (subst (λ (a : App). fault_of a words ≡ []) app (c.in_ok-matches.ensures.kinds (ap is_simple_and_free app ∙ free)))
    (ap spec.value_kinds (found_is c.in_ok-matches.matches _ c.in-Some.name.now _ same c.in-Some.ensures.name c.in-Some.ensures.rows)
    ∙ (rw c.in_default.is at c.mistake_in.ensures))

pub returns-in-Some-mistake_in-clause-kinds : goal.returns-in-Some-mistake_in-clause-kinds
returns-in-Some-mistake_in-clause-kinds c =
    let words : List Text = map (λ (word : Bor Text). word.now) c.args.words.now in
    let app = c.in_ok-race_command.ensures.app in
    let free : is_simple_and_free spec.race_app ≡ true = refl in
    let simple : is_simple spec.race_app ≡ true = refl in
    let same = (c.in_ok-matches.ensures.matches (ap is_simple app ∙ simple)).1 ∙ ap (λ (a : App). subcommand_of a words) app in
    value_wrong (subcommand_of spec.race_app words) _ (fault_of spec.race_app words) c.in-Some-mistake_in.mistake.kind c.in_ok-error_of-in-Some.field-0
    (found_is c.in_ok-matches.matches _ c.in-Some.name.now _ same c.in-Some.ensures.name c.in-Some.ensures.rows) c.in-Some-mistake_in.ensures
    (subst (λ (a : App). fault_of a words ≡ []) app (c.in_ok-matches.ensures.kinds (ap is_simple_and_free app ∙ free)))
    c.in_ok-error_of-in-Some.ensures
