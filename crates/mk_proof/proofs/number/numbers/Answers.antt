use Rattle.std.proofs.Common.{◌≡◌, ℕ, List, map, sym, subst}
use Rattle.std.specs.Fmt.{decimal}
use Rattle.std.specs.List.{All}
use Rattle.mk_proof.specs.Drafts.{IsShort}
use Rattle.mk_proof.specs.ProofText.{words_of}
use Rattle.mk_proof.proofs.Found.{ReadsWords, all_words, bad_last, bad_word, one_more}
use Rattle.mk_proof.proofs.number.numbers.Goals as goal

pub returns-in_default-number : goal.returns-in_default-number
returns-in_default-number c =
    bad_word c.args.text.now c.words.rest.now c.words.numbers.items c.in-Some.word.now c.in-Some.behind.now c.words.invariant c.in-Some.ensures.cut c.in_default-number.ensures

pub words-preserved : goal.words-preserved
words-preserved c =
    let found = c.in-Some-number.ensures in
    subst (λ (ns : List ℕ). ReadsWords c.args.text.now c.in-Some.behind.now ns) (sym c.in_ok-push.ensures.items)
    (one_more c.args.text.now c.words.rest.now c.words.numbers.items c.in-Some.word.now c.in-Some.behind.now c.in-Some-number.next c.words.invariant c.in-Some.ensures.cut found.0 found.1)

pub returns-in_default-number-2 : goal.returns-in_default-number-2
returns-in_default-number-2 c =
    bad_last c.args.text.now c.words.rest.now c.words.numbers.items c.words.invariant c.in_default.ensures.none c.in_default-number-2.ensures

pub returns : goal.returns
returns c =
    let found = c.in-Some-number-2.ensures in
    subst (λ (ns : List ℕ). All IsShort ns × (map decimal ns ≡ words_of c.args.text.now)) (sym c.in_ok-push-2.ensures.items)
    (all_words c.args.text.now c.words.rest.now c.words.numbers.items c.in-Some-number-2.last c.words.invariant found.0 found.1)
