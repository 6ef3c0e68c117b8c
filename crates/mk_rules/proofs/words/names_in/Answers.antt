use Rattle.std.proofs.Common.{List, ℕ, [], map, subst, get_or, ◌∙◌, ap}
use Rattle.std.proofs.lemmas.List.{get_or_default}
use Rattle.std.proofs.lemmas.Result.{err_from_is_err_and}
use Rattle.mk_name.specs.Gives.{Halts}
use Rattle.mk_rules.specs.Words.{spelled_names}
use Rattle.mk_rules.proofs.SpelledWords.{good_more, names_more, refused_here}
use Rattle.mk_rules.proofs.words.names_in.Goals as goal

pub returns-in_err-plain_word : goal.returns-in_err-plain_word
returns-in_err-plain_word c =
    let words = c.deref-word-items.result.now in
    let i = c.loop-word.word-index in
    let word = get_or words i (record { ref_ptr = (0, 0); now = [] }) in
    let is = get_or_default words i (record { ref_ptr = (0, 0); now = [] }) word c.loop-word-test.true in
    let all = ap (map (λ w. w.now)) c.deref-word-items.ensures.value ∙ c.in_ok-words.ensures in
    let p = err_from_is_err_and c.from_residual-in_err-plain_word.result c.from_residual-in_err-plain_word.ensures.1 in
    let Refused : List (List ℕ) → Type 0 = λ l. Halts c.in_err-plain_word.field-0.0 (spelled_names c.args.root.now l) in
    rw (p.1, p.2) (subst Refused all (refused_here (λ w. w.now) words i word c.loop-word-test.true is c.args.root.now c.in_err-plain_word.field-0.0 c.in_err-plain_word.ensures c.loop-word.invariant.good))

pub loop-word-preserved : goal.loop-word-preserved
loop-word-preserved c =
    let words = c.deref-word-items.result.now in
    let i = c.loop-word.word-index in
    let word = get_or words i (record { ref_ptr = (0, 0); now = [] }) in
    let is = get_or_default words i (record { ref_ptr = (0, 0); now = [] }) word c.loop-word-test.true in
    let root = c.args.root.now in
    let name = c.in_ok-plain_word.field-0 in
    record {
      names = names_more (λ w. w.now) words i word c.loop-word-test.true is root name c.loop-word.names.items c.push.new.self.items c.in_ok-plain_word.ensures c.loop-word.invariant.names c.in_ok-push.ensures.items;
      good = good_more (λ w. w.now) words i word c.loop-word-test.true is root name c.in_ok-plain_word.ensures c.loop-word.invariant.good;
    }
