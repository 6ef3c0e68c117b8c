use Rattle.std.proofs.Common.{◌+◌, suc, [], map, refl, ap, ◌∙◌}
use Rattle.std.proofs.lemmas.List.{drop_all, drop_more}
use Rattle.std.proofs.lemmas.Result.{err_from_is_err_and}
use Rattle.mk_macro.specs.Macros.{macros_of}
use Rattle.mk_include.specs.Includes.{texts_of}
use Rattle.mk_include.specs.Words.{word_text, words_of}
use Rattle.mk_rules.specs.Begun.{WordBegun, line_begun}
use Rattle.mk_rules.specs.Placed.{begins_with_command, placed}
use Rattle.mk_rules.specs.Reading.{WordSays, line_says, point}
use Rattle.mk_rules.proofs.Beginning.{include_begun, memory_has, no_words, reaches_in, reaches_on, text_begun, text_given, word_begun}
use Rattle.mk_rules.proofs.Leading.{comes_out, ends_here, goes_on}
use Rattle.mk_rules.proofs.PlacedLines.{none_from, placed_from, rest_of}
use Rattle.mk_rules.proofs.WordLeads.{include_leads, text_leads}
use Rattle.mk_rules.proofs.lines.Reader.+texts.Goals as goal

pub read_include-returns-in_ok-words-in-Ok-clause-leads : goal.read_include-returns-in_ok-words-in-Ok-clause-leads
read_include-returns-in_ok-words-in-Ok-clause-leads t c =
    include_leads c.read_words.result (point c.read_words.new.so_far.rules.items c.read_words.new.so_far.taken c.read_words.new.macros) (point c.args.so_far.now.rules.items c.args.so_far.now.taken c.args.macros.now)
    c.args.self.now.root.now (texts_of c.args.self.now.includes.now) c.args.room (line_says c.args.self.now.root.now (texts_of c.args.self.now.includes.now) c.args.room) c.args.parts.now c.args.placed.now
    c.in-Ok.text.items c.rest.result.now c.has_hyphen.result (map (λ word. word.now) c.deref-in-Ok.result.now) c.rest.ensures c.in-Ok.ensures c.has_hyphen.ensures
    (ap (map (λ word. word.now)) c.deref-in-Ok.ensures.value ∙ c.in_ok-words-in-Ok.ensures ∙ ap words_of c.deref.ensures.value) c.read_words.ensures.leads

pub read_include-returns-in_ok-words-in-Ok-clause-begun : goal.read_include-returns-in_ok-words-in-Ok-clause-begun
read_include-returns-in_ok-words-in-Ok-clause-begun t c =
    include_begun c.read_words.result (point c.args.so_far.now.rules.items c.args.so_far.now.taken c.args.macros.now) (macros_of c.read_words.new.macros)
    c.args.self.now.root.now (texts_of c.args.self.now.includes.now) c.args.room (line_begun c.args.self.now.root.now (texts_of c.args.self.now.includes.now) c.args.room) (line_says c.args.self.now.root.now (texts_of c.args.self.now.includes.now) c.args.room) c.args.parts.now c.args.placed.now
    c.in-Ok.text.items c.rest.result.now c.has_hyphen.result (map (λ word. word.now) c.deref-in-Ok.result.now) c.rest.ensures c.in-Ok.ensures c.has_hyphen.ensures
    (ap (map (λ word. word.now)) c.deref-in-Ok.ensures.value ∙ c.in_ok-words-in-Ok.ensures ∙ ap words_of c.deref.ensures.value) c.read_words.ensures.begun

pub read_text-returns-clause-begun : goal.read_text-returns-clause-begun
read_text-returns-clause-begun t c =
    text_begun c.read_lines.result (point c.args.so_far.now.rules.items (c.args.so_far.now.taken + 1) c.args.macros.now)
    c.args.self.now.root.now (texts_of c.args.self.now.includes.now) c.args.room c.requires.room c.args.name c.args.cut.now c.in_ok-lines.lines.now (macros_of c.read_lines.new.macros) c.in_ok-lines.ensures c.read_lines.ensures.begun

pub read_text-returns-clause-leads : goal.read_text-returns-clause-leads
read_text-returns-clause-leads t c =
    text_leads c.read_lines.result (point c.read_lines.new.so_far.rules.items c.read_lines.new.so_far.taken c.read_lines.new.macros) (point c.args.so_far.now.rules.items (c.args.so_far.now.taken + 1) c.args.macros.now)
    c.args.self.now.root.now (texts_of c.args.self.now.includes.now) c.args.room c.requires.room c.args.name c.args.cut.now c.in_ok-lines.lines.now c.in_ok-lines.ensures c.read_lines.ensures.leads

pub read_lines-loop-i-init : goal.read_lines-loop-i-init
read_lines-loop-i-init t c = record { comes = λ answer h. h; begun = λ macros h. h }

pub read_lines-returns-in_err-read_line-clause-leads : goal.read_lines-returns-in_err-read_line-clause-leads
read_lines-returns-in_err-read_line-clause-leads t c =
    let p = err_from_is_err_and c.from_residual.result c.from_residual.ensures.1 in
    let lines = c.args.lines.now in
    let below = c.begins_with_command.ensures ∙ ap begins_with_command (rest_of lines (c.loop-i.i + 1)) in
    let left = placed_from c.args.source.now lines c.loop-i.i c.index-lines-i.result c.begins_with_command.result c.loop-i-test.true c.index-lines-i.is below in
    rw (p.1, p.2) (ends_here (line_says c.args.self.now.root.now (texts_of c.args.self.now.includes.now) (suc c.args.room)) (point c.args.so_far.now.rules.items c.args.so_far.now.taken c.args.macros.now) (placed c.args.source.now lines)
    (point c.loop-i.so_far.rules.items c.loop-i.so_far.taken c.loop-i.macros) _ c.loop-i.invariant.comes _ _ left c.in_err-read_line.field-0.0 (macros_of c.read_line.new.macros) c.in_err-read_line.ensures.leads)

pub read_lines-loop-i-preserved : goal.read_lines-loop-i-preserved
read_lines-loop-i-preserved t c =
    let lines = c.args.lines.now in
    let below = c.begins_with_command.ensures ∙ ap begins_with_command (rest_of lines (c.loop-i.i + 1)) in
    let left = placed_from c.args.source.now lines c.loop-i.i c.index-lines-i.result c.begins_with_command.result c.loop-i-test.true c.index-lines-i.is below in
    record {
      comes = goes_on (line_says c.args.self.now.root.now (texts_of c.args.self.now.includes.now) (suc c.args.room)) (point c.args.so_far.now.rules.items c.args.so_far.now.taken c.args.macros.now) (placed c.args.source.now lines)
          (point c.loop-i.so_far.rules.items c.loop-i.so_far.taken c.loop-i.macros) _ c.loop-i.invariant.comes _ _ left (point c.read_line.new.so_far.rules.items c.read_line.new.so_far.taken c.read_line.new.macros) c.in_ok-read_line.ensures.leads;
      begun = reaches_on (line_begun c.args.self.now.root.now (texts_of c.args.self.now.includes.now) (suc c.args.room)) (line_says c.args.self.now.root.now (texts_of c.args.self.now.includes.now) (suc c.args.room)) (point c.args.so_far.now.rules.items c.args.so_far.now.taken c.args.macros.now) (placed c.args.source.now lines)
          (point c.loop-i.so_far.rules.items c.loop-i.so_far.taken c.loop-i.macros) _ c.loop-i.invariant.begun _ _ left (point c.read_line.new.so_far.rules.items c.read_line.new.so_far.taken c.read_line.new.macros) c.in_ok-read_line.ensures.leads;
    }

pub read_lines-returns-in_err-read_line-clause-begun : goal.read_lines-returns-in_err-read_line-clause-begun
read_lines-returns-in_err-read_line-clause-begun t c =
    let p = err_from_is_err_and c.from_residual.result c.from_residual.ensures.1 in
    let lines = c.args.lines.now in
    let below = c.begins_with_command.ensures ∙ ap begins_with_command (rest_of lines (c.loop-i.i + 1)) in
    let left = placed_from c.args.source.now lines c.loop-i.i c.index-lines-i.result c.begins_with_command.result c.loop-i-test.true c.index-lines-i.is below in
    rw (p.1, p.2) (reaches_in (line_begun c.args.self.now.root.now (texts_of c.args.self.now.includes.now) (suc c.args.room)) (line_says c.args.self.now.root.now (texts_of c.args.self.now.includes.now) (suc c.args.room)) (point c.args.so_far.now.rules.items c.args.so_far.now.taken c.args.macros.now) (placed c.args.source.now lines)
    (point c.loop-i.so_far.rules.items c.loop-i.so_far.taken c.loop-i.macros) _ c.loop-i.invariant.begun _ _ left c.in_err-read_line.field-0.0 (macros_of c.read_line.new.macros) c.in_err-read_line.ensures.begun)

pub read_lines-returns-clause-leads : goal.read_lines-returns-clause-leads
read_lines-returns-clause-leads t c =
    comes_out (line_says c.args.self.now.root.now (texts_of c.args.self.now.includes.now) (suc c.args.room)) (point c.args.so_far.now.rules.items c.args.so_far.now.taken c.args.macros.now) (placed c.args.source.now c.args.lines.now)
    (point c.loop-i.so_far.rules.items c.loop-i.so_far.taken c.loop-i.macros) _ c.loop-i.invariant.comes (none_from c.args.source.now c.args.lines.now c.loop-i.i c.loop-i-test.false)

pub read_word-returns-in-Ok-Some-clause-begun : goal.read_word-returns-in-Ok-Some-clause-begun
read_word-returns-in-Ok-Some-clause-begun t c = λ first before.
    let given = text_given (word_text c.args.self.now.root.now (texts_of c.args.self.now.includes.now) c.args.hyphen c.args.room c.args.so_far.now.taken c.args.word.now) c.in-Ok-Some.field-0 c.in-Ok-Some.name c.in-Ok-Some.cut c.in-Ok-Some.ensures c.in-Ok-Some.field-0-is in
    word_begun c.args.self.now.root.now (texts_of c.args.self.now.includes.now) c.args.hyphen c.args.room (line_begun c.args.self.now.root.now (texts_of c.args.self.now.includes.now) c.args.room) (line_says c.args.self.now.root.now (texts_of c.args.self.now.includes.now) c.args.room) first
    c.read_text.result (point c.args.so_far.now.rules.items c.args.so_far.now.taken c.args.macros.now) c.args.word.now (macros_of c.read_text.new.macros) _ _ c.read_text.ensures.begun (rw c.in-Ok-Some.field-0-is given)

pub read_words-returns-in_err-before-clause-begun : goal.read_words-returns-in_err-before-clause-begun
read_words-returns-in_err-before-clause-begun t c =
    memory_has _ _ (no_words c.args.self.now.root.now (texts_of c.args.self.now.includes.now) c.args.hyphen c.args.room (line_begun c.args.self.now.root.now (texts_of c.args.self.now.includes.now) c.args.room) (line_says c.args.self.now.root.now (texts_of c.args.self.now.includes.now) c.args.room) (macros_of c.args.macros.now)
    (WordSays c.args.self.now.root.now (texts_of c.args.self.now.includes.now) c.args.hyphen c.args.room (line_says c.args.self.now.root.now (texts_of c.args.self.now.includes.now) c.args.room) c.args.placed.now (macros_of c.args.macros.now)) (map (λ word. word.now) c.args.words.now) (point c.args.so_far.now.rules.items c.args.so_far.now.taken c.args.macros.now) (macros_of c.args.macros.now) refl)

pub read_words-loop-word-init : goal.read_words-loop-word-init
read_words-loop-word-init t c = record { comes = λ answer h. h; begun = λ macros h. h; before = c.in_ok-before.ensures }

pub read_words-loop-word-preserved : goal.read_words-loop-word-preserved
read_words-loop-word-preserved t c =
    let words = c.args.words.now in
    let i = c.loop-word.word-index in
    let says = c.in_ok-read_word.ensures.leads (macros_of c.args.macros.now) c.loop-word.invariant.before in
    record {
      comes = goes_on (WordSays c.args.self.now.root.now (texts_of c.args.self.now.includes.now) c.args.hyphen c.args.room (line_says c.args.self.now.root.now (texts_of c.args.self.now.includes.now) c.args.room) c.args.placed.now (macros_of c.args.macros.now))
          (point c.args.so_far.now.rules.items c.args.so_far.now.taken c.args.macros.now) (map (λ word. word.now) words) (point c.loop-word.so_far.rules.items c.loop-word.so_far.taken c.loop-word.macros) _ c.loop-word.invariant.comes _ _
          (ap (map (λ word. word.now)) (drop_more words i (record { ref_ptr = (0, 0); now = [] }) c.loop-word-test.true)) (point c.read_word.new.so_far.rules.items c.read_word.new.so_far.taken c.read_word.new.macros) says;
      begun = reaches_on (WordBegun c.args.self.now.root.now (texts_of c.args.self.now.includes.now) c.args.hyphen c.args.room (line_begun c.args.self.now.root.now (texts_of c.args.self.now.includes.now) c.args.room) (line_says c.args.self.now.root.now (texts_of c.args.self.now.includes.now) c.args.room) (macros_of c.args.macros.now)) (WordSays c.args.self.now.root.now (texts_of c.args.self.now.includes.now) c.args.hyphen c.args.room (line_says c.args.self.now.root.now (texts_of c.args.self.now.includes.now) c.args.room) c.args.placed.now (macros_of c.args.macros.now)) (point c.args.so_far.now.rules.items c.args.so_far.now.taken c.args.macros.now) (map (λ word. word.now) words)
          (point c.loop-word.so_far.rules.items c.loop-word.so_far.taken c.loop-word.macros) _ c.loop-word.invariant.begun _ _
          (ap (map (λ word. word.now)) (drop_more words i (record { ref_ptr = (0, 0); now = [] }) c.loop-word-test.true)) (point c.read_word.new.so_far.rules.items c.read_word.new.so_far.taken c.read_word.new.macros) says;
      before = c.in_ok-read_word.ensures.before (macros_of c.args.macros.now) c.loop-word.invariant.before;
    }

pub read_words-returns-in_err-read_word-clause-leads : goal.read_words-returns-in_err-read_word-clause-leads
read_words-returns-in_err-read_word-clause-leads t c =
    let p = err_from_is_err_and c.from_residual-in_err-read_word.result c.from_residual-in_err-read_word.ensures.1 in
    let words = c.args.words.now in
    let i = c.loop-word.word-index in
    let says = c.in_err-read_word.ensures.leads (macros_of c.args.macros.now) c.loop-word.invariant.before in
    rw (p.1, p.2) (ends_here (WordSays c.args.self.now.root.now (texts_of c.args.self.now.includes.now) c.args.hyphen c.args.room (line_says c.args.self.now.root.now (texts_of c.args.self.now.includes.now) c.args.room) c.args.placed.now (macros_of c.args.macros.now))
    (point c.args.so_far.now.rules.items c.args.so_far.now.taken c.args.macros.now) (map (λ word. word.now) words) (point c.loop-word.so_far.rules.items c.loop-word.so_far.taken c.loop-word.macros) _ c.loop-word.invariant.comes _ _
    (ap (map (λ word. word.now)) (drop_more words i (record { ref_ptr = (0, 0); now = [] }) c.loop-word-test.true)) c.in_err-read_word.field-0.0 (macros_of c.read_word.new.macros) says)

pub read_words-returns-in_err-read_word-clause-begun : goal.read_words-returns-in_err-read_word-clause-begun
read_words-returns-in_err-read_word-clause-begun t c =
    let p = err_from_is_err_and c.from_residual-in_err-read_word.result c.from_residual-in_err-read_word.ensures.1 in
    let words = c.args.words.now in
    let i = c.loop-word.word-index in
    rw (p.1, p.2) (reaches_in (WordBegun c.args.self.now.root.now (texts_of c.args.self.now.includes.now) c.args.hyphen c.args.room (line_begun c.args.self.now.root.now (texts_of c.args.self.now.includes.now) c.args.room) (line_says c.args.self.now.root.now (texts_of c.args.self.now.includes.now) c.args.room) (macros_of c.args.macros.now)) (WordSays c.args.self.now.root.now (texts_of c.args.self.now.includes.now) c.args.hyphen c.args.room (line_says c.args.self.now.root.now (texts_of c.args.self.now.includes.now) c.args.room) c.args.placed.now (macros_of c.args.macros.now)) (point c.args.so_far.now.rules.items c.args.so_far.now.taken c.args.macros.now) (map (λ word. word.now) words)
    (point c.loop-word.so_far.rules.items c.loop-word.so_far.taken c.loop-word.macros) _ c.loop-word.invariant.begun _ _
    (ap (map (λ word. word.now)) (drop_more words i (record { ref_ptr = (0, 0); now = [] }) c.loop-word-test.true)) c.in_err-read_word.field-0.0 (macros_of c.read_word.new.macros) (c.in_err-read_word.ensures.begun (macros_of c.args.macros.now) c.loop-word.invariant.before))

pub read_words-returns-clause-leads : goal.read_words-returns-clause-leads
read_words-returns-clause-leads t c =
    comes_out (WordSays c.args.self.now.root.now (texts_of c.args.self.now.includes.now) c.args.hyphen c.args.room (line_says c.args.self.now.root.now (texts_of c.args.self.now.includes.now) c.args.room) c.args.placed.now (macros_of c.args.macros.now))
    (point c.args.so_far.now.rules.items c.args.so_far.now.taken c.args.macros.now) (map (λ word. word.now) c.args.words.now) (point c.loop-word.so_far.rules.items c.loop-word.so_far.taken c.loop-word.macros) _ c.loop-word.invariant.comes
    (ap (map (λ word. word.now)) (drop_all c.loop-word.word-index c.args.words.now c.loop-word-test.false))
