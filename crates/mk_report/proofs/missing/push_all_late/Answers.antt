use Rattle.std.proofs.Common.{ℕ, ◌≡◌, ◌∙◌, ◌<◌, ◌≤◌, ◌++◌, List, ap, arith, get_or, length, rules, subst, sym, take, zip}
use Rattle.std.specs.List.{flat_map}
use Rattle.std.proofs.lemmas.List.{length_push, take_all}
use Rattle.std.proofs.lemmas.Slice.Zip.{get_or-zip, length-zip, zip_end, zip_turn}
use Rattle.mk_report.specs.MissingText.{late_pair}
use Rattle.mk_report.proofs.MissingLines.{texts_more}
use Rattle.mk_report.proofs.missing.push_all_late.Goals as goal

pub loop-pair-preserved : goal.loop-pair-preserved
loop-pair-preserved c =
    let late = c.args.found.now.late.items in
    let writers = c.args.found.now.late_by.items in
    let yielded = c.loop-pair.yielded in
    let text = late_pair c.args.jobs.now c.args.found.now in
    let new = c.push_late.new.out.items in
    let turn = zip_turn late writers yielded c.into_iter-pair-iterator.result c.loop-pair.pair-iterator c.next.new.self c.next.result (search rules) (search rules)
    c.loop-pair.yielded_by (c.in-Some.pair, c.in-Some.writer) c.in-Some.is c.next.ensures.steps in
    let within : length yielded < length (zip late writers) = omega (arith, length-zip late writers, turn.0, turn.1) in
    let pair : c.in-Some.pair.now ≡ get_or late (length yielded) (0, 0) = turn.2 (0, 0) in
    let writer : c.in-Some.writer.now ≡ get_or writers (length yielded) 0 = turn.3 0 in
    let item : get_or (zip late writers) (length yielded) ((0, 0), 0) ≡ (c.in-Some.pair.now, c.in-Some.writer.now) =
    get_or-zip late writers (length yielded) ((0, 0), 0) turn.0 turn.1 ∙ cc (pair, writer) in
    let is : new ≡ c.loop-pair.out.items ++ text (get_or (zip late writers) (length yielded) ((0, 0), 0)) =
    c.in_ok-push_late.ensures ∙ ap (λ (one : (ℕ × ℕ) × ℕ). c.loop-pair.out.items ++ text one) (sym item) in
    subst (λ (k : ℕ). new ≡ c.args.out.now.items ++ flat_map text (take k (zip late writers))) (sym (length_push yielded (c.in-Some.pair, c.in-Some.writer)))
    (texts_more text (zip late writers) (length yielded) ((0, 0), 0) c.args.out.now.items c.loop-pair.out.items new within c.loop-pair.invariant is)

pub returns : goal.returns
returns c =
    let late = c.args.found.now.late.items in
    let writers = c.args.found.now.late_by.items in
    let yielded = c.loop-pair.yielded in
    let text = late_pair c.args.jobs.now c.args.found.now in
    let end = zip_end late writers yielded c.into_iter-pair-iterator.result c.loop-pair.pair-iterator c.next.new.self c.next.result (search rules) (search rules)
    c.loop-pair.yielded_by c.in-None.is c.next.ensures.steps in
    let all : length (zip late writers) ≤ length yielded = omega (arith, length-zip late writers, end) in
    c.loop-pair.invariant ∙ ap (λ (some : List ((ℕ × ℕ) × ℕ)). c.args.out.now.items ++ flat_map text some) (take_all (length yielded) (zip late writers) all)
