use Rattle.std.proofs.Common.{◌≡◌, ◌+◌, None, Some, List, ℕ, ap, map, subst, ◌∙◌}
use Rattle.mk_text.specs.Listing.{lines}
use Rattle.mk_log.specs.Reading.{IsLogOf, entries_of, first_fault, reported}
use Rattle.mk_log.proofs.ReadLines.{bad_first, by_nodes, goes_on, reads_all, text_is, text_past, text_within}
use Rattle.mk_log.proofs.reading.read_log.Goals as goal

pub returns-then-not-branch : goal.returns-then-not-branch
returns-then-not-branch c =
    let items = c.deref-text-items.result.now in
    let jobs = c.args.jobs.now in
    let root = c.args.root.now in
    let texts : List (List ℕ) = map (λ line. line.now) items in
    let all : texts ≡ lines c.args.text.now = ap (map (λ line. line.now)) c.deref-text-items.ensures.value ∙ c.in_ok-lines.ensures in
    let adds = by_nodes jobs root c.loop-number.nodes c.loop-number.log c.add_line.new.log _ c.in_ok-add_line.field-0
    c.loop-number.invariant.0 c.in_ok-add_line.ensures.adds in
    rw c.fault.ensures (subst (λ (ts : List (List ℕ)). first_fault jobs root ts ≡ Some (reported (c.loop-number.number + 1))) all
    (bad_first jobs root texts c.loop-number.number _ (text_within items _ c.loop-number-test.true) (text_is items _ _ c.loop-number-test.true)
    c.loop-number.log c.add_line.new.log c.loop-number.invariant.1 c.in_ok-add_line.field-0 adds c.if-not-branch.true))

pub loop-number-preserved : goal.loop-number-preserved
loop-number-preserved c =
    let items = c.deref-text-items.result.now in
    let jobs = c.args.jobs.now in
    let root = c.args.root.now in
    let texts : List (List ℕ) = map (λ line. line.now) items in
    let adds = by_nodes jobs root c.loop-number.nodes c.loop-number.log c.add_line.new.log _ c.in_ok-add_line.field-0
    c.loop-number.invariant.0 c.in_ok-add_line.ensures.adds in (
      c.add_line.ensures.keeps ∙ c.loop-number.invariant.0,
      goes_on jobs root texts c.loop-number.number _ (text_within items _ c.loop-number-test.true) (text_is items _ _ c.loop-number-test.true)
          c.loop-number.log c.add_line.new.log c.loop-number.invariant.1 c.in_ok-add_line.field-0 adds c.if-not-branch.false,
    )

pub returns : goal.returns
returns c =
    let items = c.deref-text-items.result.now in
    let jobs = c.args.jobs.now in
    let root = c.args.root.now in
    let texts : List (List ℕ) = map (λ line. line.now) items in
    let all : texts ≡ lines c.args.text.now = ap (map (λ line. line.now)) c.deref-text-items.ensures.value ∙ c.in_ok-lines.ensures in
    subst (λ (ts : List (List ℕ)). (first_fault jobs root ts ≡ None) × IsLogOf (entries_of jobs root ts) c.loop-number.log) all
    (reads_all jobs root texts c.loop-number.number c.loop-number.log (text_past items _ c.loop-number-test.false) c.loop-number.invariant.1)
