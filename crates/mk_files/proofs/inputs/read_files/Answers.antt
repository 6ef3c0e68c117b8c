use Rattle.std.proofs.Common.{inl, inr, ◌∙◌, sym, ◌≡◌, []}
use Rattle.std.proofs.lemmas.List.{nil_from_length}
use Rattle.std.proofs.lemmas.Result.{err_from_is_err_and}
use Rattle.std.specs.Vec.Iter.{into_iter_items}
use Rattle.mk_files.proofs.Reading.{all_read, all_worked, next_works, none_read, one_read, unread_first}
use Rattle.mk_files.proofs.inputs.read_files.Goals as goal

pub loop-file-init : goal.loop-file-init
loop-file-init g c = (tt, tt, none_read _ _ _ _ _ _ c.requires c.into_iter-file-iterator.ensures.into_iter_gives.0 c.new-texts.ensures.items)

pub returns-in_err-text-clause-failure : goal.returns-in_err-text-clause-failure
returns-in_err-text-clause-failure g c =
    let p = err_from_is_err_and c.from_residual.result c.from_residual.ensures.1 in
    rw (p.1, p.2) (elim c.in_err-text.ensures.cannot [
      | inl memory ↦ inl memory
      | inr read ↦ inr (_, read.0, unread_first _ _ _ _ _ _ _ c.in-Some.file c.loop-file.invariant.2 c.in-Some.ensures.steps.0 read.1)
    ])

pub loop-file-preserved : goal.loop-file-preserved
loop-file-preserved g c = (
  tt,
  tt,
  one_read _ _ _ _ _ _ _ _ c.in-Some.file c.in_ok-text.text c.loop-file.invariant.2 c.in-Some.ensures.steps.0
      c.in_ok-text.ensures.input c.in_ok-text.ensures.text c.in_ok-text.ensures.can c.in_ok-push.ensures.items,
)

pub returns-clause-named : goal.returns-clause-named
returns-clause-named g c =
    let none : into_iter_items c.loop-file.file-iterator ≡ [] = nil_from_length _ (sym c.loop-file.file-iterator.rest.ok.0 ∙ c.in-None.ensures.steps.0) in
    all_read _ _ _ _ _ _ c.loop-file.invariant.2 none

pub returns-clause-read : goal.returns-clause-read
returns-clause-read g c =
    let none : into_iter_items c.loop-file.file-iterator ≡ [] = nil_from_length _ (sym c.loop-file.file-iterator.rest.ok.0 ∙ c.in-None.ensures.steps.0) in
    all_worked _ _ _ _ _ _ c.loop-file.invariant.2 none

pub returns-clause-reported : goal.returns-clause-reported
returns-clause-reported g c = λ want holds. (c.loop-file.invariant.2.reported want holds).1

pub input_text-requires : goal.input_text-requires
input_text-requires g c = next_works _ _ _ _ _ _ _ c.in-Some.file c.loop-file.invariant.2 c.in-Some.ensures.steps.0
