use Rattle.std.proofs.Common.{◌∙◌, sym, ap, [], ◌∷◌, ◌++◌}
use Rattle.mk_name.specs.Names.{kept, same_name}
use Rattle.mk_name.proofs.Names.{name_is_exact, kept_old, kept_new}
use Rattle.mk_jobs.proofs.Numberings.{number_has, absent_from}
use Rattle.mk_jobs.specs.Numbered.{number_of}
use Rattle.mk_task.proofs.Numbering.{numbered_push}
use Rattle.mk_task.proofs.labels.Labels.put.Goals as goal

pub returns-in-Some-clause-kept : goal.returns-in-Some-clause-kept
returns-in-Some-clause-kept c = sym (kept_old same_name name_is_exact c.args.self.now c.args.name.now [] (number_has c.args.self.now c.args.name.now c.in-Some._number (sym c.number.ensures ∙ c.in-Some.is)))

pub invariant_of-self-2 : goal.invariant_of-self-2
invariant_of-self-2 c =
    numbered_push c.self.inside.numbers c.insert.new.self c.self.inside.names.items c.push.new.self.items c.args.name.now c.in_ok-own.own c.in_ok-key.key c.len-number.result
    c.self.invariant
    (absent_from c.self.inside.names.items c.args.name.now c.number.result (c.number.ensures ∙ ap (λ ns. number_of ns c.args.name.now) (sym c.self.view_is)) c.in_default.not-Some)
    c.in_ok-own.ensures
    c.in_ok-key.ensures
    (c.len-number.ensures ∙ c.self.inside.names.ok.0)
    (c.in_ok-push.ensures.items ∙ ap (λ ns. ns ++ c.in_ok-own.own ∷ []) c.reserve.ensures.items)
    c.in_ok-insert.ensures.updates.0

pub returns-clause-kept : goal.returns-clause-kept
returns-clause-kept c =
    let absent = absent_from c.self.inside.names.items c.args.name.now c.number.result (c.number.ensures ∙ ap (λ ns. number_of ns c.args.name.now) (sym c.self.view_is)) c.in_default.not-Some in
    c.in_ok-push.ensures.items ∙ ap (λ ns. ns ++ c.in_ok-own.own ∷ []) c.reserve.ensures.items ∙ ap (λ z. c.self.inside.names.items ++ z ∷ []) c.in_ok-own.ensures
    ∙ sym (kept_new same_name name_is_exact c.self.inside.names.items c.args.name.now [] absent)
    ∙ ap (λ ns. kept same_name ns (c.args.name.now ∷ [])) c.self.view_is
