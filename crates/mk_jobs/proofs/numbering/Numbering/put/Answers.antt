use Rattle.std.proofs.Common.{◌∙◌, sym, ap, [], ◌∷◌, length, arith}
use Rattle.mk_name.specs.Names.{kept, same_name}
use Rattle.mk_name.proofs.Names.{name_is_exact, kept_old, kept_new}
use Rattle.indexmap.specs.IndexSet.{insert_key}
use Rattle.mk_jobs.proofs.Numberings.{number_has, number_some, absent_from, put_last, name_last}
use Rattle.mk_jobs.specs.Numbered.{name_at, number_of}
use Rattle.mk_jobs.proofs.numbering.Numbering.put.Goals as goal

pub returns-in-Some-clause-kept : goal.returns-in-Some-clause-kept
returns-in-Some-clause-kept c = sym (kept_old same_name name_is_exact c.args.self.now c.args.name.now [] (number_has c.args.self.now c.args.name.now c.in-Some.number (sym c.number.ensures ∙ c.in-Some.is)))

pub returns-in-Some-clause-name : goal.returns-in-Some-clause-name
returns-in-Some-clause-name c = (number_some c.args.self.now c.args.name.now c.in-Some.number (sym c.number.ensures ∙ c.in-Some.is)).1

pub returns-clause-kept : goal.returns-clause-kept
returns-clause-kept c =
    let absent = absent_from c.self.inside.names.keys c.args.name.now c.number.result (c.number.ensures ∙ ap (λ ns. number_of ns c.args.name.now) (sym c.self.view_is)) c.in_default.not-Some in
    put_last c.self.inside.names.keys c.insert.new.self.keys c.args.name.now absent (c.in_ok-insert.ensures.keys ∙ ap (insert_key same_name c.self.inside.names.keys) c.in_ok-copy.ensures)
    ∙ sym (kept_new same_name name_is_exact c.self.inside.names.keys c.args.name.now [] absent)
    ∙ ap (λ ns. kept same_name ns (c.args.name.now ∷ [])) c.self.view_is

pub returns-clause-within : goal.returns-clause-within
returns-clause-within c =
    let absent = absent_from c.self.inside.names.keys c.args.name.now c.number.result (c.number.ensures ∙ ap (λ ns. number_of ns c.args.name.now) (sym c.self.view_is)) c.in_default.not-Some in
    let last = name_last c.self.inside.names.keys c.insert.new.self.keys c.args.name.now
    (put_last c.self.inside.names.keys c.insert.new.self.keys c.args.name.now absent (c.in_ok-insert.ensures.keys ∙ ap (insert_key same_name c.self.inside.names.keys) c.in_ok-copy.ensures)) in
    omega (arith, last.0, c.count-number.ensures.count, ap length c.self.view_is)

pub returns-clause-name : goal.returns-clause-name
returns-clause-name c =
    let absent = absent_from c.self.inside.names.keys c.args.name.now c.number.result (c.number.ensures ∙ ap (λ ns. number_of ns c.args.name.now) (sym c.self.view_is)) c.in_default.not-Some in
    let last = name_last c.self.inside.names.keys c.insert.new.self.keys c.args.name.now
    (put_last c.self.inside.names.keys c.insert.new.self.keys c.args.name.now absent (c.in_ok-insert.ensures.keys ∙ ap (insert_key same_name c.self.inside.names.keys) c.in_ok-copy.ensures)) in
    ap (λ n. name_at c.insert.new.self.keys n) (c.count-number.ensures.count ∙ ap length (sym c.self.view_is)) ∙ last.1
