use Rattle.std.proofs.Common.{[], List, ℕ, Ok, map, ap, sym, subst, ◌∙◌}
use Rattle.std.specs.List.{list_all}
use Rattle.std.specs.Str.{is_utf8}
use Rattle.mk_sched.specs.Stored.{IsInOrder}
use Rattle.mk_sched.specs.declared.event.Event.{Event}
use Rattle.mk_log.specs.Logs.{Log}
use Rattle.mk_log.specs.Reading.{IsLogRead}
use Rattle.mk_log.specs.Spelled.{Adds, entries_reported, file_entry}
use Rattle.mk_log.specs.declared.entry.Entry.{Entry}
use Rattle.mk_log.specs.declared.entry.Entry.TheVariants.{Happens}
use Rattle.mk_log.proofs.Lines.{more_added}
use Rattle.mk_log.proofs.ReadOnce.{read_as}
use Rattle.mk_log.proofs.RoundTrip.{log_lines, log_names, read_back}
use Rattle.mk_log.proofs.writing.write_log.Goals as goal

-- all lines of the log are added to no text
all_added : (c : goal.In_ok-add_events) → Adds c.args.jobs.now (entries_reported c.args.log.now) [] c.add_events.new.text.items
all_added c =
    let jobs = c.args.jobs.now in
    let store = c.log.inside.store in
    let events = c.log.inside.events.items in
    let happens : Event → Entry = λ event. Happens event in
    let first = subst (λ (text : List ℕ). Adds jobs (map file_entry store) text c.add_files.new.text.items)
    c.new-text.ensures.items (c.in_ok-add_files.ensures.adds jobs) in
    let later = subst (λ (reported : List Event). Adds jobs (map happens reported) c.add_files.new.text.items c.add_events.new.text.items)
    c.as_slice.ensures.value c.in_ok-add_events.ensures.adds in
    subst (λ (log : Log). Adds jobs (entries_reported log) [] c.add_events.new.text.items) c.log.view_is
    (more_added jobs (map file_entry store) (map happens events) _ _ _ first later)

pub returns-clause-text : goal.returns-clause-text
returns-clause-text c = (all_added c).lines ∙ log_lines c.args.jobs.now c.args.log.now

pub returns-clause-is_text : goal.returns-clause-is_text
returns-clause-is_text c = sym (ap (list_all is_utf8) (log_names c.args.jobs.now c.args.log.now)) ∙ (all_added c).is_text

pub returns-clause-reads_back : goal.returns-clause-reads_back
returns-clause-reads_back c = λ root named.
    let added = all_added c in
    let jobs = c.args.jobs.now in
    let log = c.args.log.now in
    let in_order = subst (λ (l : Log). IsInOrder l.store) c.log.view_is c.in_ok-add_files.ensures.in_order in
    read_as jobs root c.add_events.new.text.items log (subst (λ (text : List ℕ). IsLogRead jobs root text (Ok log)) (sym added.lines) (read_back jobs log root added.spelled in_order named))
