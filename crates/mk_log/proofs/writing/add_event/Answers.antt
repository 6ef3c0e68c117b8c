use Rattle.std.proofs.Common.{◌≡◌, ◌++◌, List, ap, refl, ◌∙◌}
use Rattle.json.specs.Token.{Token}
use Rattle.mk_log.specs.Gained.{tokens_of}
use Rattle.mk_log.specs.Objects.{event_object}
use Rattle.mk_log.specs.declared.entry.Entry.TheVariants.{Happens}
use Rattle.mk_log.proofs.Kept.{event_kept, line_back, value_back}
use Rattle.mk_log.proofs.Lines.{one_added}
use Rattle.mk_log.proofs.Spelling.{event_spelled}
use Rattle.mk_log.proofs.writing.add_event.Goals as goal

pub returns-clause-adds : goal.returns-clause-adds
returns-clause-adds c =
    let jobs = c.args.jobs.now in
    let event = c.args.event.now in
    let says = c.in_ok-write_event.ensures in
    let end = c.end_line.ensures in
    let line = c.write_event.new.line in
    let object = event_object jobs event in
    let same : line.tokens ≡ tokens_of object = says.object.more ∙ ap (λ (ts : List Token). ts ++ tokens_of object) c.in_ok-line.ensures.tokens in
    one_added jobs (Happens event) object _ _ refl (line_back object line.tokens _ _ same c.in_ok-end_line.ensures.line)
    says.is_text (event_spelled jobs event says.sized says.number (value_back object line.tokens same (event_kept jobs event says.sized) end.reads_back end.utf8))
