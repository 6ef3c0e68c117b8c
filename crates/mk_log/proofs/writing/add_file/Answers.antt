use Rattle.std.proofs.Common.{◌≡◌, ◌++◌, List, true, ◌&&◌, ap, refl, ◌∙◌}
use Rattle.json.specs.Token.{Token}
use Rattle.mk_log.specs.Gained.{tokens_of}
use Rattle.mk_log.specs.Objects.{file_object}
use Rattle.mk_log.specs.Spelled.{file_entry}
use Rattle.mk_log.proofs.Kept.{file_kept, line_back, value_back}
use Rattle.mk_log.proofs.Lines.{one_added}
use Rattle.mk_log.proofs.Spelling.{file_spelled}
use Rattle.mk_log.proofs.writing.add_file.Goals as goal

pub returns-clause-adds : goal.returns-clause-adds
returns-clause-adds c = λ jobs.
    let path = c.args.path.now in
    let file = c.args.file.now in
    let says = c.in_ok-write_file.ensures in
    let end = c.end_line.ensures in
    let line = c.write_file.new.line in
    let object = file_object path file in
    let same : line.tokens ≡ tokens_of object = says.object.more ∙ ap (λ (ts : List Token). ts ++ tokens_of object) c.in_ok-line.ensures.tokens in
    one_added jobs (file_entry (path, file)) object _ _ refl (line_back object line.tokens _ _ same c.in_ok-end_line.ensures.line)
    (ap (λ b. b && true) says.is_text)
    (file_spelled jobs path file.bytes file.time says.bytes says.time
    (value_back object line.tokens same (file_kept path file.bytes file.time says.time) end.reads_back end.utf8))
