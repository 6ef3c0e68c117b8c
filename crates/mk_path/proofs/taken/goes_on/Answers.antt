use Rattle.std.proofs.Common.{◌&&◌, length, drop, sym, ap, ◌∙◌}
use Rattle.mk_path.proofs.RangeTests.{goes_on_cut}
use Rattle.mk_path.proofs.taken.goes_on.Goals as goal
use Rattle.mk_text.specs.Spelling.{is_absolute}

pub returns-in-Some : goal.returns-in-Some
returns-in-Some c =
    let x = c.args.text.now in
    let t = c.args.start.now in
    c.is_absolute.ensures ∙ ap is_absolute c.in-Some.ensures.cases.1
    ∙ sym (goes_on_cut t x ∙ ap (λ b. b && is_absolute (drop (length t) x)) c.in-Some.ensures.cases.0)

pub returns-in-None : goal.returns-in-None
returns-in-None c =
    let x = c.args.text.now in
    let t = c.args.start.now in
    sym (goes_on_cut t x ∙ ap (λ b. b && is_absolute (drop (length t) x)) c.in-None.ensures.cases)
