use Rattle.std.proofs.Common.{◌≡◌, ◌∙◌, Some, sym}
use Rattle.mk_due.specs.Lines.{line_of}
use Rattle.mk_due.proofs.Keys.{line_named}
use Rattle.mk_due.proofs.reading.add_text.Goals as goal

pub add-requires-clause-named : goal.add-requires-clause-named
add-requires-clause-named c =
    let read : line_of c.args.root.now c.args.text.now ≡ Some c.in-Some.line = sym c.in_ok-line.ensures ∙ c.in-Some.is in
    line_named c.args.root.now c.args.text.now c.in-Some.line read
