use Rattle.std.proofs.Common.{◌++◌, ◌∷◌, [], sym, ap, ◌∙◌}
use Rattle.mk_lines.specs.LogicalLines.{logical_lines}
use Rattle.mk_include.specs.Includes.{texts_of}
use Rattle.mk_include.proofs.TextTable.{text_added, text_kept}
use Rattle.mk_include.proofs.includes.Includes.add.Goals as goal

pub returns-then-contains_key : goal.returns-then-contains_key
returns-then-contains_key c =
    let cut = logical_lines c.args.text.now in
    ap texts_of (sym c.self.view_is)
    ∙ text_kept c.self.inside.table c.args.name cut (sym c.contains_key.ensures ∙ c.if-contains_key.true)
    ∙ ap (λ es. texts_of (es ++ (c.args.name, cut) ∷ [])) c.self.view_is

pub returns : goal.returns
returns c =
    let cut = logical_lines c.args.text.now in
    text_added c.self.inside.table c.insert.new.self c.args.name c.in_ok-cut.cut (sym c.contains_key.ensures ∙ c.if-contains_key.false) c.in_ok-insert.ensures.updates
    ∙ ap (λ x. texts_of (c.self.inside.table.entries ++ (c.args.name, x) ∷ [])) c.in_ok-cut.ensures
    ∙ ap (λ es. texts_of (es ++ (c.args.name, cut) ∷ [])) c.self.view_is
