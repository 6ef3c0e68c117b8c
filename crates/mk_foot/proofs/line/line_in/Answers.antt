use Rattle.std.proofs.Common.{Vec, codes, option_map, sym, ap, ◌∙◌}
use Rattle.std.specs.Global.{Global}
use Rattle.mk_json.specs.Documents.{data_of}
use Rattle.mk_path.specs.declared.path.Path.{Path}
use Rattle.mk_foot.proofs.Named.{under_named}
use Rattle.mk_foot.proofs.line.line_in.Goals as goal

pub invariant_of-result : goal.invariant_of-result
invariant_of-result c = (
  under_named c.args.root.now (codes "reads") (data_of c.args.object.now) _ (sym c.in_ok-reads.ensures ∙ ap (option_map (λ (list : Vec Path Global). list.items)) c.in-Some-2.is),
  under_named c.args.root.now (codes "writes") (data_of c.args.object.now) _ (sym c.in_ok-writes.ensures ∙ ap (option_map (λ (list : Vec Path Global). list.items)) c.in-Some-3.is),
)
