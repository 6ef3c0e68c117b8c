use Rattle.mk_macro.proofs.Table.{table_defined_at}
use Rattle.mk_macro.proofs.macros.Macros.define.Goals as goal

pub returns : goal.returns
returns c = record {
  defined = table_defined_at c.self.inside.table c.insert.new.self c.in_ok-key.key.items c.args.name.now c.args.definition c.args.self.now c.in_ok-insert.ensures.updates c.in_ok-key.ensures.items c.self.view_is;
  unchanged = tt;
}
