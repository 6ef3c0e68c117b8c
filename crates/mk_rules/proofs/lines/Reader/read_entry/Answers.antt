use Rattle.mk_rules.proofs.LineLeads.{entry_ends, entry_leads}
use Rattle.mk_rules.proofs.lines.Reader.read_entry.Goals as goal

pub returns-in_ok-push-in-Ok : goal.returns-in_ok-push-in-Ok
returns-in_ok-push-in-Ok c =
    entry_leads c.args.placed.now c.args.so_far.now.rules.items c.args.so_far.now.taken c.args.macros.now c.args.self.now.root.now c.args.parts.now c.in-Ok.rule c.push.new.self.items
    c.in_ok-push-in-Ok.ensures.items c.in-Ok.ensures

pub returns-in-Err : goal.returns-in-Err
returns-in-Err c =
    entry_ends c.args.placed.now c.args.so_far.now.rules.items c.args.so_far.now.taken c.args.macros.now c.args.self.now.root.now c.args.parts.now c.in-Err.halt c.reports.result c.reports.ensures c.in-Err.ensures
