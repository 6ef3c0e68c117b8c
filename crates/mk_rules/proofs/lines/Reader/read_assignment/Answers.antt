use Rattle.std.proofs.Common.{Ok, ap, subst}
use Rattle.mk_lines.specs.LogicalLine.{LogicalLine}
use Rattle.mk_macro.specs.Assignments.{IsAssignment}
use Rattle.mk_macro.specs.Macros.{macros_of}
use Rattle.mk_rules.proofs.LineLeads.{assignment_leads}
use Rattle.mk_rules.proofs.lines.Reader.read_assignment.Goals as goal

pub returns-in-Ok-clause-leads : goal.returns-in-Ok-clause-leads
returns-in-Ok-clause-leads c =
    assignment_leads c.args.placed.now c.args.so_far.now.rules.items c.args.so_far.now.taken c.args.macros.now c.assign.new.self
    (subst (λ (line : LogicalLine). IsAssignment (macros_of c.args.macros.now) line (Ok (macros_of c.assign.new.self))) (ap (λ q. q.line) c.placed.view_is) c.in-Ok.ensures.answer)
