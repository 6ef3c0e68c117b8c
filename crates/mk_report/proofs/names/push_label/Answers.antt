use Rattle.std.proofs.Common.{rules}
use Rattle.mk_report.specs.ReportText.{label_text}
use Rattle.mk_report.proofs.names.push_label.Goals as goal

pub returns : goal.returns
unfolding label_text
returns c = search rules
