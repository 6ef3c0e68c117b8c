use Rattle.mk_proof.proofs.ReadLines.{no_steps_yet}
use Rattle.mk_proof.proofs.draft.Draft.add_path.Goals as goal

pub new-trace-requires : goal.new-trace-requires
new-trace-requires c =
    let found = rw c.in-Some.is at c.in_ok-path.ensures in
    no_steps_yet c.args.first c.args.second c.in-Some.path.items c.new.result.items c.new-2.result.items c.requires found.0 c.new.ensures.items c.new-2.ensures.items
