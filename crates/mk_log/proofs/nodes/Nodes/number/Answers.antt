use Rattle.std.proofs.Common.{All, ap, length, subst, sym, ◌∙◌}
use Rattle.std.proofs.lemmas.List.Elements.{All-append, All-drop, All-take}
use Rattle.mk_log.specs.Nodes.{Build, IsSo, node_named}
use Rattle.mk_log.proofs.nodes.Nodes.number.Goals as goal

pub invariant_of-self : goal.invariant_of-self
invariant_of-self c =
    let build : Build = record { jobs = c.self.inside.jobs.now; root = c.self.inside.root.now } in
    let items = c.self.inside.lately.items in
    let new = c.keep.new.slots in
    let answer = c.in_ok-node.ensures ∙ ap (node_named build) (sym (c.in_ok-text.ensures.items ∙ c.as_bytes-3.ensures.value)) in
    let kept : All (IsSo build) new = c.keep.ensures build (subst (All (IsSo build)) (sym c.deref_mut.ensures.value) c.self.invariant) answer in
    All-take (IsSo build) c.self.inside.lately.len _ (All-append (IsSo build) new _ kept (All-drop (IsSo build) (length new) items c.self.invariant))
