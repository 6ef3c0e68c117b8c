use Rattle.std.proofs.Common.{◌∙◌, ◌++◌, [], Some, ap, sym, subst, arith, reverse, option_map}
use Rattle.std.proofs.lemmas.List.{with_items_is}
use Rattle.mk_macro.specs.Layer.{Relays}
use Rattle.mk_macro.proofs.Layers.{after, after_none, after_some, settled_parts}
use Rattle.mk_macro.proofs.output.Output.settle.Goals as goal

pub returns-in_ok-extend_from_slice-clause-same : goal.returns-in_ok-extend_from_slice-clause-same
returns-in_ok-extend_from_slice-clause-same c =
    let out = option_map (λ v. v.items) c.in_ok-flow.field-0 in
    let done = c.self.inside.done.items in
    let some = ap (option_map (λ v. v.items)) c.in-Some.is in
    let relays = subst (λ layers. Relays (reverse layers) (Some []) (reverse c.relay.new.layers) out) c.deref_mut.ensures.value c.in_ok-flow.ensures.relays in
    settled_parts _ _ 0 _ c.relay.new.layers out _ c.self.view_is
    (c.in_ok-extend_from_slice.ensures.items ∙ ap (λ xs. done ++ xs) c.deref.ensures.value ∙ after_some done c.in-Some.flow.items ∙ ap (after done) (sym some))
    (with_items_is c.self.inside.outer c.relay.new.layers (omega arith)) relays

pub returns-in_default-clause-same : goal.returns-in_default-clause-same
returns-in_default-clause-same c =
    let out = option_map (λ v. v.items) c.in_ok-flow.field-0 in
    let done = c.self.inside.done.items in
    let none = ap (option_map (λ v. v.items)) c.in_default.is in
    let relays = subst (λ layers. Relays (reverse layers) (Some []) (reverse c.relay.new.layers) out) c.deref_mut.ensures.value c.in_ok-flow.ensures.relays in
    settled_parts _ _ 0 _ c.relay.new.layers out _ c.self.view_is
    (after_none done ∙ ap (after done) (sym none))
    (with_items_is c.self.inside.outer c.relay.new.layers (omega arith)) relays
