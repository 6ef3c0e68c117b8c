use Rattle.std.proofs.Common.{◌≡◌, ◌+◌, ◌-◌, arith, rules, sym, subst, option_map}
use Rattle.mk_macro.specs.Layer.{Layer, Passes}
use Rattle.mk_macro.proofs.Layers.{all_short, front_fewer, relays_one}
use Rattle.mk_macro.proofs.output.relay.Goals as goal

pub layers-preserved : goal.layers-preserved
layers-preserved c =
    let place = c.layers.place in
    let is : place ≡ (place - 1) + 1 = omega arith in
    let came = option_map (λ v. v.items) c.layers.flow in
    let next = option_map (λ v. v.items) c.in_ok-flow.flow in
    let passes = subst (λ (l : Layer). Passes l came c.pass.new.self next) (sym c.index-layers-place.is) c.in_ok-flow.ensures.passes in
    record {
      inside = search rules;
      front = front_fewer c.args.layers.now c.layers.layers place (place - 1) is c.layers.invariant.inside c.layers.invariant.front c.pass.new.self;
      relays = relays_one c.args.layers.now c.layers.layers place (place - 1) is c.layers.invariant.inside c.layers.invariant.front _ came next c.index-layers-place.result c.pass.new.self c.index-layers-place.is passes c.layers.invariant.relays;
      short = all_short c.layers.layers place (place - 1) is c.layers.invariant.inside c.pass.new.self c.in_ok-flow.ensures.short c.layers.invariant.short;
    }
