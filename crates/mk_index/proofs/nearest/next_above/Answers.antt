use Rattle.std.proofs.Common.{ℕ, List, map, reverse, subst, sym}
use Rattle.mk_name.specs.Names.{Name}
use Rattle.mk_index.specs.Nearest.{AreNearest, FindsTree, IsOverText}
use Rattle.mk_index.specs.declared.sweep.Open.{Open}
use Rattle.mk_index.specs.Sweep.{IsStackAt}
use Rattle.mk_path.proofs.Numbering.{behind}
use Rattle.mk_index.proofs.Finding.{nearest_more, nearest_none}
use Rattle.mk_index.proofs.Sweeping.{stack_of_first}
use Rattle.mk_index.proofs.nearest.next_above.Goals as goal

pub loop-t-init : goal.loop-t-init
loop-t-init c =
    let root = c.args.root.now in
    let paths = map behind c.args.paths.now in
    record {
      nearest = subst (λ (next : List ℕ). AreNearest root paths 0 next) (sym c.in_ok-next.ensures.items) (nearest_none root paths);
      stack = subst (λ (stack : List Open). IsStackAt paths 0 (reverse stack)) (sym c.new-stack.ensures.items) (stack_of_first paths c.requires.rise);
    }

pub loop-t-preserved : goal.loop-t-preserved
loop-t-preserved c =
    let root = c.args.root.now in
    let paths = map behind c.args.paths.now in
    let outside = subst (λ (top : Name). FindsTree root paths (IsOverText top) c.over_text-outside.result) c.top.ensures (c.over_text-outside.ensures root) in
    record {
      nearest = nearest_more root paths c.loop-t.t c.next_of.result c.loop-t.next.items c.push.new.self.items c.loop-t.invariant.nearest
          (c.next_of.ensures root outside (c.in_ok-inner.ensures.inner root)) c.in_ok-push.ensures.items;
      stack = c.in_ok-inner.ensures.stack;
    }
