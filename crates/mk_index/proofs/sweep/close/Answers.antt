use Rattle.std.proofs.Common.{◌≡◌, ◌-◌, ◌∷◌, List, length, map, reverse, take, sym, ap, subst, ◌∙◌}
use Rattle.mk_index.specs.declared.sweep.Open.{Open}
use Rattle.mk_index.specs.Sweep.{AreOpen, BeginsWithTop, KeepsBegins, name_of}
use Rattle.mk_path.proofs.Numbering.{behind}
use Rattle.mk_index.proofs.Sweeping.{begins_denied, begins_told, behind_name, closed}
use Rattle.mk_index.proofs.sweep.close.Goals as goal

pub returns-then-starts_with-clause-top : goal.returns-then-starts_with-clause-top
returns-then-starts_with-clause-top c =
    let paths = map behind c.args.paths.now in
    let name = c.args.name.now in
    let stack = c.loop-top.stack.items in
    let top = c.in-Some.top in
    let Tops : List Open → Type 0 = λ s. reverse s ≡ top ∷ reverse (take (length s - 1) s) in
    let is : reverse stack ≡ top ∷ reverse (take (length stack - 1) stack) = subst Tops c.deref.ensures.value c.in-Some.ensures.some in
    let are = subst (AreOpen paths) is c.loop-top.invariant.are in
    let begin : c.as_bytes.result.now ≡ name_of paths top = c.as_bytes.ensures ∙ sym (behind_name c.args.paths.now top c.index-paths-top.result are.0.0) in
    subst (BeginsWithTop paths name) (sym is) (begins_told name c.as_bytes.result.now (name_of paths top) c.starts_with.result c.if-starts_with.true c.starts_with.ensures.value begin)

pub loop-top-preserved : goal.loop-top-preserved
loop-top-preserved c =
    let paths = map behind c.args.paths.now in
    let name = c.args.name.now in
    let stack = c.loop-top.stack.items in
    let top = c.in-Some.top in
    let rest = reverse (take (length stack - 1) stack) in
    let Tops : List Open → Type 0 = λ s. reverse s ≡ top ∷ reverse (take (length s - 1) s) in
    let is : reverse stack ≡ top ∷ rest = subst Tops c.deref.ensures.value c.in-Some.ensures.some in
    let are = subst (AreOpen paths) is c.loop-top.invariant.are in
    let begins = subst (KeepsBegins paths name) is c.loop-top.invariant.begins in
    let begin : c.as_bytes.result.now ≡ name_of paths top = c.as_bytes.ensures ∙ sym (behind_name c.args.paths.now top c.index-paths-top.result are.0.0) in
    let left : rest ≡ reverse c.pop.new.self.items = ap (λ n. reverse (take (n - 1) stack)) (sym c.loop-top.stack.ok.0) ∙ ap reverse (sym c.pop.ensures.rest) in
    record {
      are = subst (AreOpen paths) left are.3;
      begins = subst (KeepsBegins paths name) left
          (closed paths name top rest are begins (begins_denied name c.as_bytes.result.now (name_of paths top) c.starts_with.result c.if-starts_with.false c.starts_with.ensures.value begin));
    }
