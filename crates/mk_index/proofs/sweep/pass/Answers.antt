use Rattle.std.proofs.Common.{◌≡◌, ◌+◌, map, reverse, sym, ap, subst, ◌∙◌, arith}
use Rattle.std.proofs.lemmas.List.{length-map}
use Rattle.mk_name.specs.Names.{Name}
use Rattle.mk_path.specs.declared.path.Path.{Path}
use Rattle.mk_index.specs.declared.sweep.Open.{Open}
use Rattle.mk_path.specs.Paths.{path_at}
use Rattle.mk_index.specs.Nearest.{FindsTree, IsInner}
use Rattle.mk_index.specs.Sweep.{IsStackAt, KeepsBegins}
use Rattle.mk_path.proofs.Numbering.{behind, behind_at}
use Rattle.mk_index.proofs.Sweeping.{pushed, stack_of_file, stack_of_tree}
use Rattle.mk_index.proofs.sweep.pass.Goals as goal

pub returns-in_ok-push-clause-inner : goal.returns-in_ok-push-clause-inner
returns-in_ok-push-clause-inner c =
    let paths = map behind c.args.paths.now in
    let is : c.index-paths-t.result.now ≡ path_at paths c.args.t = ap behind c.index-paths-t.is ∙ sym (behind_at c.args.paths.now c.args.t c.index-paths-t.result c.requires.within) in
    let name = c.as_bytes-name.ensures ∙ ap (λ (p : Path). p.name) is in
    λ root. subst (λ (x : Name). FindsTree root paths (IsInner x) c.inner_of-inner.result) name (c.inner_of-inner.ensures root)

pub returns-in_ok-push-clause-stack : goal.returns-in_ok-push-clause-stack
returns-in_ok-push-clause-stack c =
    let paths = map behind c.args.paths.now in
    let t = c.args.t in
    let inner = c.inner_of-inner.result in
    let stack = c.close.new.stack.items in
    let is : c.index-paths-t.result.now ≡ path_at paths t = ap behind c.index-paths-t.is ∙ sym (behind_at c.args.paths.now t c.index-paths-t.result c.requires.within) in
    let name = c.as_bytes-name.ensures ∙ ap (λ (p : Path). p.name) is in
    let top : Open = record { tree = t; inner = inner } in
    subst (IsStackAt paths (t + 1)) (sym (pushed stack c.push.new.self.items top c.in_ok-push.ensures.items))
    (stack_of_tree paths c.requires.paths.rise t inner (reverse stack) (omega (arith, c.requires.within, length-map c.args.paths.now behind))
    (ap (λ (p : Path). p.tree) (sym is) ∙ c.if-path.true) c.close.ensures.are
    (subst (λ (x : Name). KeepsBegins paths x (reverse stack)) name c.close.ensures.begins)
    (λ root. subst (λ (x : Name). FindsTree root paths (IsInner x) inner) name (c.inner_of-inner.ensures root)))

pub returns-else-path-clause-inner : goal.returns-else-path-clause-inner
returns-else-path-clause-inner c =
    let paths = map behind c.args.paths.now in
    let is : c.index-paths-t.result.now ≡ path_at paths c.args.t = ap behind c.index-paths-t.is ∙ sym (behind_at c.args.paths.now c.args.t c.index-paths-t.result c.requires.within) in
    let name = c.as_bytes-name.ensures ∙ ap (λ (p : Path). p.name) is in
    λ root. subst (λ (x : Name). FindsTree root paths (IsInner x) c.inner_of-inner.result) name (c.inner_of-inner.ensures root)

pub returns-else-path-clause-stack : goal.returns-else-path-clause-stack
returns-else-path-clause-stack c =
    let paths = map behind c.args.paths.now in
    let t = c.args.t in
    let stack = c.close.new.stack.items in
    let is : c.index-paths-t.result.now ≡ path_at paths t = ap behind c.index-paths-t.is ∙ sym (behind_at c.args.paths.now t c.index-paths-t.result c.requires.within) in
    let name = c.as_bytes-name.ensures ∙ ap (λ (p : Path). p.name) is in
    stack_of_file paths c.requires.paths.rise t (reverse stack) (ap (λ (p : Path). p.tree) (sym is) ∙ c.if-path.false) c.close.ensures.are
    (subst (λ (x : Name). KeepsBegins paths x (reverse stack)) name c.close.ensures.begins)
