use Rattle.std.proofs.Common.{◌≡◌, ◌<◌, ◌-◌, length, get_or, map, reverse, take, sym, subst, ◌∙◌}
use Rattle.std.proofs.lemmas.Bool.{both_ways}
use Rattle.mk_name.specs.Names.{Name}
use Rattle.mk_index.specs.Sweep.{AreOpen, BeginsWithTop, KeepsBegins, name_of}
use Rattle.mk_path.proofs.Numbering.{behind}
use Rattle.mk_index.proofs.Sweeping.{behind_name, inner_further, inner_top}
use Rattle.mk_index.proofs.sweep.inner_of.Goals as goal

pub returns-then-has_slash : goal.returns-then-has_slash
returns-then-has_slash c =
    let paths = map behind c.args.paths.now in
    let stack = c.args.stack.now in
    let name = c.args.name.now in
    let top = c.in_ok-top.top in
    let is = c.in_ok-top.ensures.some in
    let are = subst (AreOpen paths) is c.requires.are in
    let begin : c.as_bytes-begin.result.now ≡ name_of paths top = c.as_bytes-begin.ensures ∙ sym (behind_name c.args.paths.now top c.index-paths-top.result are.0.0) in
    λ root. inner_top paths root name top (reverse (take (length stack - 1) stack)) are (subst (KeepsBegins paths name) is c.requires.begins)
    (subst (BeginsWithTop paths name) is c.requires.top)
    (subst (λ (z : Name). (0 < length z) × (length z < length name) × (get_or name (length z) 0 ≡ 47)) begin (c.has_slash.ensures.0 c.if-has_slash.true))

pub returns-else-has_slash : goal.returns-else-has_slash
returns-else-has_slash c =
    let paths = map behind c.args.paths.now in
    let stack = c.args.stack.now in
    let name = c.args.name.now in
    let top = c.in_ok-top.top in
    let is = c.in_ok-top.ensures.some in
    let are = subst (AreOpen paths) is c.requires.are in
    let begin : c.as_bytes-begin.result.now ≡ name_of paths top = c.as_bytes-begin.ensures ∙ sym (behind_name c.args.paths.now top c.index-paths-top.result are.0.0) in
    λ root. inner_further paths root name top (reverse (take (length stack - 1) stack)) are (subst (KeepsBegins paths name) is c.requires.begins)
    (subst (BeginsWithTop paths name) is c.requires.top)
    (λ at. both_ways _ c.if-has_slash.false
    (c.has_slash.ensures.1 (subst (λ (z : Name). (0 < length z) × (length z < length name) × (get_or name (length z) 0 ≡ 47)) (sym begin) at)))
