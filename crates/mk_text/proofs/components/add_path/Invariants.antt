use Rattle.std.proofs.Common.{◌≡◌, map, fold}
use Rattle.mk_text.specs.Spelling.{one_more}
use Rattle.mk_text.proofs.components.add_path.Given as goal

-- what was cut off so far is put at the end
abbrev pub invariant-loop-part : goal.invariant-loop-part
invariant-loop-part l = map (λ x. x.now) l.parts.items ≡ fold one_more (map (λ x. x.now) l.fn.parts.items) (map (λ x. x.now) l.yielded)
