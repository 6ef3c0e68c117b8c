use Rattle.std.proofs.Common.{All, ◌∙◌, ◌<◌, length, subst, sym}
use Rattle.mk_rules.proofs.Indexes.{places_of-within}
use Rattle.mk_graph.specs.Looked.{Looked}
use Rattle.mk_graph.proofs.Sources.{no_rules}
use Rattle.mk_graph.proofs.inference.inferred_source.Goals as goal

pub returns-then-is_empty : goal.returns-then-is_empty
returns-then-is_empty c =
    no_rules c.args.book.now c.args.listing.now c.args.index.now.rules c.args.name.now c.requires.index.rules (c.is_empty.ensures.0 c.if-is_empty.true)

pub has_recipe-requires : goal.has_recipe-requires
has_recipe-requires c =
    subst (λ (l : Looked). All (λ p. p < length c.args.book.now.rules) l.rules) (sym (c.looked.view_is ∙ c.requires.looked)) (places_of-within c.args.book.now.rules c.args.name.now)
