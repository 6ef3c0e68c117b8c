use Rattle.std.proofs.Common.{ℕ, ◌∙◌, List, ◌++◌, ap}
use Rattle.mk_jobs.specs.Jobs.{is_listed, is_phony, maker_of, name_of}
use Rattle.mk_fix.proofs.added.node_with.Goals as goal

pub returns : goal.returns
unfolding is_listed is_phony maker_of name_of
returns c = λ i. record {
  name = (c.in_ok-copy.ensures ∙ c.name.ensures.name) i;
  prerequisites = (c.in_ok-extend_from_slice.ensures.items ∙ ap (λ (numbers : List ℕ). numbers ++ c.args.sources.now) (c.in_ok-prerequisites.ensures.items ∙ c.prerequisites.ensures)) i;
  maker = c.maker.ensures i;
  phony = c.is_phony.ensures i;
  listed = c.is_listed.ensures i;
}
