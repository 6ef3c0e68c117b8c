use Rattle.mk_path.proofs.ByComponents.{by_components}
use Rattle.mk_path.proofs.laws.covers_by_components.Goals as goal

pub returns : goal.returns
returns c = by_components
