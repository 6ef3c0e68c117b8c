use Rattle.std.proofs.Common.{ap}
use Rattle.mk_race.specs.Stages.{Texts}
use Rattle.mk_race.proofs.fixing.prepare_with.Goals as goal

pub returns : goal.returns
returns c = λ texts lines from.
    c.prepare_read.ensures (record texts { makefile = c.args.makefile.now }) lines (record {
      texts_are = ap (λ (t : Texts). record t { makefile = c.args.makefile.now }) from.texts_are;
      listing = from.listing;
      footprints = from.footprints;
    })
