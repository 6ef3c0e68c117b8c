use Rattle.std.proofs.Common.{arith}
use Rattle.mk_path.proofs.Between.{IsMiss, has_not, no_bound, none_longer}
use Rattle.mk_path.proofs.Leaps.{left_before_near, left_place, none_past}
use Rattle.mk_path.proofs.covering.miss_at.Goals as goal

pub returns-then-place-eq0-clause-bound : goal.returns-then-place-eq0-clause-bound
returns-then-place-eq0-clause-bound c =
    let paths = c.args.paths.now in
    let name = c.args.name.now in
    let place = c.args.place in
    let miss : IsMiss paths name place = record { within = c.requires.within; before = c.requires.before; after = c.requires.after } in
    λ k more within. has_not paths _ (none_longer paths c.requires.rise name place miss 0 (no_bound paths name place 0 c.if-place-eq0.true) k more within)

pub returns-then-place-eq0-clause-left : goal.returns-then-place-eq0-clause-left
returns-then-place-eq0-clause-left c =
    let miss : IsMiss c.args.paths.now c.args.name.now 0 =
    record { within = omega arith; before = λ j below. absurd (omega (arith, below)); after = λ j more below. c.requires.after j (omega arith) below } in
    λ k within. left_place c.args.paths.now c.args.name.now 0 k miss

pub returns-then-most-near-clause-bound : goal.returns-then-most-near-clause-bound
returns-then-most-near-clause-bound c =
    let miss : IsMiss c.args.paths.now c.args.name.now c.args.place = record { within = c.requires.within; before = c.requires.before; after = c.requires.after } in
    none_past c.args.paths.now c.args.name.now c.args.place c.common-most.result c.as_bytes-near.result.now c.index-paths-place.result miss (omega arith)
    c.as_bytes-near.ensures c.common-most.ensures.longest c.requires.rise

pub returns-then-most-near-clause-left : goal.returns-then-most-near-clause-left
returns-then-most-near-clause-left c =
    let miss : IsMiss c.args.paths.now c.args.name.now c.args.place = record { within = c.requires.within; before = c.requires.before; after = c.requires.after } in
    left_before_near c.args.paths.now c.args.name.now c.args.place c.common-most.result c.as_bytes-near.result.now c.index-paths-place.result miss (omega arith)
    c.as_bytes-near.ensures c.common-most.ensures.longest c.if-most-near.true

pub returns-else-most-near-clause-bound : goal.returns-else-most-near-clause-bound
returns-else-most-near-clause-bound c =
    let miss : IsMiss c.args.paths.now c.args.name.now c.args.place = record { within = c.requires.within; before = c.requires.before; after = c.requires.after } in
    none_past c.args.paths.now c.args.name.now c.args.place c.common-most.result c.as_bytes-near.result.now c.index-paths-place.result miss (omega arith)
    c.as_bytes-near.ensures c.common-most.ensures.longest c.requires.rise

pub returns-else-most-near-clause-left : goal.returns-else-most-near-clause-left
returns-else-most-near-clause-left c =
    let miss : IsMiss c.args.paths.now c.args.name.now c.args.place = record { within = c.requires.within; before = c.requires.before; after = c.requires.after } in
    λ k within. left_place c.args.paths.now c.args.name.now c.args.place k miss
