use Rattle.std.proofs.Common.{sym}
use Rattle.std.proofs.lemmas.Result.{IfOk-weaker}
use Rattle.mk_graph.proofs.Tables.{least_common, least_looked, least_no_rule, places_within}
use Rattle.mk_graph.proofs.inference.source_place.Goals as goal

pub returns-in_default : goal.returns-in_default
returns-in_default c =
    least_no_rule c.args.book.now c.args.listing.now c.args.index.now.rules c.args.stem.now c.args.old.now c.requires.index.rules c.requires.old (sym c.in_default.ensures.value)

pub first_there-requires : goal.first_there-requires
first_there-requires c p h =
    places_within c.args.book.now c.args.listing.now c.args.index.now.rules c.args.stem.now c.args.old.now c.requires.index.rules c.requires.old c.in-Some.rules.now p (sym c.in-Some.ensures.value) h

pub returns-in-None : goal.returns-in-None
returns-in-None c =
    IfOk-weaker c.first_there.result _ _
    (λ found h. least_looked c.args.book.now c.args.listing.now c.args.index.now.rules c.args.stem.now c.args.old.now c.requires.index.rules c.requires.old c.in-Some.rules.now found (sym c.in-Some.ensures.value) h)
    c.first_there.ensures

pub returns-in-Some-get : goal.returns-in-Some-get
returns-in-Some-get c =
    least_common c.args.book.now c.args.listing.now c.args.index.now.rules c.args.stem.now c.args.old.now c.requires.index.rules c.requires.old c.args.index.now.names c.requires.index.names
    c.in-Some.rules.now c.in-Some-get.there.now c.first_common.result (sym c.in-Some.ensures.value) (sym c.in-Some-get.ensures.value) c.first_common.ensures
