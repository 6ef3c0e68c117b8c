use Rattle.std.proofs.Common.{map, sym, subst}
use Rattle.std.proofs.lemmas.List.{length-map}
use Rattle.mk_index.specs.Nearest.{AreNearest, AreRanks, AreWaysUp}
use Rattle.mk_index.specs.Ups.{Ups}
use Rattle.mk_path.proofs.Numbering.{behind}
use Rattle.mk_index.proofs.Climbing.{are_ranked, are_ways_up}
use Rattle.mk_index.proofs.nearest.ways_up.Goals as goal
use Rattle.mk_text.specs.Spelling.{top_of}

pub new-requires : goal.new-requires
new-requires c =
    let root = c.args.root.now in
    let paths = map behind c.args.paths.now in
    let all = sym (length-map c.args.paths.now behind) in
    let next = c.in_ok-next.next.items in
    let ranks = c.in_ok-ranks.ranks.items in
    are_ranked root paths c.requires next ranks (subst (λ n. AreNearest root paths n next) all c.in_ok-next.ensures)
    (subst (λ n. AreRanks (top_of root) paths n ranks) all c.in_ok-ranks.ensures)

pub returns-clause-ways : goal.returns-clause-ways
returns-clause-ways c =
    let root = c.args.root.now in
    let paths = map behind c.args.paths.now in
    let all = sym (length-map c.args.paths.now behind) in
    let next = c.in_ok-next.next.items in
    let ranks = c.in_ok-ranks.ranks.items in
    subst (λ (ups : Ups). AreWaysUp root paths ups) (sym c.new.ensures)
    (are_ways_up root paths c.requires next ranks (subst (λ n. AreNearest root paths n next) all c.in_ok-next.ensures)
    (subst (λ n. AreRanks (top_of root) paths n ranks) all c.in_ok-ranks.ensures))
