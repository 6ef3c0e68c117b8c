use Rattle.std.proofs.Common.{map}
use Rattle.mk_foot.proofs.AttachNodes.{AreLeft, RowsTo}
use Rattle.mk_foot.proofs.attaching.rows_of.Given as goal

-- the nodes so far have their rows, and the footprints of the others are left
abbrev pub invariant-loop-n : goal.invariant-loop-n
invariant-loop-n l =
    RowsTo l.plan (map (λ name. name.now) l.owned) l.initial.footprints l.n (map (λ row. row.items) l.reads.items) (map (λ row. row.items) l.writes.items)
    × AreLeft l.plan l.initial.footprints l.footprints l.n
