use Rattle.std.proofs.Common.{◌∷◌, [], sym, subst}
use Rattle.std.specs.List.Sorted.{IsStrictlySortedBy}
use Rattle.mk_path.specs.declared.path.Path.{Path}
use Rattle.mk_path.specs.Paths.{path_cmp}
use Rattle.mk_report.proofs.verb.is_over.Goals as goal

-- one path rises
one_rises : (p : Path) → IsStrictlySortedBy path_cmp (p ∷ [])
unfolding IsStrictlySortedBy
one_rises p = (tt, tt)

pub is_covered-requires : goal.is_covered-requires
is_covered-requires c = subst (IsStrictlySortedBy path_cmp) (sym c.from_ref.ensures.value) (one_rises c.args.upper.now)
