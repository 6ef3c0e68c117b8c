use Rattle.std.proofs.Common.{subst, sym}
use Rattle.std.specs.List.Sorted.{IsStrictlySortedBy}
use Rattle.mk_path.specs.Paths.{path_cmp}
use Rattle.mk_cert.proofs.OnPaths.{one_rises}
use Rattle.mk_cert.proofs.clash.is_over.Goals as goal

pub is_covered-requires : goal.is_covered-requires
is_covered-requires c = subst (IsStrictlySortedBy path_cmp) (sym c.from_ref.ensures.value) (one_rises c.args.q.now)
