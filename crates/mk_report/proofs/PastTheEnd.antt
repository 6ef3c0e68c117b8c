-- Numbers that are no nodes.
use Rattle.std.proofs.Common.{ℕ, ◌≡◌, ◌≤◌, false, [], arith, length, refl, sym, ap, subst}
use Rattle.std.specs.List.{list_any}
use Rattle.std.proofs.lemmas.Bool.{false_from_ne_true}
use Rattle.std.proofs.lemmas.Option.{slice_get_past}
use Rattle.mk_path.specs.declared.path.Path.{Path}
use Rattle.mk_path.specs.Paths.{is_over}
use Rattle.mk_jobs.specs.Jobs.{Jobs, is_phony, maker_of, name_of, node_count, writes_of}
use Rattle.mk_jobs.specs.Shape.{IsWellFormed}
use Rattle.mk_jobs.specs.declared.maker.Maker.TheVariants.{Nothing}
use Rattle.mk_jobs.proofs.JobsLemmas.{live_node, writer_live}
use Rattle.mk_missing.specs.Watching.{makes_own}
use Rattle.mk_report.specs.ReportText.{writes_whole}

-- what is no node has no name
pub no_name : (jobs : Jobs) (n : ℕ) → node_count jobs ≤ n → name_of jobs n ≡ []
unfolding node_count name_of
no_name jobs n past = rw (slice_get_past jobs.plan.nodes n past, name_of) refl

-- it is not phony
pub not_phony : (jobs : Jobs) (n : ℕ) → node_count jobs ≤ n → is_phony jobs n ≡ false
unfolding node_count is_phony
not_phony jobs n past = rw (slice_get_past jobs.plan.nodes n past, is_phony) refl

-- nothing makes it
pub no_maker : (jobs : Jobs) (n : ℕ) → node_count jobs ≤ n → maker_of jobs n ≡ Nothing
unfolding node_count maker_of
no_maker jobs n past = rw (slice_get_past jobs.plan.nodes n past, maker_of) refl

-- it writes nothing
no_path : (jobs : Jobs) (n : ℕ) → length jobs.writes ≤ n → writes_of jobs n ≡ []
unfolding writes_of
no_path jobs n past = rw (slice_get_past jobs.writes n past) refl

pub nothing_whole : (jobs : Jobs) (n : ℕ) (path : Path) → IsWellFormed jobs → node_count jobs ≤ n → writes_whole jobs n path ≡ false
nothing_whole jobs n path shape past =
    ap (λ paths. list_any (λ written. is_over jobs.root written path) paths) (no_path jobs n (subst (λ k. k ≤ n) (sym shape.all_writes) past))

-- it makes no file
pub no_file : (jobs : Jobs) (n : ℕ) → node_count jobs ≤ n → makes_own jobs n ≡ false
no_file jobs n past = false_from_ne_true (makes_own jobs n) (λ makes. let inside = live_node jobs n (writer_live jobs n (name_of jobs n) makes) in omega arith)
