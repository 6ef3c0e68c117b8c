use Rattle.std.proofs.Common.{◌≡◌, ℕ, List, subst, sym}
use Rattle.mk_fix.specs.Added.{with_edges}
use Rattle.mk_fix.specs.Fixes.{IsFix}
use Rattle.mk_fix.proofs.Fixing.{to_live}
use Rattle.mk_report.specs.FixText.{IsTaskLines}
use Rattle.mk_race.proofs.FixedTasks.{made_is, new_safe}
use Rattle.mk_race.proofs.tasks_fixing.fix_jobs.Goals as goal

pub with_edges-requires : goal.with_edges-requires
with_edges-requires c = to_live (subst (IsFix c.args.jobs.now) (sym c.deref.ensures.value) c.in_ok-edges.ensures.fix)

pub returns : goal.returns
returns c =
    let jobs = c.args.jobs.now in
    let edges = c.in_ok-edges.edges.items in
    let added : c.in-Some.new ≡ with_edges jobs edges =
    subst (λ (es : List (ℕ × ℕ)). c.in-Some.new ≡ with_edges jobs es) c.deref.ensures.value
    (made_is jobs c.in-Some.new c.deref.result.now c.in_ok-new.field-0 c.in-Some.is c.in_ok-new.ensures) in
    record {
      edges = edges;
      fix = c.in_ok-edges.ensures.fix;
      says = subst (λ (es : List (ℕ × ℕ)). IsTaskLines jobs es c.in_ok-lines.lines.items) c.deref-2.ensures.value c.in_ok-lines.ensures;
      added = added;
      safe = new_safe jobs c.in-Some.new edges c.in_ok-edges.ensures.fix c.in_ok-edges.ensures.few added;
    }
