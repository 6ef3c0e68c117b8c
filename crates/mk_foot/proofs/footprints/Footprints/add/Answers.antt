use Rattle.std.proofs.Common.{◌≡◌, ◌∷◌, [], ◌++◌, ap, ◌∙◌, sym, subst}
use Rattle.std.specs.Prelude.{unwrap_or}
use Rattle.mk_foot.specs.Lines.{FootprintLine}
use Rattle.mk_foot.specs.Footprints.{AreFootprints, ByTarget, Footprint, Footprints, Unites, footprint_in, no_footprint}
use Rattle.mk_jobs.specs.Shape.{AreNamed}
use Rattle.mk_foot.proofs.Named.{more_named}
use Rattle.mk_foot.proofs.Uniting.{unites_more, with_more}
use Rattle.mk_foot.proofs.footprints.Footprints.add.Goals as goal
use Rattle.mk_foot.proofs.footprints.Footprints.add.Goals.{in-Some, in-None}

pub invariant_of-footprint-2 : goal.invariant_of-footprint-2
invariant_of-footprint-2 c = (
  subst AreNamed (sym c.in_ok-add_paths.ensures) (more_named _ _ c.footprint.invariant.0 c.line.invariant.0),
  subst AreNamed (sym c.in_ok-add_paths-2.ensures) (more_named _ _ c.footprint.invariant.1 c.line.invariant.1),
)

pub returns : goal.returns
returns c =
    let line : FootprintLine = record { target = c.line.inside.target; reads = c.line.inside.reads.items; writes = c.line.inside.writes.items } in
    let old : ByTarget = c.self.inside.by_target.entries in
    let before : Footprint = record { reads = c.footprint.inside.reads.keys; writes = c.footprint.inside.writes.keys } in
    let after : Footprint = record { reads = c.add_paths.new.paths.keys; writes = c.add_paths-2.new.paths.keys } in
    let was : unwrap_or (footprint_in old line.target) no_footprint ≡ c.match-remove.footprint =
    elim c.match-remove.branch [
      | in-Some w ↦ ap (λ o. unwrap_or o no_footprint) (sym c.remove.ensures.value ∙ w.in-Some.is) ∙ sym w.footprint-is
      | in-None w ↦
          ap (λ o. unwrap_or o no_footprint) (sym c.remove.ensures.value ∙ w.in-None.is)
          ∙ empty (sym w.new.ensures.empty) (sym w.new-in-None.ensures.empty) ∙ sym w.footprint-is
    ] in
    let reads : after.reads ≡ with_more before.reads line.reads = c.in_ok-add_paths.ensures in
    let writes : after.writes ≡ with_more before.writes line.writes = c.in_ok-add_paths-2.ensures in
    λ root lines are.
    let inside : AreFootprints root (record { root = c.self.inside.root; by_target = old }) lines = subst (λ (f : Footprints). AreFootprints root f lines) (sym c.self.view_is) are in
    record {
      root_is = inside.root_is;
      unites =
          subst (λ (l : FootprintLine). Unites c.insert.new.self.entries (lines ++ l ∷ [])) c.line.view_is
          (unites_more line lines old c.remove.new.self.entries c.insert.new.self.entries before after (was ∙ sym c.footprint.view_is) reads writes
          c.remove.ensures.updates.0 c.in_ok-insert.ensures.updates.0 c.insert.ensures.ordered inside.unites);
    }
  where
    empty : {f g : Footprint} → f.reads ≡ g.reads → f.writes ≡ g.writes → f ≡ g
    empty r w = λ i. record { reads = r i; writes = w i }
