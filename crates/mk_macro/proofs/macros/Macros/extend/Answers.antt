use Rattle.std.proofs.Common.{◌∙◌, sym, ap}
use Rattle.std.specs.Option.{option_copied_mut}
use Rattle.mk_macro.proofs.Table.{extended, extended_none, kept}
use Rattle.mk_macro.proofs.macros.Macros.extend.Goals as goal
use Rattle.mk_macro.proofs.macros.Macros.extend.Goals.{in-Some, in-None}

pub returns-clause-extended : goal.returns-clause-extended
returns-clause-extended c =
    elim c.match-get_mut.branch [
      | in-Some w ↦ rw (w.result-is, w.self-inside-is)
          (extended w.extend.result c.self.inside.table (c.get_mut.follows.lender w.extend.new.self) c.args.name.now c.args.text.now w.in-Some.definition.now w.extend.new.self c.args.self.now
          w.extend.ensures.extended (sym c.get_mut.ensures.value ∙ ap option_copied_mut w.in-Some.is) (c.get_mut.follows.holds w.extend.new.self) c.self.view_is)
      | in-None w ↦ rw (w.result-is, w.self-inside-is)
          (extended_none c.self.inside.table c.get_mut.follows.lender-at-none c.args.name.now c.args.text.now c.args.self.now
          (sym c.get_mut.ensures.value ∙ ap option_copied_mut w.in-None.is) (ap (λ t. t.entries) c.get_mut.follows.holds-at-none) c.self.view_is)
    ]

pub returns-clause-unchanged : goal.returns-clause-unchanged
returns-clause-unchanged c =
    elim c.match-get_mut.branch [
      | in-Some w ↦ rw (w.result-is, w.self-inside-is)
          (kept w.extend.result c.self.inside.table (c.get_mut.follows.lender w.extend.new.self) c.args.name.now w.in-Some.definition.now w.extend.new.self c.args.self.now
          w.extend.ensures.unchanged (sym c.get_mut.ensures.value ∙ ap option_copied_mut w.in-Some.is) (c.get_mut.follows.holds w.extend.new.self) c.self.view_is)
      | in-None w ↦ rw (w.result-is) tt
    ]
