use Rattle.std.proofs.Common.{◌≡◌, ◌∙◌, sym, ap, rules}
use Rattle.std.specs.BTreeMap.Entry.{map_with_value, entry_value, entry_map_ref}
use Rattle.mk_macro.specs.Macros.{macros_of}
use Rattle.mk_macro.proofs.Table.{may_stay, put_at, shown, stays_at}
use Rattle.mk_macro.proofs.macros.Macros.define_unless_given.Goals as goal
use Rattle.mk_macro.proofs.macros.Macros.define_unless_given.Goals.{in-Vacant, in-Occupied+then-not-is_given, in-Occupied+else-not-is_given}

pub returns-clause-defined : goal.returns-clause-defined
returns-clause-defined c =
    let e = c.in_ok-entry.field-0 in
    let d = c.args.definition in
    let es = c.args.self.now in
    let put = put_at c.self.inside.table (map_with_value e d) c.in_ok-key.key.items c.args.name.now (entry_value e) d es (c.in_ok-entry.ensures.update.0 d) c.in_ok-key.ensures.items c.self.view_is (sym c.in_ok-entry.ensures.value) in
    let stays = stays_at c.self.inside.table (entry_map_ref e).now c.in_ok-key.key.items c.args.name.now (entry_value e) d es c.in_ok-entry.ensures.unchanged c.in_ok-key.ensures.items c.self.view_is (sym c.in_ok-entry.ensures.value) in
    elim c.match-branch-3.branch [
      | in-Vacant w ↦
          let last : c.match-branch-3.self-inside.table ≡ map_with_value e d = search rules in
          ap (λ t. macros_of (shown t.entries)) last ∙ put (ap may_stay (c.in_ok-entry.ensures.value ∙ (rw w.in-Vacant.is at c.in_ok-entry.ensures.found)))
      | in-Occupied+then-not-is_given w ↦
          let last : c.match-branch-3.self-inside.table ≡ map_with_value e d = search rules in
          ap (λ t. macros_of (shown t.entries)) last
          ∙ put (ap (λ e. may_stay (entry_value e)) w.in-Occupied.is ∙ ap may_stay w.get.ensures ∙ sym w.is_given.ensures ∙ w.if-not-is_given.true)
      | in-Occupied+else-not-is_given w ↦
          let last : c.match-branch-3.self-inside.table ≡ (entry_map_ref e).now = search rules in
          ap (λ t. macros_of (shown t.entries)) last
          ∙ stays (ap (λ e. may_stay (entry_value e)) w.in-Occupied.is ∙ ap may_stay w.get.ensures ∙ sym w.is_given.ensures ∙ w.if-not-is_given.false)
    ]
