use Rattle.std.proofs.Common.{Bool, List, ℕ, Ok, subst}
use Rattle.std.proofs.lemmas.Result.{err_from_is_err_and}
use Rattle.mk_macro.specs.Macros.{macros_of}
use Rattle.mk_name.specs.Gives.{HaltsAmong, Gives}
use Rattle.mk_rules.specs.Book.{Entry}
use Rattle.mk_rules.specs.Entries.{PartSays, checked_entry, entry_of}
use Rattle.mk_rules.proofs.EntryAnswers.{entry_answers, prerequisites_stop, targets_stop}
use Rattle.mk_rules.proofs.entry.read_entry.Goals as goal

pub returns-in_err-targets : goal.returns-in_err-targets
returns-in_err-targets c =
    let p = err_from_is_err_and c.from_residual.result c.from_residual.ensures.1 in
    let Stops : List ℕ → Type 0 = λ l. HaltsAmong c.in_err-targets.field-0.0 (PartSays c.args.root.now (macros_of c.args.macros.now) l) in
    rw (p.1, p.2) (targets_stop c.args.root.now (macros_of c.args.macros.now) c.args.placed.now c.args.parts.now c.in_err-targets.field-0.0 (subst Stops c.targets.ensures c.in_err-targets.ensures))

pub returns-in_err-prerequisites : goal.returns-in_err-prerequisites
returns-in_err-prerequisites c =
    let p = err_from_is_err_and c.from_residual-in_err-prerequisites.result c.from_residual-in_err-prerequisites.ensures.1 in
    let Left : List ℕ → Type 0 = λ l. PartSays c.args.root.now (macros_of c.args.macros.now) l (Ok c.in_ok-targets.targets.items) in
    let Right : List ℕ → Type 0 = λ l. HaltsAmong c.in_err-prerequisites.field-0.0 (PartSays c.args.root.now (macros_of c.args.macros.now) l) in
    rw (p.1, p.2) (prerequisites_stop c.args.root.now (macros_of c.args.macros.now) c.args.placed.now c.args.parts.now c.in_ok-targets.targets.items
    (subst Left c.targets.ensures c.in_ok-targets.ensures) c.in_err-prerequisites.field-0.0 (subst Right c.prerequisites.ensures c.in_err-prerequisites.ensures))

pub returns : goal.returns
returns c =
    let Left : List ℕ → Type 0 = λ l. PartSays c.args.root.now (macros_of c.args.macros.now) l (Ok c.in_ok-targets.targets.items) in
    let Right : List ℕ → Type 0 = λ l. PartSays c.args.root.now (macros_of c.args.macros.now) l (Ok c.in_ok-prerequisites.prerequisites.items) in
    let Checks : Entry → Type 0 = λ e. Gives c.checked_entry.result (checked_entry e) in
    let Entries : Bool → Type 0 = λ b. Gives c.checked_entry.result (checked_entry (entry_of c.args.placed.now b c.in_ok-targets.targets.items c.in_ok-prerequisites.prerequisites.items)) in
    entry_answers c.args.root.now (macros_of c.args.macros.now) c.args.placed.now c.args.parts.now c.in_ok-targets.targets.items (subst Left c.targets.ensures c.in_ok-targets.ensures)
    c.in_ok-prerequisites.prerequisites.items (subst Right c.prerequisites.ensures c.in_ok-prerequisites.ensures) c.checked_entry.result (subst Entries c.has_command.ensures (subst Checks c.in_ok-rule.ensures c.checked_entry.ensures))
