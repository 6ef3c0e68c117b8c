use Rattle.std.proofs.Common.{List, ℕ, Ok, sym, subst}
use Rattle.mk_macro.specs.Expansion.{IsExpansion}
use Rattle.mk_macro.specs.Macros.{macros_of}
use Rattle.mk_macro.proofs.Walked.{plain_answer}
use Rattle.mk_macro.proofs.macros.Macros.expand_plain.Goals as goal

pub returns : goal.returns
returns c =
    subst (λ (text : List ℕ). IsExpansion (macros_of c.args.self.now) c.args.text.now (Ok text)) (sym c.in_ok-from_slice.ensures.items)
    (plain_answer (macros_of c.args.self.now) c.args.text.now c.requires.short c.requires.plain)
