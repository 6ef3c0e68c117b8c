use Rattle.std.proofs.Common.{Bool, ◌≡◌, true, false, refl, subst}
use Rattle.std.proofs.lemmas.Str.{IsUtf8-from_is_utf8, is_utf8-from_IsUtf8}
use Rattle.std.specs.Str.{IsUtf8, is_utf8}
use Rattle.mk_name.specs.Names.{Name}
use Rattle.mk_log.proofs.object.text_of.Goals as goal

refused : (name : Name) (b : Bool) → is_utf8 name ≡ b → (IsUtf8 name → ⊥) → b ≡ false
refused name true is none = absurd (none (IsUtf8-from_is_utf8 name is))
refused name false is none = refl

pub returns-in-Ok-clause-is_text : goal.returns-in-Ok-clause-is_text
returns-in-Ok-clause-is_text c = is_utf8-from_IsUtf8 c.args.name.now (subst IsUtf8 c.as_bytes.ensures c.in-Ok.ensures.cases.1)

pub returns-in-Err-clause-not_text : goal.returns-in-Err-clause-not_text
returns-in-Err-clause-not_text c = refused c.args.name.now _ refl (subst (λ bytes. IsUtf8 bytes → ⊥) c.as_bytes.ensures c.in-Err.ensures.cases.0)
