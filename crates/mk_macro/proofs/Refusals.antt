-- Why references are refused.
use Rattle.std.proofs.Common.{◌≡◌, ℕ, ◌<◌, Bool, false, List, [], ◌∷◌, Some, None, map, refl, sym, ◌∙◌, ap, arith}
use Rattle.std.specs.Prelude.{nat_le, if◌then◌else◌, ◌||◌}
use Rattle.std.specs.List.{list_any}
use Rattle.mk_name.specs.Names.{Name, has, same_name}
use Rattle.mk_name.specs.declared.fault.Kind.TheVariants.{MacroLoop}
use Rattle.mk_macro.specs.declared.open.Open.{Open}
use Rattle.mk_macro.specs.Expansion.{is_internal, macro_fault, reference_limit, refusal}

any_name : (opens : List Open) (name : Name) → list_any (λ o. same_name o.name.now name) opens ≡ has same_name (map (λ o. o.name.now) opens) name
any_name [] name = refl
any_name (o ∷ opens) name = ap (λ b. same_name o.name.now name || b) (any_name opens name)

-- a reference that is neither internal nor one too many
pub refusal_is : (opens : List Open) (count : ℕ) (name : Name) (busy : Bool) → is_internal name ≡ false → count < reference_limit → busy ≡ list_any (λ o. same_name o.name.now name) opens
    → refusal (map (λ o. o.name.now) opens) count name ≡ (if busy then Some (macro_fault MacroLoop (name ∷ [])) else None)
refusal_is opens count name busy internal few is =
    let within : nat_le reference_limit count ≡ false = grind arith in
    let same = sym (is ∙ any_name opens name) in
    rw (internal, within, same) refl
