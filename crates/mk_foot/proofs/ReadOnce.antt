-- A text of footprints has one answer.
use Rattle.std.proofs.Common.{◌≡◌, ℕ, List, [], ◌∷◌, Ok, Err, Option, Some, None, refl, sym, ap, ◌∙◌}
use Rattle.std.specs.Cmp.Lexicographic.{texts_ties}
use Rattle.std.specs.Map.{lookup}
use Rattle.mk_name.specs.Names.{Name, same_name}
use Rattle.mk_name.specs.Reported.{Reported}
use Rattle.mk_foot.specs.Footprints.{AreFootprints, ByTarget, Footprints, Unites, footprint_in}
use Rattle.mk_foot.specs.Lines.{FootprintLine}
use Rattle.mk_foot.specs.Once.{ReadOnce}
use Rattle.mk_foot.proofs.OneList.{one_list}

-- what stands at a target, by the test of names
by_name : (entries : ByTarget) (target : Name) → lookup (same_name target) entries ≡ footprint_in entries target
by_name [] target = refl
by_name (e ∷ entries) target = rw (texts_ties target e.0, by_name entries target) refl

united_once : (lines : List FootprintLine) (one other : ByTarget) → Unites one lines → Unites other lines → one ≡ other
united_once lines one other a b =
    one_list one other a.rising b.rising
    (λ target. by_name one target ∙ a.united target ∙ sym (by_name other target ∙ b.united target))

footprints_once : (root : List ℕ) (lines : List FootprintLine) (one other : Footprints) → AreFootprints root one lines → AreFootprints root other lines → one ≡ other
footprints_once root lines one other a b =
    let roots : one.root ≡ other.root = a.root_is ∙ sym b.root_is in
    let entries : one.by_target ≡ other.by_target = united_once lines one.by_target other.by_target a.unites b.unites in
    λ i. record { root = roots i; by_target = entries i }

no_fault : {A : Type 0} (o : Option Reported) (reported : Reported) → o ≡ None → o ≡ Some reported → A
no_fault o reported none some = absurd (cc (sym none ∙ some))

pub read_once : ReadOnce
read_once root text (Ok one) (Ok other) a b = ap Ok (footprints_once root _ one other a.1 b.1)
read_once root text (Ok one) (Err reported) a b = no_fault _ reported a.0 b
read_once root text (Err reported) (Ok other) a b = no_fault _ reported b.0 a
read_once root text (Err reported) (Err other) a b = let same : Some reported ≡ Some other = sym a ∙ b in cc
