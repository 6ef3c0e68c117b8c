use Rattle.std.proofs.Common.{◌∙◌, List, [], ◌∷◌, ◌++◌, Option, sym, ap, subst, arith, refl, reverse}
use Rattle.mk_macro.specs.Busy.{busy_names}
use Rattle.mk_macro.specs.Expansion.{IsExpansion, refusal}
use Rattle.mk_macro.specs.Layer.{OutputHolds, Text}
use Rattle.mk_macro.specs.Macros.{macros_of}
use Rattle.mk_macro.specs.Reference.{Change}
use Rattle.mk_macro.specs.References.{items_of}
use Rattle.mk_macro.specs.Runs.{items_in}
use Rattle.mk_macro.proofs.Steps.{begins}
use Rattle.mk_macro.proofs.Walked.{broken_fails, closed_on, closed_over, plain_on, plain_over, referred_in, referred_on, referred_over, refusal_answer, refused_fails}
use Rattle.mk_macro.proofs.Work.{work, work_push}
use Rattle.mk_macro.proofs.macros.Macros.expand_items.Goals as goal

pub items-init : goal.items-init
items-init c = (rw c.new-opens.ensures.items (begins (macros_of c.args.self.now) c.args.text.now c.new-out.result c.new-out.ensures), tt)

pub returns-in_err-close : goal.returns-in_err-close
returns-in_err-close c =
    closed_over c.items.opens.items c.pop.new.self.items c.in-Some-pop.open c.in-Some-pop.ensures.items c.in_default.ensures.items c.items.invariant.0
    c.from_residual-in_err-close.result _ c.from_residual-in_err-close.ensures.1 c.in_err-close.ensures.over

pub items-preserved-in_default : goal.items-preserved-in_default
items-preserved-in_default c = (
  closed_on c.items.opens.items c.pop.new.self.items c.in-Some-pop.open c.in-Some-pop.ensures.items c.in_default.ensures.items c.items.invariant.0 c.close.new.self c.in_ok-close.ensures.closed,
  c.items.invariant.1,
)

pub items-smaller-in_default : goal.items-smaller-in_default
items-smaller-in_default c =
    let pushed = work_push c.pop.new.self.items c.in-Some-pop.open in
    let was = ap work c.in-Some-pop.ensures.items in
    omega (arith, pushed, was)

pub returns-in-Broken : goal.returns-in-Broken
returns-in-Broken c =
    rw c.unnamed.ensures
    (broken_fails (reverse c.items.opens.items) c.items.invariant.0 (items_of c.in-Some.behind.now)
    (c.in-Some.ensures.items ∙ ap (λ x. items_in x ++ items_of c.in-Some.behind.now) c.in-Broken.is))

pub items-preserved-in_ok-push-in-Plain : goal.items-preserved-in_ok-push-in-Plain
items-preserved-in_ok-push-in-Plain c = (
  plain_on (reverse c.items.opens.items) c.items.invariant.0 c.in-Plain.bytes.now c.in-Some.behind.now c.push.new.self
      (c.in-Some.ensures.items ∙ ap (λ x. items_in x ++ items_of c.in-Some.behind.now) c.in-Plain.is) c.in_ok-push-in-Plain.ensures.put,
  c.items.invariant.1,
)

pub returns-in_err-push-in-Plain : goal.returns-in_err-push-in-Plain
returns-in_err-push-in-Plain c =
    plain_over (reverse c.items.opens.items) c.items.invariant.0 c.from_residual-in_err-push-in-Plain.result _ c.in-Plain.bytes.now c.in-Some.behind.now
    (c.in-Some.ensures.items ∙ ap (λ x. items_in x ++ items_of c.in-Some.behind.now) c.in-Plain.is) c.from_residual-in_err-push-in-Plain.ensures.1 c.in_err-push-in-Plain.ensures.over

pub returns-in_err-refuse-in-Refers : goal.returns-in_err-refuse-in-Refers
returns-in_err-refuse-in-Refers c =
    let name = c.in-Refers.reference.name in
    let same =
    ap (λ os. refusal (busy_names os) c.items.count name) (sym c.deref.ensures.value)
    ∙ ap (λ n. refusal (busy_names c.deref.result.now) c.items.count n) (sym c.name-name.ensures) in
    refusal_answer (IsExpansion (macros_of c.args.self.now) c.args.text.now) c.from_residual-in_err-refuse-in-Refers.result _ _ c.from_residual-in_err-refuse-in-Refers.ensures.1 c.in_err-refuse-in-Refers.ensures.refused
    (λ f is. refused_fails (reverse c.items.opens.items) c.items.invariant.0 c.in-Refers.reference c.in-Some.behind.now
    (c.in-Some.ensures.items ∙ ap (λ x. items_in x ++ items_of c.in-Some.behind.now) c.in-Refers.is) f (same ∙ is))

pub returns-in_err-value-in-Refers : goal.returns-in_err-value-in-Refers
returns-in_err-value-in-Refers c =
    let name = c.in-Refers.reference.name in
    let same =
    ap (λ os. refusal (busy_names os) c.items.count name) (sym c.deref.ensures.value)
    ∙ ap (λ n. refusal (busy_names c.deref.result.now) c.items.count n) (sym c.name-name.ensures) in
    let found = c.recalled-found.ensures.definition ∙ ap (macros_of c.args.self.now) (c.recalled-found.ensures.name ∙ c.name-name.ensures) in
    referred_over (reverse c.items.opens.items) c.items.invariant.0 c.in-Refers.reference c.in-Some.behind.now
    (c.in-Some.ensures.items ∙ ap (λ x. items_in x ++ items_of c.in-Some.behind.now) c.in-Refers.is) (same ∙ c.in_ok-refuse-in-Refers.ensures.allowed)
    c.from_residual-in_err-value-in-Refers.result _ c.from_residual-in_err-value-in-Refers.ensures.1 (rw (found) at c.in_err-value-in-Refers.ensures.over)

pub items-preserved : goal.items-preserved
items-preserved c =
    let name = c.in-Refers.reference.name in
    let same =
    ap (λ os. refusal (busy_names os) c.items.count name) (sym c.deref.ensures.value)
    ∙ ap (λ n. refusal (busy_names c.deref.result.now) c.items.count n) (sym c.name-name.ensures) in
    let found = c.recalled-found.ensures.definition ∙ ap (macros_of c.args.self.now) (c.recalled-found.ensures.name ∙ c.name-name.ensures) in (
      referred_on (reverse c.items.opens.items) c.items.invariant.0 c.in-Refers.reference c.in-Some.behind.now
          (c.in-Some.ensures.items ∙ ap (λ x. items_in x ++ items_of c.in-Some.behind.now) c.in-Refers.is) (same ∙ c.in_ok-refuse-in-Refers.ensures.allowed) c.refer.new.out
          (rw (c.in_default-value.is, found) at c.in_ok-value-in-Refers.ensures.referred),
      c.recalled-found.ensures.definition,
    )

pub items-preserved-in-Some-value : goal.items-preserved-in-Some-value
items-preserved-in-Some-value c =
    let name = c.in-Refers.reference.name in
    let opened = subst (λ (change : Option Change). (t : Text) (ts : List Text) → OutputHolds c.refer.new.out t ts → OutputHolds c.open.new.self (record { change = change; own = [] }) (t ∷ ts)) c.into_change.ensures c.in_ok-open-in-Refers.ensures.opened in
    let same =
    ap (λ os. refusal (busy_names os) c.items.count name) (sym c.deref.ensures.value)
    ∙ ap (λ n. refusal (busy_names c.deref.result.now) c.items.count n) (sym c.name-name.ensures) in
    let found = c.recalled-found.ensures.definition ∙ ap (macros_of c.args.self.now) (c.recalled-found.ensures.name ∙ c.name-name.ensures) in (
      referred_in (reverse c.items.opens.items) c.items.invariant.0 c.in-Refers.reference c.in-Some.behind.now
          (c.in-Some.ensures.items ∙ ap (λ x. items_in x ++ items_of c.in-Some.behind.now) c.in-Refers.is) (same ∙ c.in_ok-refuse-in-Refers.ensures.allowed) c.in-Some-value.value.now c.refer.new.out c.open.new.self (record { name = c.name-name.result; rest = c.in-Some.behind })
          c.name-name.ensures refl opened c.items.opens.items _ refl c.in_ok-push-in-Refers.ensures.items (rw (c.in-Some-value.is, found) at c.in_ok-value-in-Refers.ensures.referred),
      c.recalled-found.ensures.definition,
    )

pub items-smaller-in-Some-value : goal.items-smaller-in-Some-value
items-smaller-in-Some-value c =
    let pushed = work_push c.items.opens.items (record { name = c.name-name.result; rest = c.in-Some.behind }) in
    let was = ap work c.in_ok-push-in-Refers.ensures.items in
    let few = c.in_ok-refuse-in-Refers.ensures.below in
    let less = c.in-Some.ensures.shorter in
    let short = rw c.in-Some-value.is at c.in_ok-value-in-Refers.ensures.short in
    omega (arith, pushed, was, few, less, short)
