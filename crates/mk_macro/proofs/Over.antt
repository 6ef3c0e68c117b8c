-- A text over the limit stays over it where it is longer.
use Rattle.std.proofs.Common.{◌≡◌, ℕ, ◌+◌, ◌≤◌, List, ◌++◌, length, length-append, Result, Ok, Err, sym, ap, subst, arith}
use Rattle.std.specs.Result.{IsErrAnd}
use Rattle.std.proofs.lemmas.Result.{err_from_is_err_and}
use Rattle.std.specs.Prelude.{IfErr, OnOk}
use Rattle.mk_name.specs.declared.fault.Halt.{Halt}
use Rattle.mk_name.specs.declared.fault.Halt.TheVariants as halts
use Rattle.mk_macro.specs.Limits.{IsOver}

pub over_longer : (halt : Halt) (limit a b : ℕ) → IsOver halt limit a → a ≤ b → IsOver halt limit b
over_longer halts.Memory limit a b over h = tt
over_longer (halts.Fault fault) limit a b over h = (over.0, omega (arith, over.1, h))

pub over_result : {X : Type 0} (result : Result X Halt) (limit a b : ℕ) → IfErr result (λ halt. IsOver halt limit a) → a ≤ b → IfErr result (λ halt. IsOver halt limit b)
over_result (Ok x) limit a b over h = over
over_result (Err halt) limit a b over h = over_longer halt limit a b over h

-- the same where a `?` passes the answer on
pub over_left : {X : Type 0} (result : Result X Halt) (halt : Halt) (limit a b : ℕ) → IsErrAnd result (λ y. y ≡ halt) → IsOver halt limit a → a ≤ b → IfErr result (λ h. IsOver h limit b)
over_left result halt limit a b same over le =
    let p = err_from_is_err_and result same in
    rw (p.1) (over_longer p.0 limit a b (subst (λ (h : Halt). IsOver h limit a) (sym p.2) over) le)

-- what is so of an `Ok`, with what follows from it
pub ok_more : {X E P Q : Type 0} (result : Result X E) → OnOk result P → (P → Q) → OnOk result Q
ok_more (Ok x) p k = k p
ok_more (Err e) p k = p

pub ok_both : {X E P Q R : Type 0} (result : Result X E) → OnOk result P → OnOk result Q → (P → Q → R) → OnOk result R
ok_both (Ok x) p q k = k p q
ok_both (Err e) p q k = p

-- the same of an `Err`
pub err_more : {X E : Type 0} {P Q : E → Type 0} (result : Result X E) → IfErr result P → ((e : E) → P e → Q e) → IfErr result Q
err_more (Ok x) p k = p
err_more (Err e) p k = k e p

-- the same, whatever follows
pub over_later : {X : Type 0} (result : Result X Halt) (halt : Halt) (limit a : ℕ) (size : List ℕ → ℕ) → IsErrAnd result (λ y. y ≡ halt) → IsOver halt limit a → ((later : List ℕ) → a ≤ size later)
    → IfErr result (λ h. (later : List ℕ) → IsOver h limit (size later))
over_later result halt limit a size same over le =
    let p = err_from_is_err_and result same in
    rw (p.1) (λ later. over_longer p.0 limit a (size later) (subst (λ (h : Halt). IsOver h limit a) (sym p.2) over) (le later))

-- how long a part of a text is at most
pub long_word : (out rest done whole word blank others : List ℕ) → out ++ rest ≡ done ++ whole → rest ≡ word ++ blank ++ others → length out + length word ≤ length done + length whole
long_word out rest done whole word blank others e r =
    omega (arith, ap length e, ap length r, length-append out rest, length-append done whole, length-append (word ++ blank) others, length-append word blank)

pub long_blank : (out next rest done whole word blank others : List ℕ) → out ++ rest ≡ done ++ whole → rest ≡ word ++ blank ++ others → next ≡ out ++ word → length next + length blank ≤ length done + length whole
long_blank out next rest done whole word blank others e r n =
    omega (arith, ap length e, ap length r, ap length n, length-append out word, length-append out rest, length-append done whole, length-append (word ++ blank) others, length-append word blank)

pub long_rest : (out rest done whole word : List ℕ) → out ++ rest ≡ done ++ whole → rest ≡ word → length out + length word ≤ length done + length whole
long_rest out rest done whole word e r =
    omega (arith, ap length e, ap length r, length-append out rest, length-append done whole)
