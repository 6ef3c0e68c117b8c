-- What holds of a result that is passed on.
use Rattle.std.proofs.Common.{Result, Ok, Err, IfErr, IfOk, OnOk}

-- two facts of a value give a third
pub both_ok : {X E : Type 0} (P Q R : X → Type 0) (r : Result X E) → ((x : X) → P x → Q x → R x) → IfOk r P → IfOk r Q → IfOk r R
both_ok P Q R (Ok x) more p q = more x p q
both_ok P Q R (Err e) more p q = tt

-- a fact of an error gives another
pub err_more : {X E : Type 0} (P Q : E → Type 0) (r : Result X E) → ((e : E) → P e → Q e) → IfErr r P → IfErr r Q
err_more P Q (Ok x) more p = tt
err_more P Q (Err e) more p = more e p

-- what holds where there is a value gives more
pub ok_more : {X E : Type 0} (P Q : Type 0) (r : Result X E) → (P → Q) → OnOk r P → OnOk r Q
ok_more P Q (Ok x) more p = more p
ok_more P Q (Err e) more p = tt

-- a fact that holds where there is a value, and one of the value, give another
pub with_fact : {X E : Type 0} (P Q : X → Type 0) (R : Type 0) (r : Result X E) → ((x : X) → R → P x → Q x) → OnOk r R → IfOk r P → IfOk r Q
with_fact P Q R (Ok x) more f p = more x f p
with_fact P Q R (Err e) more f p = tt

pub always_ok : {X E : Type 0} (P : Type 0) (r : Result X E) → P → OnOk r P
always_ok P (Ok x) p = p
always_ok P (Err e) p = tt
