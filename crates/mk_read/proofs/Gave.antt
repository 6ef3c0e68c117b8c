-- Lemmas on what a device gave that was read to its end.
use Rattle.std.proofs.Common.{◌≡◌, ◌∙◌, ◌++◌, ℕ, List, Option, None, Some, ap, sym}
use Rattle.std.proofs.lemmas.List.{append-nil}
use Rattle.std.specs.Prelude.{IfSome}
use Rattle.mk_read.specs.Read.{GaveAll}

-- it is all that the device stated to have left
pub all_left : (old new : Option (List ℕ)) (bytes : List ℕ) → GaveAll old new bytes → IfSome old (λ held. bytes ≡ held)
all_left None new bytes all = tt
all_left (Some held) None bytes all = absurd all.gave
all_left (Some held) (Some rest) bytes all = sym (append-nil bytes) ∙ ap (λ l. bytes ++ l) (sym all.end) ∙ sym all.gave

pub all_given : (old new : Option (List ℕ)) (bytes held : List ℕ) → GaveAll old new bytes → old ≡ Some held → bytes ≡ held
all_given None new bytes held all is = absurd (let e : ◌≡◌ {A = Option (List ℕ)} None (Some held) = is in cc)
all_given (Some x) new bytes held all is =
    let e : ◌≡◌ {A = Option (List ℕ)} (Some x) (Some held) = is in
    let same : x ≡ held = cc in
    all_left (Some x) new bytes all ∙ same
