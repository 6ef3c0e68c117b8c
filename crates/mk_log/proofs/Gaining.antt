-- Tokens that a line gains, one after another.
use Rattle.std.proofs.Common.{◌≡◌, List, [], ◌∷◌, ◌++◌, ap, ◌∙◌, append_assoc}
use Rattle.json.specs.Token.{Token}
use Rattle.json.specs.Written.{Written}
use Rattle.mk_log.specs.Gained.{Gains}

-- one token
pub gains_one : (old new : Written) (t : Token) → new.before ≡ old.before → new.tokens ≡ old.tokens ++ t ∷ [] → Gains old new (t ∷ [])
gains_one old new t before more = record { before = before; more = more }

-- some tokens, and then others
pub gains_both : {old middle new : Written} {ts us : List Token} → Gains old middle ts → Gains middle new us → Gains old new (ts ++ us)
gains_both {old} {middle} {new} {ts} {us} first later = record {
  before = later.before ∙ first.before;
  more = later.more ∙ ap (λ (l : List Token). l ++ us) first.more ∙ append_assoc old.tokens ts us;
}
