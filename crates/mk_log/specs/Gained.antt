-- For private clauses: the tokens that a line of JSON has gained.
use Rattle.std.specs.Prelude.{◌≡◌, List, ◌++◌}
use Rattle.json.specs.Token.{Token}
use Rattle.json.specs.Tree.{json_tokens}
use Rattle.json.specs.Written.{Written}
use Rattle.serde_json.specs.Data.{Data}
use Rattle.serde_json.specs.Written.{outline}

-- the second line has what the first has, and these tokens
pub record Gains (old new : Written) (ts : List Token) : Type 0 where
  pub before : new.before ≡ old.before
  pub more : new.tokens ≡ old.tokens ++ ts

-- the tokens of data
abbrev pub tokens_of : Data → List Token
tokens_of d = json_tokens (outline d)
