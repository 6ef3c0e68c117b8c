-- A name's suffix in the words of the rule ("Inference Rules", profile).
use Rattle.std.specs.Prelude.{ℕ, ◌≡◌, ◌≢◌, ◌⊎◌, ◌++◌, false, List, [], ◌∷◌, drop}
use Rattle.std.specs.List.{list_any}
use Rattle.mk_graph.specs.Suffix.{is_period, is_slash, suffix_of}

-- nothing, or a text that ends in a slash
abbrev pub IsFolder : List ℕ → Type 0
IsFolder folder = (folder ≡ []) ⊎ ((front : List ℕ) × (folder ≡ front ++ 47 ∷ []))

-- a name is a folder and its last component, in which no slash stands. Where a period stands in the component behind some
-- text, and no other period behind it, the suffix goes from that period to the end; where no period but the first byte
-- stands there, it is empty
pub record SuffixIsRule : Type 0 where
  pub found : (folder before after : List ℕ) → IsFolder folder → list_any is_slash (before ++ 46 ∷ after) ≡ false
      → before ≢ [] → list_any is_period after ≡ false → suffix_of (folder ++ (before ++ 46 ∷ after)) ≡ 46 ∷ after
  pub none : (folder component : List ℕ) → IsFolder folder → list_any is_slash component ≡ false
      → list_any is_period (drop 1 component) ≡ false → suffix_of (folder ++ component) ≡ []
