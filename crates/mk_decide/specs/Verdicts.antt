-- The chains that put pairs in order.
use Rattle.std.specs.Prelude.{ℕ, ◌≡◌, List, map}
use Rattle.std.specs.List.{All}
use Rattle.mk_jobs.specs.Jobs.{Jobs}
use Rattle.mk_decide.specs.Chosen.{IsChosen}
use Rattle.mk_proof.specs.Shapes.{ends_of}

-- the chosen chain between its ends
abbrev pub IsChosenChain : Jobs → List ℕ → Type 0
IsChosenChain jobs chain = IsChosen jobs (ends_of chain).0 (ends_of chain).1 chain

-- one chain for each pair, in the order of the pairs, and each is the chosen one
pub record AreChainsOf (jobs : Jobs) (pairs : List (ℕ × ℕ)) (chains : List (List ℕ)) : Type 0 where
  pub ends : map ends_of chains ≡ pairs
  pub chosen : All (IsChosenChain jobs) chains
