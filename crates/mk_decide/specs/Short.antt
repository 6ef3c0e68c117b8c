-- Short certificates: chains between neighbours alone. Ordering is transitive, so they put in order whatever clashes.
use Rattle.std.specs.Prelude.{ℕ, ◌<◌, List, map}
use Rattle.std.specs.List.{All}
use Rattle.std.specs.List.Sorted.{IsStrictlySortedBy}
use Rattle.mk_jobs.specs.Jobs.{Jobs, Before, IsRaceFree, IsValid, node_count}
use Rattle.mk_proof.specs.Shapes.{ends_of, pair_cmp}
use Rattle.mk_cert.specs.Certificates.{IsAtEnds, IsChain}
use Rattle.mk_decide.specs.Neighbours.{IsNeighbour}

-- these chains are a short certificate: they rise by their ends; their numbers are nodes; each goes along edges; and any two
-- neighbours are the ends of one. There may be chains between other nodes too
pub record IsShortCertificate (jobs : Jobs) (chains : List (List ℕ)) : Type 0 where
  pub rise : IsStrictlySortedBy pair_cmp (map ends_of chains)
  pub nodes : All (All (λ n. n < node_count jobs)) chains
  pub edges : All (IsChain jobs) chains
  pub all : (a b : ℕ) → IsNeighbour jobs a b → IsAtEnds chains a b

-- where neighbours are in order, all that clashes is
abbrev pub NeighboursOrderAll : Type 0
NeighboursOrderAll = (jobs : Jobs) → IsValid jobs → ((a b : ℕ) → IsNeighbour jobs a b → Before jobs a b) → IsRaceFree jobs

-- so valid jobs with a short certificate are race-free
abbrev pub ShortIsRaceFree : Type 0
ShortIsRaceFree = (jobs : Jobs) (chains : List (List ℕ)) → IsValid jobs → IsShortCertificate jobs chains → IsRaceFree jobs
