-- What a certificate gives.
use Rattle.std.proofs.Common.{ℕ, ◌≡◌, ◌<◌, ◌-◌, List, [], ◌∷◌, length, get_or, inl, inr, refl, sym, ap, subst, ◌∙◌, arith}
use Rattle.std.specs.List.{All}
use Rattle.std.proofs.lemmas.List.{get_or-map, length-map}
use Rattle.mk_jobs.specs.Jobs.{Jobs, Before}
use Rattle.mk_jobs.specs.Chains.{last_of}
use Rattle.mk_jobs.proofs.ChainLemmas.{chain_is_before}
use Rattle.mk_jobs.proofs.JobsLemmas.{before_less}
use Rattle.mk_sched.proofs.Determinate.{headline}
use Rattle.mk_proof.specs.Shapes.{ends_of}
use Rattle.mk_cert.specs.Certificates.{IsChain, IsAtEnds}
use Rattle.mk_cert.specs.Laws.{CertificateIsRaceFree, CertificateIsDeterminate, SmallerFirst}

-- the last of a list by its place
last_at : (a : ℕ) (nodes : List ℕ) (d : ℕ) → get_or (a ∷ nodes) (length nodes) d ≡ last_of a nodes
last_at a [] d = refl
last_at a (b ∷ nodes) d = last_at b nodes d

-- the first node of a chain is before the last
chain_before : (jobs : Jobs) (chain : List ℕ) → IsChain jobs chain → Before jobs (ends_of chain).0 (ends_of chain).1
chain_before jobs [] edges = absurd edges
chain_before jobs (a ∷ []) edges = absurd edges
chain_before jobs (a ∷ next ∷ nodes) edges =
    let place : length (a ∷ next ∷ nodes) - 1 ≡ length (next ∷ nodes) = omega arith in
    let last = ap (λ k. get_or (a ∷ next ∷ nodes) k 0) place ∙ last_at a (next ∷ nodes) 0 in
    subst (Before jobs a) (sym last) (chain_is_before jobs a next nodes edges)

-- so it is with the ends of each chain
pub ends_before : (jobs : Jobs) (chains : List (List ℕ)) (a b : ℕ) → All (IsChain jobs) chains → IsAtEnds chains a b → Before jobs a b
ends_before jobs chains a b edges found =
    let inside : found.0 < length chains = let long = length-map chains ends_of in omega (arith, found.1) in
    let ends : ends_of (get_or chains found.0 []) ≡ (a, b) = sym (get_or-map ends_of chains found.0 [] (a, b) inside) ∙ found.2 in
    subst (λ (pair : ℕ × ℕ). Before jobs pair.0 pair.1) ends (chain_before jobs (get_or chains found.0 []) (edges found.0 [] inside))

pub race_free : CertificateIsRaceFree
race_free jobs chains certificate a b clash = elim (certificate.all a b clash) [
  | inl found ↦ inl (ends_before jobs chains a b certificate.edges found)
  | inr found ↦ inr (ends_before jobs chains b a certificate.edges found)
]

pub determinate : CertificateIsDeterminate
determinate jobs chains valid certificate = headline jobs valid (race_free jobs chains certificate)

pub smaller_first : SmallerFirst
smaller_first jobs chains a b valid certificate clash less = elim (certificate.all a b clash) [
  | inl found ↦ found
  | inr found ↦ absurd (let back = before_less valid (ends_before jobs chains b a certificate.edges found) in omega arith)
]
