-- What a proof is to a build: whether its jobs accept it, and what it shows of them then.
use Rattle.std.specs.Prelude.{◌≡◌, ◌↔◌, ℕ, Bool, true, false, List, Result, Ok, Err, IsTrue}
use Rattle.mk_name.specs.Reported.{Reported}
use Rattle.mk_jobs.specs.Jobs.{Jobs}
use Rattle.mk_proof.specs.ProofText.{IsProofRead}
use Rattle.mk_proof.specs.declared.proof.Proof.{Proof}
use Rattle.mk_proof.specs.declared.proof.Proof.TheVariants.{Certificate, Trace}
use Rattle.mk_cert.specs.Certificates.{IsCertificate}
use Rattle.mk_cert.specs.Sure.{IsSure}
use Rattle.mk_cert.specs.Traces.{TraceHolds}
use Rattle.mk_decide.specs.Short.{IsShortCertificate}
use Rattle.mk_sched.specs.Laws.{IsDeterminate}
use Rattle.mk_race.specs.Stages.{IsPrepared, Texts, ThenAny}
use Rattle.mk_race.specs.declared.preparing.Prepared.{Prepared}

-- a certificate of jobs, or a short one where that is asked for
abbrev pub IsCertificateOn : Bool → Jobs → List (List ℕ) → Type 0
IsCertificateOn false = IsCertificate
IsCertificateOn true = IsShortCertificate

-- a certificate has to be one of these jobs, and a trace has to be sure
abbrev pub IsGoodProof : Bool → Jobs → Proof → Type 0
IsGoodProof short jobs (Certificate chains) = IsCertificateOn short jobs chains
IsGoodProof short jobs (Trace trace) = IsSure jobs trace

-- what a good proof shows: a certificate, that any two complete runs whose recipes agree leave the same; a trace, that it holds
abbrev pub Shows : Jobs → Proof → Type 0
Shows jobs (Certificate chains) = IsDeterminate jobs
Shows jobs (Trace trace) = TraceHolds jobs trace

-- just the good proofs are accepted, and what they show is so
pub record IsJudged (short : Bool) (jobs : Jobs) (proof : Proof) (accepted : Bool) : Type 0 where
  pub exact : IsTrue accepted ↔ IsGoodProof short jobs proof
  pub shown : IsTrue accepted → Shows jobs proof

-- no proof that was read is a fault
abbrev pub IsProofVerdict : Bool → Jobs → Proof → Result Bool Reported → Type 0
IsProofVerdict short jobs proof (Ok accepted) = IsJudged short jobs proof accepted
IsProofVerdict short jobs proof (Err reported) = ⊥

-- the text of a proof, and then whether these jobs accept it
abbrev pub IsVerifiedOn : Bool → Jobs → List ℕ → Result Bool Reported → Type 0
IsVerifiedOn short jobs text = ThenAny (IsProofRead text) (λ proof. IsProofVerdict short jobs proof)

-- the jobs of a build, and then a proof on them
abbrev pub IsVerified : Bool → Texts → List ℕ → List ℕ → Result Bool Reported → Type 0
IsVerified short texts footprints proof = ThenAny (IsPrepared texts footprints) (λ prepared. IsVerifiedOn short prepared.jobs proof)

-- the texts of a build mean jobs, and no others, the text of a proof means a proof, and what that shows is so of these jobs
pub record ProofShows (texts : Texts) (footprints text : List ℕ) : Type 0 where
  pub prepared : Prepared
  pub proof : Proof
  pub build : IsPrepared texts footprints (Ok prepared)
  pub only : (other : Prepared) → IsPrepared texts footprints (Ok other) → prepared ≡ other
  pub read : IsProofRead text (Ok proof)
  pub shown : Shows prepared.jobs proof
