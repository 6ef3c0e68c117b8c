-- Proofs by their texts, and what jobs say of them.
use Rattle.std.proofs.Common.{◌≡◌, ◌↔◌, ℕ, Bool, IfOk, List, Ok, Err, Result, refl, subst, sym, IsTrue}
use Rattle.mk_name.specs.Gives.{HaltsAmong}
use Rattle.mk_name.specs.declared.fault.Halt.{Halt}
use Rattle.mk_name.specs.declared.fault.Halt.TheVariants as halts
use Rattle.mk_jobs.specs.Jobs.{Jobs}
use Rattle.mk_proof.specs.ProofText.{IsProofRead}
use Rattle.mk_proof.specs.Shapes.{Trace}
use Rattle.mk_proof.specs.declared.proof.Proof.{Proof}
use Rattle.mk_proof.specs.declared.proof.Proof.TheVariants as proofs
use Rattle.mk_cert.specs.Sure.{IsSure}
use Rattle.mk_cert.specs.Traces.{TraceHolds}
use Rattle.mk_sched.specs.Laws.{IsDeterminate}
use Rattle.mk_race.specs.Stages.{ForAllBuilds}
use Rattle.mk_race.specs.Tasked.{ForAllTasks, ProofOfTasksShows}
use Rattle.mk_race.specs.Verified.{IsCertificateOn, IsJudged, IsVerifiedOn, ProofShows, Shows}
use Rattle.mk_race.proofs.OneBuild.{build_is_one}

-- a halt of the proof is one of the whole
pub proof_unread : (short : Bool) (jobs : Jobs) (text : List ℕ) (halt : Halt) → HaltsAmong halt (IsProofRead text) → HaltsAmong halt (IsVerifiedOn short jobs text)
proof_unread short jobs text halts.Memory h = tt
proof_unread short jobs text (halts.Fault reported) h = (Err reported, h, refl)

module _ (short : Bool) (jobs : Jobs) (text : List ℕ) (proof : Proof) (accepted : Bool) (read : IsProofRead text (Ok proof)) (judged : IsJudged short jobs proof accepted) where
  -- what the jobs say of a proof is what they say of its text
  pub verified_on : IsVerifiedOn short jobs text (Ok accepted)
  verified_on = (Ok proof, read, judged)

  -- where they accept it, what it shows is so of each build of these jobs
  pub build_shows : IsTrue accepted → ForAllBuilds jobs (λ texts footprints. ProofShows texts footprints text)
  build_shows holds prepared texts footprints is build = record {
    prepared = prepared;
    proof = proof;
    build = build;
    only = λ other same. build_is_one texts footprints prepared other build same;
    read = read;
    shown = subst (λ (own : Jobs). Shows own proof) (sym is) (judged.shown holds);
  }

  -- and of all tasks that mean them
  pub tasks_show : IsTrue accepted → ForAllTasks jobs (λ root tasks. ProofOfTasksShows root tasks text)
  tasks_show holds root tasks given = record { jobs = jobs; proof = proof; given = given; read = read; shown = judged.shown holds }

-- what `accept_trace` answers of a trace
pub trace_judged : {E : Type 0} (short : Bool) (jobs : Jobs) (proof : Proof) (trace : Trace) → proof ≡ proofs.Trace trace → (result : Result Bool E)
    → IfOk result (λ accepted. IsTrue accepted ↔ IsSure jobs trace) → IfOk result (λ accepted. IsTrue accepted → TraceHolds jobs trace)
    → IfOk result (IsJudged short jobs proof)
trace_judged short jobs proof trace same (Ok accepted) sure holds = rw same (record { exact = sure; shown = holds })
trace_judged short jobs proof trace same (Err error) sure holds = tt

-- what is answered of a certificate
pub certificate_judged : {E : Type 0} (short : Bool) (jobs : Jobs) (proof : Proof) (chains : List (List ℕ)) → proof ≡ proofs.Certificate chains → (result : Result Bool E)
    → IfOk result (λ accepted. IsTrue accepted ↔ IsCertificateOn short jobs chains) → IfOk result (λ accepted. IsTrue accepted → IsDeterminate jobs)
    → IfOk result (IsJudged short jobs proof)
certificate_judged short jobs proof chains same (Ok accepted) exact shown = rw same (record { exact = exact; shown = shown })
certificate_judged short jobs proof chains same (Err error) exact shown = tt
