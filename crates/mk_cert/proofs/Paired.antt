-- Which pairs a certificate needs.
use Rattle.std.proofs.Common.{ℕ, ◌≡◌, ◌≢◌, ◌<◌, ◌/◌, ◌%◌, ◌⊎◌, List, map, get_or, replicate, inl, inr, sym, ap, arith}
use Rattle.std.specs.List.{All}
use Rattle.std.specs.List.Sorted.{IsStrictlySortedBy}
use Rattle.std.specs.Int.{bit_at}
use Rattle.std.proofs.lemmas.Bool.{cases_lt}
use Rattle.std.proofs.lemmas.List.{get_or-replicate, get_or_past, length-replicate}
use Rattle.std.proofs.lemmas.Nat.Bits.{bit_at-zero}
use Rattle.mk_index.specs.Bits.{HasBit}
use Rattle.mk_index.specs.Uses.{Reaches}
use Rattle.mk_jobs.specs.Jobs.{Jobs, IsValid, node_count}
use Rattle.mk_jobs.specs.Reaching.{uses_of}
use Rattle.mk_jobs.specs.Shape.{IsWellFormed}
use Rattle.mk_jobs.proofs.JobsLemmas.{clash_live}
use Rattle.mk_jobs.proofs.Reaching.{clash_is_reach}
use Rattle.mk_proof.specs.Shapes.{ends_of, pair_cmp}
use Rattle.mk_cert.specs.Certificates.{IsAtEnds, IsCertificate, IsChain}
use Rattle.mk_cert.specs.Pairs.{IsPaired}
use Rattle.mk_cert.proofs.Certified.{smaller_first}

-- all pairs of which one node reaches the other
abbrev pub AllPaired : Jobs → List (List ℕ) → Type 0
AllPaired jobs chains = (a b : ℕ) → b < node_count jobs → a ≢ b → Reaches (uses_of jobs) a b → IsPaired chains a b

-- a pair is at the ends of a chain one way or the other
pub either_way : (chains : List (List ℕ)) (a b : ℕ) → IsPaired chains a b → IsAtEnds chains a b ⊎ IsAtEnds chains b a
either_way chains a b pair = elim (cases_lt a b) [
  | inl less ↦ inl (pair.up less)
  | inr past ↦ inr (pair.down past)
]

turned : {A B : Type 0} → A ⊎ B → B ⊎ A
turned (inl a) = inr a
turned (inr b) = inl b

pub certificate_from : (jobs : Jobs) (chains : List (List ℕ)) → IsWellFormed jobs → IsStrictlySortedBy pair_cmp (map ends_of chains)
    → All (All (λ n. n < node_count jobs)) chains → All (IsChain jobs) chains → AllPaired jobs chains → IsCertificate jobs chains
certificate_from jobs chains shape rise nodes edges all = record {
  rise = rise;
  nodes = nodes;
  edges = edges;
  all = λ a b clash.
      let live = clash_live clash.1 in
      let reach = (clash_is_reach jobs a b shape).0 clash in
      elim reach.1 [
        | inl there ↦ either_way chains a b (all a b live.second_node reach.0 there)
        | inr back ↦ turned (either_way chains b a (all b a live.first_node (λ same. reach.0 (sym same)) back))
      ];
}

pub all_paired : (jobs : Jobs) (chains : List (List ℕ)) → IsWellFormed jobs → IsValid jobs → IsCertificate jobs chains → AllPaired jobs chains
all_paired jobs chains shape valid certificate a b inside apart reach = record {
  up = λ less. smaller_first jobs chains a b valid certificate ((clash_is_reach jobs a b shape).1 (apart, inl reach)) less;
  down = λ past. smaller_first jobs chains b a valid certificate
      ((clash_is_reach jobs b a shape).1 ((λ same. apart (sym same)), inr reach)) (omega (arith, past, λ (same : a ≡ b). apart same));
}

no_bit : (word k : ℕ) → word ≡ 0 → bit_at word k ≡ 1 → ⊥
no_bit word k none has = let zero : bit_at 0 k ≡ 0 = bit_at-zero k in omega (arith, zero, ap (λ w. bit_at w k) none, has)

-- a row of zeros has no bit
pub clear_row : (long n : ℕ) → HasBit (replicate long 0) n → ⊥
clear_row long n has = elim (cases_lt (n / 64) long) [
  | inl inside ↦ no_bit (get_or (replicate long 0) (n / 64) 0) (n % 64) (get_or-replicate long (n / 64) 0 0 inside) has
  | inr past ↦ no_bit (get_or (replicate long 0) (n / 64) 0) (n % 64) (get_or_past (replicate long 0) (n / 64) 0 (omega (arith, length-replicate {A = ℕ} long 0, past))) has
]
