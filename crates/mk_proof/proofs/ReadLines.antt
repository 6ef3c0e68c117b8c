-- What the reader knows behind some lines.
use Rattle.std.proofs.Common.{◌≡◌, ℕ, zero, suc, ◌+◌, ◌<◌, ◌≤◌, ◌==◌, ◌⊎◌, Ok, inl, inr, true, false, List, [], ◌∷◌, ◌++◌, length, take, refl, sym, ap, ◌∙◌, subst, arith, append_assoc}
use Rattle.std.proofs.lemmas.Bool.{cases_lt}
use Rattle.std.proofs.lemmas.List.{append-nil, append_cancel_left, length-append, nil_from_length, length_push, take_at}
use Rattle.std.proofs.lemmas.List.Elements.{All-nil}
use Rattle.std.proofs.lemmas.List.Splits.{join_with_byte-slice_split}
use Rattle.std.proofs.lemmas.Grind.{flat_map-append}
use Rattle.std.specs.List.{All, join_with_byte}
use Rattle.std.specs.List.Sorted.{IsStrictlySortedBy}
use Rattle.std.specs.Ordering.{nat_cmp}
use Rattle.hex.specs.Hex.{IsBytes}
use Rattle.mk_proof.proofs.Texts.{begins, whole}
use Rattle.mk_proof.proofs.Words.{whole_lines-cons, whole_lines-none}
use Rattle.mk_proof.specs.Drafts.{AreNodes, IsCut, IsDraft, IsPath, lines_of}
use Rattle.mk_proof.specs.ProofText.{BeginProof, IsGood, IsNoProof, IsProofRead, IsShapedProof, ProofLine, end_line, path_line, proof_lines, proof_text, text_of, reported, whole_lines, words_of, written}
use Rattle.mk_proof.specs.Shapes.{AreShapedSteps, AreShapedTimes, IsShapedTrace, greatest_node, greatest_time, node_of}
use Rattle.mk_proof.specs.declared.draft.Draft.{Draft}
use Rattle.mk_proof.specs.declared.draft.Draft.TheVariants.{Empty, Chains, Nodes, Steps}
use Rattle.mk_proof.specs.declared.proof.Proof.{Proof}
use Rattle.mk_proof.specs.declared.step.Step.{Step}

-- behind some good lines of a text: the draft has them, and the rest stands behind them
pub record ReadsTo (text : List ℕ) (good : ℕ) (rest : List ℕ) (draft : Draft) : Type 0 where
  pub shaped : IsDraft draft
  pub text_is : text ≡ text_of (lines_of draft) ++ rest
  pub whole_is : whole_lines text ≡ lines_of draft ++ whole_lines rest
  pub count : good ≡ length (lines_of draft)
  pub fits : good + length rest ≤ length text
  pub before : (k : ℕ) → k < good → IsGood text k

-- before the first line
pub at_start : (text : List ℕ) → ReadsTo text 0 text Empty
at_start text = record {
  shaped = tt;
  text_is = refl;
  whole_is = refl;
  count = refl;
  fits = omega arith;
  before = λ k none. absurd (omega arith);
}

-- ---- the lines of a draft begin a proof

none_rises : IsStrictlySortedBy nat_cmp []
unfolding IsStrictlySortedBy
none_rises = tt

no_times : AreShapedTimes []
no_times = record { rise = none_rises; small = All-nil (λ (t : ℕ × ℕ). (t.0 ≤ greatest_node) × (t.1 ≤ greatest_time)) }

-- a trace without times and steps
pub no_steps_yet : (first second : ℕ) (path : List ℕ) (times : List (ℕ × ℕ)) (steps : List Step) → AreNodes (first, second) → IsPath path → times ≡ [] → steps ≡ []
    → IsShapedTrace (record { first = first; second = second; path = path; times = times; steps = steps })
no_steps_yet first second path times steps nodes is_path no_time no_step = record {
  order = nodes.0;
  second = nodes.1;
  path = is_path.0;
  times = subst AreShapedTimes (sym no_time) no_times;
  steps = subst AreShapedSteps (sym no_step) (All-nil (λ (s : Step). node_of s ≤ greatest_node));
}

-- a path that stands for the one to come
some_bytes : IsBytes (97 ∷ [])
some_bytes zero = omega arith
some_bytes (suc i) = omega arith

draft_begins : (draft : Draft) → IsDraft draft → 0 < length (lines_of draft) → BeginProof (lines_of draft)
draft_begins Empty shaped some = absurd (omega arith)
draft_begins (Chains count chains) shaped some = inl (record { count = count; chains = chains; small = shaped.0; few = shaped.1; shaped = shaped.2; are = refl })
draft_begins (Nodes first second) shaped some = inr (record {
  trace = record { first = first; second = second; path = 97 ∷ []; times = []; steps = [] };
  rest = path_line (97 ∷ []) ∷ end_line ∷ [];
  shaped = no_steps_yet first second (97 ∷ []) [] [] shaped (omega arith, some_bytes) refl refl;
  bytes = some_bytes;
  are = refl;
})
draft_begins (Steps trace true) shaped some = inr (record { trace = trace; rest = []; shaped = shaped.0; bytes = shaped.1; are = sym (append-nil _) })
draft_begins (Steps trace false) shaped some = inr (record { trace = trace; rest = end_line ∷ []; shaped = shaped.0; bytes = shaped.1; are = refl })

-- ---- a line more

module _ (text : List ℕ) (good : ℕ) (rest : List ℕ) (draft : Draft) (reads : ReadsTo text good rest draft) (line behind : List ℕ) (cut : IsCut 10 rest line behind) where
  whole_rest : whole_lines text ≡ (lines_of draft ++ words_of line ∷ []) ++ whole_lines behind
  whole_rest =
      reads.whole_is ∙ ap (λ (ls : List ProofLine). lines_of draft ++ ls) (ap whole_lines cut.whole ∙ whole_lines-cons line behind cut.first)
      ∙ sym (append_assoc (lines_of draft) (words_of line ∷ []) (whole_lines behind))

  long : length (lines_of draft ++ words_of line ∷ []) ≡ good + 1
  long = length_push (lines_of draft) (words_of line) ∙ ap (λ n. n + 1) (sym reads.count)

  front : take (good + 1) (whole_lines text) ≡ lines_of draft ++ words_of line ∷ []
  front = ap (take (good + 1)) whole_rest ∙ take_at (lines_of draft ++ words_of line ∷ []) (whole_lines behind) (good + 1) long

  inside : good < length (whole_lines text)
  inside = let all = length-append (lines_of draft ++ words_of line ∷ []) (whole_lines behind) in omega (arith, ap length whole_rest, long)

  -- the line is the first bad one
  pub bad_here : ¬ (BeginProof (lines_of draft ++ words_of line ∷ [])) → IsNoProof text (reported (good + 1))
  bad_here not = record {
    none = λ proof shaped is. not (begins proof (lines_of draft ++ words_of line ∷ []) (whole_lines behind) shaped (omega (arith, long)) (sym (whole proof text shaped is) ∙ whole_rest));
    good = good;
    first = record { before = reads.before; here = λ is_good. not (subst BeginProof front is_good.1) };
    says = refl;
  }

  -- the line as it stands in the text
  text_more : (next : Draft) → lines_of next ≡ lines_of draft ++ words_of line ∷ [] → text ≡ text_of (lines_of next) ++ behind
  text_more next more =
      let joined : written (words_of line) ++ behind ≡ line ++ 10 ∷ behind =
      append_assoc (join_with_byte 32 (words_of line)) (10 ∷ []) behind ∙ ap (λ (t : List ℕ). t ++ 10 ∷ behind) (join_with_byte-slice_split 32 line) in
      let last : text_of (lines_of draft ++ words_of line ∷ []) ≡ text_of (lines_of draft) ++ written (words_of line) =
      flat_map-append written (lines_of draft) (words_of line ∷ []) ∙ ap (λ (t : List ℕ). text_of (lines_of draft) ++ t) (append-nil (written (words_of line))) in
      reads.text_is ∙ ap (λ (t : List ℕ). text_of (lines_of draft) ++ t) (cut.whole ∙ sym joined)
      ∙ sym (append_assoc (text_of (lines_of draft)) (written (words_of line)) behind)
      ∙ ap (λ (t : List ℕ). t ++ behind) (sym last ∙ ap text_of (sym more))

  good_before : (next : Draft) → IsDraft next → lines_of next ≡ lines_of draft ++ words_of line ∷ [] → (k : ℕ) → k < good + 1 → (k < good) ⊎ (good ≤ k) → IsGood text k
  good_before next shaped more k below (inl earlier) = reads.before k earlier
  good_before next shaped more k below (inr here) =
      let at : good ≡ k = omega arith in
      let begun = draft_begins next shaped (omega (arith, ap length more, long)) in
      subst (IsGood text) at (inside, subst BeginProof (more ∙ sym front) begun)

  -- the line is good
  pub good_here : (next : Draft) → IsDraft next → lines_of next ≡ lines_of draft ++ words_of line ∷ [] → ReadsTo text (good + 1) behind next
  good_here next shaped more = record {
    shaped = shaped;
    text_is = text_more next more;
    whole_is = whole_rest ∙ ap (λ (ls : List ProofLine). ls ++ whole_lines behind) (sym more);
    count = sym long ∙ ap length (sym more);
    fits = let all = length-append line (10 ∷ behind) in omega (arith, reads.fits, ap length cut.whole);
    before = λ k below. good_before next shaped more k below (cases_lt k good);
  }

-- ---- the end

module _ (text : List ℕ) (good : ℕ) (rest : List ℕ) (draft : Draft) (reads : ReadsTo text good rest draft) (none : All (λ b. (b == 10) ≡ false) rest) where
  all_lines : whole_lines text ≡ lines_of draft
  all_lines = reads.whole_is ∙ ap (λ (ls : List ProofLine). lines_of draft ++ ls) (whole_lines-none rest none) ∙ append-nil (lines_of draft)

  not_whole : ((proof : Proof) → IsShapedProof proof → proof_text proof ≡ text → ⊥) → IsNoProof text (reported (good + 1))
  not_whole never = record {
    none = never;
    good = good;
    first = record { before = reads.before; here = λ is_good. omega (arith, is_good.0, ap length all_lines, reads.count) };
    says = refl;
  }

  -- a line is missing
  pub missing : ((proof : Proof) → IsShapedProof proof → ¬ (proof_lines proof ≡ lines_of draft)) → IsNoProof text (reported (good + 1))
  missing never = not_whole (λ proof shaped is. never proof shaped (sym (whole proof text shaped is) ∙ all_lines))

  -- bytes follow
  pub more_bytes : 0 < length rest → IsNoProof text (reported (good + 1))
  more_bytes some = not_whole (λ proof shaped is.
      let same : proof_lines proof ≡ lines_of draft = sym (whole proof text shaped is) ∙ all_lines in
      let nothing : rest ≡ [] = append_cancel_left (text_of (lines_of draft)) rest [] (sym reads.text_is ∙ sym is ∙ ap text_of same ∙ sym (append-nil (text_of (lines_of draft)))) in
      omega (arith, ap length nothing))

  -- all lines have come, and nothing follows
  pub is_whole : (proof : Proof) → IsShapedProof proof → proof_lines proof ≡ lines_of draft → length rest ≡ 0 → IsProofRead text (Ok proof)
  is_whole proof shaped same nothing = (
    shaped,
    ap text_of same ∙ sym (append-nil (text_of (lines_of draft))) ∙ ap (λ (t : List ℕ). text_of (lines_of draft) ++ t) (sym (nil_from_length rest nothing)) ∙ sym reads.text_is,
  )
