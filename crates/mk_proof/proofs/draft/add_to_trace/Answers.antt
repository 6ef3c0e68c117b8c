use Rattle.std.proofs.Common.{◌++◌, ◌∷◌, [], if◌then◌else◌, codes, sym, subst, ◌∙◌}
use Rattle.std.proofs.lemmas.Bool.{both_ways}
use Rattle.std.proofs.lemmas.Bool.Decides.{Decides-eqb}
use Rattle.std.proofs.lemmas.Slice.Eq.{slice_eq-Decides}
use Rattle.mk_proof.specs.ProofText.{BeginProof, open_lines, trace_lines, words_of}
use Rattle.mk_proof.proofs.Beginnings.{behind_end, no_line, time_adds}
use Rattle.mk_proof.proofs.Words.{words_same}
use Rattle.mk_proof.proofs.draft.add_to_trace.Goals as goal

pub returns-then-is_whole : goal.returns-then-is_whole
returns-then-is_whole c = λ begin.
    let trace = c.args.trace.now in
    let line = words_of c.args.line.now in
    behind_end trace line c.requires.0 (subst (λ b. BeginProof ((if b then trace_lines trace else open_lines trace) ++ line ∷ [])) c.if-is_whole.true begin)

pub returns-in-Some : goal.returns-in-Some
returns-in-Some c =
    let found = c.in-Some.ensures in
    time_adds c.args.trace.now c.add_time.new.trace (words_of c.args.line.now) c.in_ok-added.added c.args.is_whole.now (c.in-Some.node, c.in-Some.time)
    c.if-is_whole.false c.requires.0 c.requires.1 found.0 found.1 c.in_ok-added.ensures.added.0 c.in_ok-added.ensures.added.1 c.in_ok-added.ensures.pushed

pub returns-in_default-step_in : goal.returns-in_default-step_in
returns-in_default-step_in c = λ begin.
    let trace = c.args.trace.now in
    let line = words_of c.args.line.now in
    no_line trace line c.requires.0
    (λ ends. both_ways c.eq.result c.if-eq.false ((slice_eq-Decides Decides-eqb c.args.line.now c.as_slice.result.now c.eq.result c.eq.ensures).1
    (words_same c.args.line.now (codes "end") ends ∙ sym c.as_slice.ensures)))
    c.in_default.ensures c.in_default-step_in.ensures
    (subst (λ b. BeginProof ((if b then trace_lines trace else open_lines trace) ++ line ∷ [])) c.if-is_whole.false begin)
