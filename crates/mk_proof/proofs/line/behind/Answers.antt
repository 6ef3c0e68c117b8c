use Rattle.std.proofs.Common.{◌∷◌, ap, sym, ◌∙◌, List, ℕ}
use Rattle.std.proofs.lemmas.Bool.{both_ways}
use Rattle.std.proofs.lemmas.Bool.Decides.{Decides-eqb}
use Rattle.std.proofs.lemmas.Slice.Eq.{slice_eq-Decides}
use Rattle.mk_proof.specs.ProofText.{words_of}
use Rattle.mk_proof.proofs.Following.{heads}
use Rattle.mk_proof.proofs.Found.{no_two}
use Rattle.mk_proof.proofs.Words.{cut_parts}
use Rattle.mk_proof.proofs.line.behind.Goals as goal

pub returns-in_err-first-clause-none : goal.returns-in_err-first-clause-none
returns-in_err-first-clause-none c =
    rw c.from_residual.ensures (λ next more is. no_two c.args.line.now c.args.word.now next more c.in_err-first.ensures.none is)

pub returns-then-eq-clause-behind : goal.returns-then-eq-clause-behind
returns-then-eq-clause-behind c =
    let same = (slice_eq-Decides Decides-eqb c.in_ok-first.first.now c.args.word.now c.eq.result c.eq.ensures).0 c.if-eq.true in
    cut_parts 32 c.args.line.now c.in_ok-first.first.now c.in_ok-first.rest.now c.in_ok-first.ensures.cut
    ∙ ap (λ (w : List ℕ). w ∷ words_of c.in_ok-first.rest.now) same

pub returns-else-eq-clause-none : goal.returns-else-eq-clause-none
returns-else-eq-clause-none c = λ next more is.
    let cut = cut_parts 32 c.args.line.now c.in_ok-first.first.now c.in_ok-first.rest.now c.in_ok-first.ensures.cut in
    both_ways c.eq.result c.if-eq.false
    ((slice_eq-Decides Decides-eqb c.in_ok-first.first.now c.args.word.now c.eq.result c.eq.ensures).1
    (heads c.in_ok-first.first.now c.args.word.now (words_of c.in_ok-first.rest.now) (next ∷ more) (sym cut ∙ is)))
