use Rattle.std.proofs.Common.{◌≡◌, ◌++◌, ◌∷◌, [], List, ℕ, sym, subst, ◌∙◌, arith}
use Rattle.std.proofs.lemmas.Bool.{both_ways}
use Rattle.std.specs.Fmt.{decimal}
use Rattle.mk_proof.specs.Drafts.{IsShort}
use Rattle.mk_proof.specs.ProofText.{words_of}
use Rattle.mk_proof.specs.Shapes.{AreShapedChains}
use Rattle.mk_proof.proofs.Beginnings.{behind_chains}
use Rattle.mk_proof.proofs.Following.{decimal_same, map_same}
use Rattle.mk_proof.proofs.Risen.{last_short}
use Rattle.mk_proof.proofs.draft.add_chain.Goals as goal

pub returns-then-count : goal.returns-then-count
returns-then-count c = λ begin.
    let found = behind_chains c.args.count c.args.certificate.now (words_of c.args.line.now) c.requires.0 c.requires.2 begin in
    omega (arith, found.3, c.count.ensures.value, c.if-count.true)

pub returns-in_default : goal.returns-in_default
returns-in_default c = λ begin.
    let found = behind_chains c.args.count c.args.certificate.now (words_of c.args.line.now) c.requires.0 c.requires.2 begin in
    let none = rw c.in_default.is at c.in_ok-chain.ensures in
    none found.0 (last_short c.args.certificate.now found.0 found.2) found.1

pub returns-then-not-takes : goal.returns-then-not-takes
returns-then-not-takes c = λ begin.
    let chains = c.args.certificate.now in
    let found = behind_chains c.args.count chains (words_of c.args.line.now) c.requires.0 c.requires.2 begin in
    let read = rw c.in-Some.is at c.in_ok-chain.ensures in
    let same : found.0 ≡ c.in-Some.chain.items = map_same decimal IsShort (λ m n low high. decimal_same m n (omega arith) (omega arith)) found.0 c.in-Some.chain.items
    (last_short chains found.0 found.2) read.0 (found.1 ∙ sym read.1) in
    let shaped = subst (λ (chain : List ℕ). AreShapedChains (chains ++ chain ∷ [])) (same ∙ sym c.deref.ensures.value) found.2 in
    both_ways c.takes.result c.if-not-takes.true (c.takes.ensures.1 shaped)
