use Rattle.std.proofs.Common.{ℕ, ◌≡◌, ◌<◌, ◌↔◌, ◌-◌, ◌∙◌, List, refl, true, sym, subst, ap, arith}
use Rattle.std.specs.Prelude.{IsTrue}
use Rattle.std.proofs.lemmas.List.{take_at}
use Rattle.mk_index.specs.Bits.{HasBit}
use Rattle.mk_jobs.specs.Jobs.{Jobs, Before, edge, node_count}
use Rattle.mk_decide.specs.Bits.{row_at, row_words}
use Rattle.mk_decide.proofs.Filling.{row_answers}
use Rattle.mk_decide.proofs.rows.RowsBefore.before.Goals as goal

pub returns-then-is_within-clause-exact : goal.returns-then-is_within-clause-exact
returns-then-is_within-clause-exact c =
    let jobs = c.self.inside.jobs.now in
    let words = c.self.inside.words.items in
    let first = c.self.inside.first in
    let n = c.args.a - first in
    let within = c.is_within.ensures.0 c.if-is_within.true in
    let second = subst (λ (jobs : Jobs). c.args.b < node_count jobs) (sym c.self.view_is) c.requires.second in
    let row : c.row_of.result.now ≡ row_at row_words words c.args.b = c.row_of.ensures.row ∙ ap (λ (ws : List ℕ). row_at row_words ws c.args.b) c.deref.ensures.value in
    let answers = row_answers jobs first words c.args.a c.args.b n c.self.invariant.rows second (omega (arith, within.0, within.1)) (omega (arith, within.0)) in
    let exact = subst (λ (ws : List ℕ). HasBit ws n ↔ Before jobs c.args.a c.args.b) (sym row) answers in
    subst (λ (jobs : Jobs). IsTrue c.has_bit.result ↔ Before jobs c.args.a c.args.b) c.self.view_is
    (λ yes_it. exact.0 (c.has_bit.ensures.0 yes_it), λ before. c.has_bit.ensures.1 (exact.1 before))

pub returns-then-is_prerequisite-clause-exact : goal.returns-then-is_prerequisite-clause-exact
returns-then-is_prerequisite-clause-exact c =
    subst (λ (jobs : Jobs). IsTrue true ↔ Before jobs c.args.a c.args.b) c.self.view_is
    (λ _. edge (c.is_prerequisite.ensures.0 c.if-is_prerequisite.true), λ _. refl)

pub returns-clause-exact : goal.returns-clause-exact
returns-clause-exact c =
    let jobs = c.self.inside.jobs.now in
    let words = c.fill_rows.new.words in
    let second = subst (λ (jobs : Jobs). c.args.b < node_count jobs) (sym c.self.view_is) c.requires.second in
    let whole : c.deref-2.result.now ≡ words = c.deref-2.ensures.value ∙ take_at words _ _ (omega arith) in
    let row : c.row_of-2.result.now ≡ row_at row_words words c.args.b = c.row_of-2.ensures.row ∙ ap (λ (ws : List ℕ). row_at row_words ws c.args.b) whole in
    let answers = row_answers jobs c.args.a words c.args.a c.args.b 0 c.fill_rows.ensures second (omega arith) (omega arith) in
    let exact = subst (λ (ws : List ℕ). HasBit ws 0 ↔ Before jobs c.args.a c.args.b) (sym row) answers in
    subst (λ (jobs : Jobs). IsTrue c.has_bit-2.result ↔ Before jobs c.args.a c.args.b) c.self.view_is
    (λ yes_it. exact.0 (c.has_bit-2.ensures.0 yes_it), λ before. c.has_bit-2.ensures.1 (exact.1 before))
