use Rattle.std.proofs.Common.{List, map, refl, ℕ}
use Rattle.std.specs.Borrow.{Bor}
use Rattle.mk_files.specs.Includes.{Pair}
use Rattle.mk_program.proofs.Replies.{own_answer, own_failure}
use Rattle.mk_program.proofs.answers.answer_with.Goals as goal

abbrev pairs : List (Bor (List ℕ) × Bor (List ℕ)) → List Pair
pairs = map (λ (pair : Bor (List ℕ) × Bor (List ℕ)). (pair.0.now, pair.1.now))

pub returns-in-Order-clause-failure : goal.returns-in-Order-clause-failure
returns-in-Order-clause-failure g c =
    own_failure (g.P.Opener.files c.args.opener.now) c.args.request.now (pairs c.args.includes.now) c.order_reply.result _ c.in-Order.is _ refl
    c.order_reply.ensures.failure

pub returns-in-Order-clause-answer : goal.returns-in-Order-clause-answer
returns-in-Order-clause-answer g c =
    own_answer (g.P.Opener.files c.args.opener.now) c.args.request.now (pairs c.args.includes.now) c.order_reply.result _ c.in-Order.is _ refl
    c.order_reply.ensures.answer

pub returns-in-Jobs-clause-answer : goal.returns-in-Jobs-clause-answer
returns-in-Jobs-clause-answer g c =
    own_answer (g.P.Opener.files c.args.opener.now) c.args.request.now (pairs c.args.includes.now) c.job_reply.result _ c.in-Jobs.is _ refl
    c.job_reply.ensures.answer

pub returns-in-Tasks-clause-failure : goal.returns-in-Tasks-clause-failure
returns-in-Tasks-clause-failure g c =
    own_failure (g.P.Opener.files c.args.opener.now) c.args.request.now (pairs c.args.includes.now) c.tasks_reply.result _ c.in-Tasks.is _ refl
    c.tasks_reply.ensures.failure

pub returns-in-Tasks-clause-answer : goal.returns-in-Tasks-clause-answer
returns-in-Tasks-clause-answer g c =
    own_answer (g.P.Opener.files c.args.opener.now) c.args.request.now (pairs c.args.includes.now) c.tasks_reply.result _ c.in-Tasks.is _ refl
    c.tasks_reply.ensures.answer
