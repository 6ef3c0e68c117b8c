use Rattle.std.proofs.Common.{◌∙◌, ◌≡◌, ◌<◌, ◌||◌, ◌↔◌, Bool, true, false, IfSome, ap, get_or, refl, subst, sym}
use Rattle.mk_jobs.specs.Jobs.{Jobs, node_count}
use Rattle.mk_jobs.proofs.JobsLemmas.{shape_valid}
use Rattle.mk_missing.specs.Files.{WatchesFile, often}
use Rattle.mk_missing.specs.Finding.{WatchesWriter}
use Rattle.mk_missing.proofs.Using.{last_inside}
use Rattle.mk_missing.proofs.Seeing.{seen_writer, watches_is}
use Rattle.mk_missing.proofs.watching.watches.Goals as goal

pub returns-then-always-n : goal.returns-then-always-n
returns-then-always-n c = (λ _. often ((c.requires.always.marked c.args.n c.requires.node).0 c.if-always-n.true), λ _. refl)

pub returns-then-watches_writer : goal.returns-then-watches_writer
returns-then-watches_writer c =
    let jobs = c.args.jobs.now in
    let by = subst (λ (jobs : Jobs). (c.watches_writer.result ≡ true) ↔ WatchesWriter jobs c.args.users.now.last c.args.n) c.requires.same c.watches_writer.ensures in
    (λ _. seen_writer jobs (shape_valid c.requires.shape) c.args.n c.args.users.now.file c.requires.node c.args.users.now.last c.requires.users.last (by.0 c.if-watches_writer.true), λ _. refl)

pub returns : goal.returns
returns c =
    let jobs = c.args.jobs.now in
    let n = c.args.n in
    let p = c.args.users.now.file in
    let mark = get_or c.args.always.now n false in
    let a = c.watches_writer.result in
    let b = c.watches_name.result in
    let by = subst (λ (jobs : Jobs). (c.watches_writer.result ≡ true) ↔ WatchesWriter jobs c.args.users.now.last n) c.requires.same c.watches_writer.ensures in
    let all = watches_is jobs (shape_valid c.requires.shape) n p c.requires.node mark a b c.args.users.now.last (c.requires.always.marked n c.requires.node) c.requires.users.last by c.watches_name.ensures in
    let is : (mark || a || b) ≡ b = ap (λ (m : Bool). m || a || b) c.if-always-n.false ∙ ap (λ (x : Bool). x || b) c.if-watches_writer.false in
    subst (λ (t : Bool). (t ≡ true) ↔ WatchesFile jobs n p) is all

pub watches_writer-requires-clause-writer : goal.watches_writer-requires-clause-writer
watches_writer-requires-clause-writer c =
    subst (λ (jobs : Jobs). IfSome c.args.users.now.last (λ w. w < node_count jobs)) (sym c.requires.same)
    (last_inside c.args.jobs.now c.args.users.now.file c.args.users.now.last c.requires.shape c.requires.users.last)
