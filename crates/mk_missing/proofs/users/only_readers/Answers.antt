use Rattle.std.proofs.Common.{ℕ, List, get_or, subst, sym, take}
use Rattle.std.proofs.lemmas.List.{take_all, take_more}
use Rattle.mk_missing.specs.Users.{IsOnlyReader}
use Rattle.mk_missing.proofs.Keeping.{AreKept, kept_more}
use Rattle.mk_missing.proofs.users.only_readers.Goals as goal

pub loop-n-preserved : goal.loop-n-preserved
loop-n-preserved c =
    let holds = IsOnlyReader c.args.jobs.now c.args.writers.now c.args.file.now in
    let numbers = c.args.readers.now in
    let i = c.loop-n.n-index in
    subst (λ (ns : List ℕ). AreKept holds ns c.keep.new.numbers.items) (sym (take_more numbers i 0 c.loop-n-test.true))
    (kept_more holds (take i numbers) c.loop-n.kept.items c.keep.new.numbers.items (get_or numbers i 0) c.is_only_reader.result c.loop-n.invariant
    c.is_only_reader.ensures c.in_ok-keep.ensures.put c.in_ok-keep.ensures.same)

pub returns : goal.returns
returns c =
    let holds = IsOnlyReader c.args.jobs.now c.args.writers.now c.args.file.now in
    subst (λ (ns : List ℕ). AreKept holds ns c.loop-n.kept.items) (take_all c.loop-n.n-index c.args.readers.now c.loop-n-test.false) c.loop-n.invariant
