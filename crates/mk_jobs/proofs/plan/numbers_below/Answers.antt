use Rattle.std.proofs.Common.{◌∷◌, [], ap, arith, length}
use Rattle.std.proofs.lemmas.List.{length-append}
use Rattle.mk_jobs.proofs.Finding.{turn_more}
use Rattle.mk_jobs.proofs.plan.numbers_below.Goals as goal

pub loop-number-preserved : goal.loop-number-preserved
loop-number-preserved c =
    let i = c.loop-number.invariant in
    let is = c.in_ok-push.ensures.items in
    record {
      long = omega (arith, i.long, ap length is, length-append c.loop-number.numbers.items (c.loop-number.number ∷ []));
      each = turn_more c.loop-number.numbers.items c.push.new.self.items c.loop-number.number i.long i.each is;
    }
