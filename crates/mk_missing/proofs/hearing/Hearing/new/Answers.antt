use Rattle.std.proofs.Common.{◌≡◌, ◌*◌, ◌++◌, ap, arith, drop, length, subst, sym, take}
use Rattle.std.proofs.lemmas.List.{take_at}
use Rattle.mk_jobs.specs.Jobs.{node_count}
use Rattle.mk_missing.specs.Hearing.{IsFilled}
use Rattle.mk_missing.proofs.hearing.Hearing.new.Goals as goal

pub invariant_of-result : goal.invariant_of-result
invariant_of-result c =
    let jobs = c.args.jobs.now in
    let width = c.div_ceil-width.result in
    let new = c.fill_rows.new.words in
    let old = c.in_ok-words.words.items in
    let many : c.count-count.result * width ≡ node_count jobs * width = ap (λ n. n * width) c.count-count.ensures.count in
    let same : length new ≡ length old = omega (arith, c.fill_rows.auto.words, ap length c.deref_mut.ensures.value) in
    let whole : take c.in_ok-words.words.len (new ++ drop (length new) old) ≡ new = take_at new (drop (length new) old) c.in_ok-words.words.len (omega (arith, same, c.in_ok-words.words.ok.0)) in
    subst (IsFilled jobs width) (sym whole) (record {
      wide = omega (arith, c.div_ceil-width.ensures, c.count-count.ensures.count);
      long = omega (arith, same, many, c.in_ok-words.words.ok.0, c.in_ok-words.ensures.len);
      rows = c.fill_rows.ensures;
    })
