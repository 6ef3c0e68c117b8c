use Rattle.std.proofs.Common.{ℕ, ◌-◌, ◌++◌, List, ap, arith, drop, length, map, subst, sym, take, ◌∙◌}
use Rattle.std.proofs.lemmas.List.{length-map}
use Rattle.mk_path.specs.declared.path.Path.{Path}
use Rattle.mk_index.specs.Gather.{IsStep, upwards}
use Rattle.mk_path.proofs.Numbering.{behind}
use Rattle.mk_index.proofs.Uniting.{on_ok, path_is, put_both_more, put_ok, run_counts, run_long, run_more, run_more_second, run_of, run_ok}
use Rattle.mk_index.proofs.gather.Union.put.Goals as goal

pub returns-in-Less-clause-united : goal.returns-in-Less-clause-united
returns-in-Less-clause-united c =
    let first = map behind c.args.first.now in
    let second = map behind c.args.second.now in
    let old = c.args.self.now in
    let new = c.put_run.new in
    let start = c.len-i.result in
    let end = c.run_end-end.result in
    let run = c.run_end-end.ensures in
    run_ok c.put_run.result c.put_run.ensures.paths c.put_run.ensures.few c.put_run.ensures.numbers
    (λ paths few numbers.
    run_more first second (map behind old.paths.items) (map behind new.paths.items) old.firsts.items new.numbers.items old.seconds.items start c.len-j.result end
    (length old.paths.items) c.requires.first c.requires.united (c.len-i.ensures ∙ old.firsts.ok.0) (c.len-j.ensures ∙ old.seconds.ok.0) run.more
    (omega (arith, run.within, length-map c.args.first.now behind)) run.before
    (paths ∙ ap (λ (ps : List Path). map behind old.paths.items ++ ps) (run_of c.args.first.now start (end - start)))
    (omega (arith, few, length-map new.paths.items behind))
    (numbers ∙ ap (λ (n : ℕ). old.firsts.items ++ upwards (length old.paths.items) n) (run_long c.args.first.now start end run.within)) (sym (length-map old.paths.items behind)))

pub returns-in-Less-clause-more : goal.returns-in-Less-clause-more
returns-in-Less-clause-more c =
    let old = c.args.self.now in
    let run = c.run_end-end.ensures in
    let long = run_long c.args.first.now c.len-i.result c.run_end-end.result run.within in
    on_ok c.put_run.result c.put_run.ensures.numbers
    (λ numbers. let counts = run_counts old.firsts.items c.put_run.new.numbers.items (length old.paths.items)
    (length (take (c.run_end-end.result - c.len-i.result) (drop c.len-i.result c.args.first.now))) (omega (arith, long, run.more)) numbers in omega (arith, counts))

pub returns-in-Greater-clause-united : goal.returns-in-Greater-clause-united
returns-in-Greater-clause-united c =
    let first = map behind c.args.first.now in
    let second = map behind c.args.second.now in
    let old = c.args.self.now in
    let new = c.put_run-in-Greater.new in
    let start = c.len-j.result in
    let end = c.run_end-end-in-Greater.result in
    let run = c.run_end-end-in-Greater.ensures in
    run_ok c.put_run-in-Greater.result c.put_run-in-Greater.ensures.paths c.put_run-in-Greater.ensures.few c.put_run-in-Greater.ensures.numbers
    (λ paths few numbers.
    run_more_second first second (map behind old.paths.items) (map behind new.paths.items) old.firsts.items old.seconds.items new.numbers.items start c.len-i.result end
    (length old.paths.items) c.requires.second c.requires.united (c.len-j.ensures ∙ old.seconds.ok.0) (c.len-i.ensures ∙ old.firsts.ok.0) run.more
    (omega (arith, run.within, length-map c.args.second.now behind)) run.before
    (paths ∙ ap (λ (ps : List Path). map behind old.paths.items ++ ps) (run_of c.args.second.now start (end - start)))
    (omega (arith, few, length-map new.paths.items behind))
    (numbers ∙ ap (λ (n : ℕ). old.seconds.items ++ upwards (length old.paths.items) n) (run_long c.args.second.now start end run.within)) (sym (length-map old.paths.items behind)))

pub returns-in-Greater-clause-more : goal.returns-in-Greater-clause-more
returns-in-Greater-clause-more c =
    let old = c.args.self.now in
    let run = c.run_end-end-in-Greater.ensures in
    let long = run_long c.args.second.now c.len-j.result c.run_end-end-in-Greater.result run.within in
    on_ok c.put_run-in-Greater.result c.put_run-in-Greater.ensures.numbers
    (λ numbers. let counts = run_counts old.seconds.items c.put_run-in-Greater.new.numbers.items (length old.paths.items)
    (length (take (c.run_end-end-in-Greater.result - c.len-j.result) (drop c.len-j.result c.args.second.now))) (omega (arith, long, run.more)) numbers in omega (arith, counts))

pub returns-in-Equal-clause-united : goal.returns-in-Equal-clause-united
returns-in-Equal-clause-united c =
    let first = map behind c.args.first.now in
    let second = map behind c.args.second.now in
    let old = c.args.self.now in
    let new = c.put_both.new.self in
    let step = subst (IsStep first second (length old.firsts.items) (length old.seconds.items)) c.in-Equal.is c.requires.step in
    let is = path_is c.args.first.now c.index-first-i.result c.len-i.result (length old.firsts.items) c.index-first-i.is (c.len-i.ensures ∙ old.firsts.ok.0) step.0 in
    put_ok c.put_both.result c.put_both.ensures.paths c.put_both.ensures.few c.put_both.ensures.firsts c.put_both.ensures.seconds
    (λ paths few firsts seconds.
    put_both_more first second (map behind old.paths.items) (map behind new.paths.items) c.index-first-i.result.now old.firsts.items old.seconds.items new.firsts.items new.seconds.items
    (length old.paths.items) c.requires.first c.requires.second c.requires.united step is paths (omega (arith, few, length-map new.paths.items behind)) firsts seconds
    (sym (length-map old.paths.items behind)))
