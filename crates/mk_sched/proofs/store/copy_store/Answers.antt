use Rattle.std.proofs.Common.{◌≡◌, ◌++◌, ◌∷◌, [], sym, ap, ◌∙◌, subst, append_assoc}
use Rattle.mk_sched.specs.Stored.{IsInOrder, StoredFiles, with_file}
use Rattle.mk_sched.proofs.Storing.{put_last}
use Rattle.mk_sched.proofs.store.copy_store.Goals as goal

pub loop-name-preserved : goal.loop-name-preserved
loop-name-preserved c =
    let k = c.in-Some.name.now in
    let f = c.in-Some.file.now in
    let rest : StoredFiles = c.next.new.self in
    let whole : c.loop-name.copy ++ (k, f) ∷ rest ≡ c.args.store.now = subst (λ (left : StoredFiles). c.loop-name.copy ++ left ≡ c.args.store.now) c.in-Some.ensures.steps c.loop-name.invariant in
    let in_order = subst (λ (files : StoredFiles). IsInOrder files) (sym whole) c.files-name-items.ensures.in_order in
    let bytes = c.in_ok-copy-2.ensures ∙ c.contents.ensures in
    let put : c.put.new.self ≡ c.loop-name.copy ++ (k, f) ∷ [] = c.in_ok-put.ensures.files ∙ (λ i. with_file c.loop-name.copy (c.in_ok-copy.ensures i) (record { bytes = bytes i; time = c.time.ensures i })) ∙ put_last c.loop-name.copy k f rest in_order in
    ap (λ (files : StoredFiles). files ++ rest) put ∙ append_assoc c.loop-name.copy ((k, f) ∷ []) rest ∙ whole
