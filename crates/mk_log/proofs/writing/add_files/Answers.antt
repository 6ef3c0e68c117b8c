use Rattle.std.proofs.Common.{◌≡◌, ◌∷◌, ◌++◌, [], List, map, sym, subst, ◌∙◌, append_assoc}
use Rattle.std.proofs.lemmas.List.{append-nil, map-append}
use Rattle.std.proofs.lemmas.Result.{err_from_is_err_and}
use Rattle.mk_name.specs.Names.{Name}
use Rattle.mk_sched.specs.Stores.{File}
use Rattle.mk_sched.specs.Stored.{StoredFiles}
use Rattle.mk_log.specs.Spelled.{Adds, file_entry}
use Rattle.mk_log.specs.declared.entry.Entry.{Entry}
use Rattle.mk_log.proofs.Lines.{more_added, not_all_there}
use Rattle.mk_log.proofs.writing.add_files.Goals as goal

pub loop-path-preserved : goal.loop-path-preserved
loop-path-preserved c =
    let placed : Name × File = (c.in-Some.path.now, c.in-Some.file.now) in
    let done = c.loop-path.invariant.0 in
    let rest : StoredFiles = c.next.new.self in
    let whole : done ++ placed ∷ rest ≡ c.args.store.now =
    subst (λ (left : StoredFiles). done ++ left ≡ c.args.store.now) c.in-Some.ensures.steps c.loop-path.invariant.1 in (
      done ++ placed ∷ [],
      append_assoc done (placed ∷ []) rest ∙ whole,
      λ jobs. subst (λ (entries : List Entry). Adds jobs entries c.args.text.now.items c.add_file.new.text.items)
          (sym (map-append file_entry done (placed ∷ [])))
          (more_added jobs (map file_entry done) (file_entry placed ∷ []) _ _ _ (c.loop-path.invariant.2 jobs) (c.in_ok-add_file.ensures.adds jobs)),
    )

pub returns-in_err-add_file-clause-not_text : goal.returns-in_err-add_file-clause-not_text
returns-in_err-add_file-clause-not_text c =
    let p = err_from_is_err_and c.from_residual.result c.from_residual.ensures.1 in
    let placed : Name × File = (c.in-Some.path.now, c.in-Some.file.now) in
    let done = c.loop-path.invariant.0 in
    let rest : StoredFiles = c.next.new.self in
    let whole : done ++ placed ∷ rest ≡ c.args.store.now =
    subst (λ (left : StoredFiles). done ++ left ≡ c.args.store.now) c.in-Some.ensures.steps c.loop-path.invariant.1 in
    rw (p.1, p.2) (λ is. not_all_there done placed rest c.args.store.now whole (c.in_err-add_file.ensures.not_text is))

pub returns-clause-adds : goal.returns-clause-adds
returns-clause-adds c = λ jobs.
    let whole : c.loop-path.invariant.0 ≡ c.args.store.now =
    sym (append-nil c.loop-path.invariant.0) ∙ subst (λ (left : StoredFiles). c.loop-path.invariant.0 ++ left ≡ c.args.store.now) c.in-None.ensures.steps.0 c.loop-path.invariant.1 in
    subst (λ (files : StoredFiles). Adds jobs (map file_entry files) c.args.text.now.items c.loop-path.text.items) whole (c.loop-path.invariant.2 jobs)
