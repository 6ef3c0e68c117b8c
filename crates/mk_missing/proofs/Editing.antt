-- An edit of a store whose nodes are settled leaves one whose nodes are known: what changed makes each node run that watches it.
use Rattle.std.proofs.Common.{ℕ, ◌≡◌, inl, inr, Bool, true, false, Option, Some, None, sym, ap, ◌∙◌, subst, lt-ltb}
use Rattle.std.proofs.lemmas.Bool.{false≢true, or_left, or_right}
use Rattle.mk_name.specs.Names.{Name}
use Rattle.mk_jobs.specs.Jobs.{Jobs, IsValid, IsPrerequisite, name_of, is_live, is_phony, may_write}
use Rattle.mk_jobs.proofs.JobsLemmas.{writer_live, live_node}
use Rattle.mk_sched.specs.Stores.{File, Store, bytes_of, outdates}
use Rattle.mk_sched.proofs.Basics.{split, split_option}
use Rattle.mk_missing.specs.Watching.{makes_own, IsLastWriter, Watches, always, named, through, written, never, IsInput, IsDeclared}
use Rattle.mk_missing.specs.Incremental.{HasSources, IsNewer, same, source, removed, IsEdit}
use Rattle.mk_missing.specs.Laws.{WillRun, stale, carried, EditIsKnown}
use Rattle.mk_missing.proofs.Waking.{absent_if, phony_stale, absent_stale, stale_by, never_there, will_always}

-- a file that is gone is newer than all, as IsNewer has it
gone_is_newer : (store : Store) (new : Option File) → new ≡ None → IsNewer store new
gone_is_newer store new none = λ file some. absurd (cc)

module _ (jobs : Jobs) (fixed : Name → Bool) (old new : Store) (valid : IsValid jobs) (declared : IsDeclared jobs fixed) (had : HasSources jobs old) (edit : IsEdit jobs fixed old new) where
  -- a live node's file that is there was there before
  own_was : (n : ℕ) (own : File) → is_live jobs n ≡ true → is_phony jobs n ≡ false → new (name_of jobs n) ≡ Some own → old (name_of jobs n) ≡ Some own
  own_was n own live plain some = elim (edit.each (name_of jobs n)) [
    | same is ↦ sym is ∙ some
    | source free loose later ↦ let none = absent_if _ (edit.sources n (live_node jobs n live) (free n) ∙ declared.absent n live plain) in cc
    | removed m is makes gone ↦ cc
  ]

  -- so a node whose prerequisite is gone, or newer than all, is stale
  newer_wakes : (n p : ℕ) → is_live jobs n ≡ true → IsPrerequisite jobs p n → IsNewer old (new (name_of jobs p)) → WillRun jobs new n
  newer_wakes n p live step newer = stale live (split (is_phony jobs n)
      (λ phony. phony_stale jobs false new n phony)
      (λ plain. stale_by jobs false new n p step (λ own some. or_right _ _ (split_option (new (name_of jobs p))
      (λ none. ap (outdates false (Some own)) none)
      (λ file here. ap (outdates false (Some own)) here ∙ or_left _ _ (lt-ltb own.time file.time (newer file here (name_of jobs n) own (own_was n own live plain some))))))))

  -- a last writer whose own file was removed will run
  removed_runs : (m w : ℕ) (x : Name) → name_of jobs m ≡ x → makes_own jobs m ≡ true → new x ≡ None → IsLastWriter jobs w x → WillRun jobs new w
  removed_runs m w x is makes gone last =
      let live = writer_live jobs m (name_of jobs m) makes in
      let own : w ≡ m = valid.own w m (live_node jobs m live) (subst (λ y. may_write jobs w y ≡ true) (sym is) last.writes) in
      subst (WillRun jobs new) (sym own) (stale live (absent_stale jobs false new m (ap new is ∙ gone)))

  -- a node that watches x will run, or x has not changed
  watching_runs : (n : ℕ) (x : Name) → is_live jobs n ≡ true → (WillRun jobs new n → ⊥) → ((w : ℕ) → IsLastWriter jobs w x → WillRun jobs new w) → IsNewer old (new x) → Watches jobs n x → bytes_of (old x) ≡ bytes_of (new x)
  watching_runs n x live calm writer newer (always often) = absurd (calm (will_always jobs new n valid edit.sources often))
  watching_runs n x live calm writer newer (named (p, step, is)) = absurd (calm (newer_wakes n p live step (subst (λ y. IsNewer old (new y)) (sym is) newer)))
  watching_runs n x live calm writer newer (through {k = k} live_k (p, step, is) way) = absurd (calm (carried (newer_wakes k p live_k step (subst (λ y. IsNewer old (new y)) (sym is) newer)) way))
  watching_runs n x live calm writer newer (written {w = w} last way) = absurd (calm (carried (writer w last) way))
  watching_runs n x live calm writer newer (never {p = p} inside is nowhere) =
      ap bytes_of (subst (λ y. old y ≡ new y) is (never_there jobs old p had inside nowhere ∙ sym (never_there jobs new p edit.sources inside nowhere)))

  input_stays : (n : ℕ) (x : Name) → is_live jobs n ≡ true → (WillRun jobs new n → ⊥) → IsInput jobs n x → bytes_of (old x) ≡ bytes_of (new x)
  input_stays n x live calm input = elim (edit.each x) [
    | same is ↦ ap bytes_of (sym is)
    | source free loose newer ↦ elim (declared.watched n x input) [
      | inl tight ↦ absurd (false≢true (sym loose ∙ tight))
      | inr watches ↦ watching_runs n x live calm (λ w last. absurd (false≢true (sym (free w) ∙ last.writes))) newer watches
    ]
    | removed m is makes gone ↦ elim (declared.watched n x input) [
      | inl tight ↦ absurd (false≢true (sym (declared.made m (name_of jobs m) makes) ∙ ap fixed is ∙ tight))
      | inr watches ↦ watching_runs n x live calm (λ w last. removed_runs m w x is makes gone last) (gone_is_newer old (new x) gone) watches
    ]
  ]

  last_stays : (n : ℕ) (x : Name) → (WillRun jobs new n → ⊥) → IsLastWriter jobs n x → bytes_of (new x) ≡ bytes_of (old x)
  last_stays n x calm last = elim (edit.each x) [
    | same is ↦ ap bytes_of is
    | source free loose newer ↦ absurd (false≢true (sym (free n) ∙ last.writes))
    | removed m is makes gone ↦ absurd (calm (removed_runs m n x is makes gone last))
  ]

pub edit_is_known : EditIsKnown
edit_is_known jobs programs fixed old new valid declared had edit settled n live calm =
    let s = settled n live in
    record {
      start = s.start;
      history = s.history;
      does = s.does;
      afresh = s.afresh;
      inputs = λ x input. s.inputs x input ∙ input_stays jobs fixed old new valid declared had edit n x live calm input;
      stays = λ x last. last_stays jobs fixed old new valid declared had edit n x calm last ∙ s.stays x last;
    }
