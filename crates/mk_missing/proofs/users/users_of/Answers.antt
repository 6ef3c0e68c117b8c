use Rattle.std.proofs.Common.{ℕ, ◌≡◌, ◌-◌, ◌<◌, ◌↔◌, ◌∙◌, All, Bool, true, Contains, List, length, subst, sym}
use Rattle.std.specs.Prelude.{slice_get}
use Rattle.std.proofs.lemmas.List.Elements.{Contains-get_or}
use Rattle.mk_path.specs.declared.path.Path.{Path}
use Rattle.mk_index.specs.Uses.{path_of}
use Rattle.mk_jobs.specs.Jobs.{node_count}
use Rattle.mk_jobs.specs.Reaching.{uses_of}
use Rattle.mk_missing.specs.Files.{reads_file, writes_file}
use Rattle.mk_missing.specs.Users.{IsOnlyReader}
use Rattle.mk_missing.proofs.Gathering.{last_most, over_reads, over_writes, reader_node, users_are}
use Rattle.mk_missing.proofs.Keeping.{AreKept}
use Rattle.mk_missing.proofs.users.users_of.Goals as goal

pub only_readers-requires-clause-nodes : goal.only_readers-requires-clause-nodes
only_readers-requires-clause-nodes c =
    let jobs = c.args.jobs.now in
    let p = path_of (uses_of jobs) c.args.place in
    let readers = c.in_ok-readers.readers.items in
    subst (λ (ns : List ℕ). All (λ n. n < node_count jobs) ns) (sym c.deref.ensures.value) (λ k d below.
    let there = (c.in_ok-readers.ensures.over _).0 (Contains-get_or readers k d below) in
    reader_node jobs _ p c.count-count.ensures.shape (sym (over_reads jobs _ p) ∙ there))

pub returns-clause-users : goal.returns-clause-users
returns-clause-users c =
    let jobs = c.args.jobs.now in
    let p = path_of (uses_of jobs) c.args.place in
    let file = c.in_ok-file.file in
    let same : file ≡ p = c.in_ok-file.ensures ∙ c.path.ensures in
    let readers = c.in_ok-readers.readers.items in
    let writers = c.in_ok-writers.writers.items in
    let reads : (n : ℕ) → Contains readers n ↔ (reads_file jobs n file ≡ true) =
    λ n. subst (λ (q : Path). Contains readers n ↔ (reads_file jobs n q ≡ true)) (sym same) (subst (λ (b : Bool). Contains readers n ↔ (b ≡ true)) (over_reads jobs n p) (c.in_ok-readers.ensures.over n)) in
    let writes : (n : ℕ) → Contains writers n ↔ (writes_file jobs n file ≡ true) =
    λ n. subst (λ (q : Path). Contains writers n ↔ (writes_file jobs n q ≡ true)) (sym same) (subst (λ (b : Bool). Contains writers n ↔ (b ≡ true)) (over_writes jobs n p) (c.in_ok-writers.ensures.over n)) in
    let kept = c.in_ok-only_readers.field-0.items in
    let inputs = subst (λ (ws : List ℕ). AreKept (IsOnlyReader jobs ws file) readers kept) c.deref-2.ensures.value
    (subst (λ (ns : List ℕ). AreKept (IsOnlyReader jobs c.deref-2.result.now file) ns kept) c.deref.ensures.value c.in_ok-only_readers.ensures) in
    let last = subst (λ (ns : List ℕ). c.copied.result ≡ slice_get ns (length ns - 1)) c.deref-3.ensures.value (c.copied.ensures ∙ c.last.ensures.value) in
    users_are jobs (record { file = file; inputs = c.in_ok-only_readers.field-0; writers = c.in_ok-writers.writers; last = c.copied.result }) readers reads writes inputs
    (last_most writers c.copied.result c.in_ok-writers.ensures.rise last)
