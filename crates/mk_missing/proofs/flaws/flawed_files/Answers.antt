use Rattle.std.proofs.Common.{ℕ, ◌≡◌, ◌∙◌, ◌↔◌, true, ap, arith, subst, sym}
use Rattle.std.proofs.lemmas.List.{get_or_read}
use Rattle.mk_path.specs.declared.path.Path.{Path}
use Rattle.mk_path.specs.Paths.{path_at}
use Rattle.mk_missing.specs.Kinds.{HasFlaw}
use Rattle.mk_missing.specs.Users.{AreUsers, files_of}
use Rattle.mk_missing.specs.declared.users.Users.{Users}
use Rattle.mk_missing.proofs.Alone.{places_are}
use Rattle.mk_missing.proofs.Naming.{file_at}
use Rattle.mk_missing.proofs.Presents.{those_more, those_none}
use Rattle.mk_missing.proofs.flaws.flawed_files.Goals as goal

pub has_flaw-flawed-requires-clause-users : goal.has_flaw-flawed-requires-clause-users
has_flaw-flawed-requires-clause-users c =
    let users = c.args.users.now in
    let user = c.index-users-k.result in
    subst (AreUsers c.args.jobs.now) (sym (get_or_read users c.loop-k.k user c.loop-k-test.true c.index-users-k.is user)) (c.requires.users c.loop-k.k user c.loop-k-test.true)

pub loop-k-init : goal.loop-k-init
loop-k-init c = those_none (λ (k : ℕ). HasFlaw c.args.jobs.now c.args.listing.now c.args.flaw (path_at (files_of c.args.users.now) k)) c.new-found.result.items c.new-found.ensures.items

pub loop-k-preserved : goal.loop-k-preserved
loop-k-preserved c =
    let users = c.args.users.now in
    let k = c.loop-k.k in
    let user = c.index-users-k.result in
    let holds = HasFlaw c.args.jobs.now c.args.listing.now c.args.flaw in
    let at : path_at (files_of users) k ≡ user.file = file_at users k user c.loop-k-test.true ∙ ap (λ (u : Users). u.file) (sym (get_or_read users k user c.loop-k-test.true c.index-users-k.is user)) in
    let is : (c.has_flaw-flawed.result ≡ true) ↔ holds (path_at (files_of users) k) = subst (λ (p : Path). (c.has_flaw-flawed.result ≡ true) ↔ holds p) (sym at) c.has_flaw-flawed.ensures in
    those_more (λ (i : ℕ). holds (path_at (files_of users) i)) c.loop-k.found.items c.keep.new.numbers.items k c.has_flaw-flawed.result c.loop-k.invariant is
    (λ so. c.in_ok-keep.ensures.put so) (λ nay. c.in_ok-keep.ensures.same nay)

pub returns : goal.returns
returns c = places_are c.args.users.now (HasFlaw c.args.jobs.now c.args.listing.now c.args.flaw) c.loop-k.found.items c.loop-k.k (omega (arith, c.loop-k-test.false, c.loop-k.auto.k-end)) c.loop-k.invariant
