use Rattle.std.proofs.Common.{◌≡◌, ◌↔◌, ◌∙◌, Contains, List, ap, map, subst, sym}
use Rattle.std.proofs.lemmas.List.{take_all}
use Rattle.mk_path.specs.declared.path.Path.{Path}
use Rattle.mk_index.specs.Uses.{path_of}
use Rattle.mk_jobs.specs.Reaching.{uses_of}
use Rattle.mk_missing.specs.Files.{IsFile}
use Rattle.mk_missing.specs.Users.{files_of}
use Rattle.mk_missing.proofs.Gathering.{files_are, used_at}
use Rattle.mk_missing.proofs.users.all_users.Goals as goal

pub loop-place-preserved : goal.loop-place-preserved
loop-place-preserved c =
    used_at c.args.jobs.now c.deref-place-items.result.now c.loop-place.place-index _ c.loop-place.all.items c.push.new.self.items c.in_ok-users_of.field-0 c.loop-place-test.true c.loop-place.invariant
    c.in_ok-users_of.ensures.file c.in_ok-users_of.ensures.users c.in_ok-push.ensures.items

pub returns-clause-files : goal.returns-clause-files
returns-clause-files c =
    let jobs = c.args.jobs.now in
    let places = c.in_ok-places.places.items in
    let same : files_of c.loop-place.all.items ≡ map (path_of (uses_of jobs)) places =
    c.loop-place.invariant.files ∙ ap (map (path_of (uses_of jobs))) (take_all c.loop-place.place-index c.deref-place-items.result.now c.loop-place-test.false ∙ c.deref-place-items.ensures.value) in
    λ p. subst (λ (ps : List Path). Contains ps p ↔ IsFile jobs p) (sym same) (files_are jobs places c.in_ok-places.ensures.all p)
