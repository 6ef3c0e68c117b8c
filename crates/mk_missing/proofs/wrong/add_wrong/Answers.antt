use Rattle.std.proofs.Common.{ℕ, ◌≡◌, ◌⊎◌, ◌∙◌, true, false, Contains, List, get_or, take, ap, inl, inr, refl, subst, sym}
use Rattle.std.proofs.lemmas.List.{get_or_read, take_all, take_more}
use Rattle.mk_path.specs.Paths.{path_at}
use Rattle.mk_jobs.specs.Jobs.{Jobs}
use Rattle.mk_missing.specs.Kinds.{IsFine, IsWrong}
use Rattle.mk_missing.specs.Users.{AreUsers, files_of}
use Rattle.mk_missing.specs.declared.users.Users.{Users}
use Rattle.mk_missing.proofs.Adding.{Adding, added, adding_more, adding_none}
use Rattle.mk_missing.proofs.Naming.{file_at}
use Rattle.mk_missing.proofs.Using.{fine_or}
use Rattle.mk_missing.proofs.wrong.add_wrong.Goals as goal

pub loop-n-init : goal.loop-n-init
loop-n-init c =
    let jobs = c.args.checker.now in
    record {
      adding = adding_none (files_of c.args.users.now) (IsWrong jobs c.args.kind) (IsFine jobs c.args.kind) c.args.pairs.now.items c.args.k c.requires.found;
      same = refl;
    }

pub loop-n-preserved : goal.loop-n-preserved
loop-n-preserved c =
    let jobs = c.args.checker.now in
    let kind = c.args.kind in
    let users = c.args.users.now in
    let files = files_of users in
    let k = c.args.k in
    let user = c.index-users-k.result in
    let nodes = c.nodes_of-n-items.result.now in
    let i = c.loop-n.n-index in
    let n = get_or nodes i 0 in
    let fine = c.is_fine-fine.result in
    let at : path_at files k ≡ user.file = file_at users k user c.requires.place ∙ ap (λ (u : Users). u.file) (sym (get_or_read users k user c.requires.place c.index-users-k.is user)) in
    let good : fine ≡ true → IsFine jobs kind n (path_at files k) =
    λ so. subst (IsFine jobs kind n) (sym at) (subst (λ (j : Jobs). IsFine j kind n user.file) c.loop-n.invariant.same (c.is_fine-fine.ensures.fine so)) in
    let bad : fine ≡ false → IsWrong jobs kind n (path_at files k) =
    λ nay. subst (IsWrong jobs kind n) (sym at) (subst (λ (j : Jobs). IsWrong j kind n user.file) c.loop-n.invariant.same (c.is_fine-fine.ensures.wrong nay)) in
    record {
      adding = subst (λ (ns : List ℕ). Adding files (IsWrong jobs kind) (IsFine jobs kind) c.args.pairs.now.items k ns c.put.new.pairs.items) (sym (take_more nodes i 0 c.loop-n-test.true))
          (adding_more files (IsWrong jobs kind) (IsFine jobs kind) c.args.pairs.now.items k (take i nodes) n c.loop-n.pairs.items c.put.new.pairs.items fine c.loop-n.invariant.adding good bad
          c.in_ok-put.ensures.kept c.in_ok-put.ensures.put);
      same = c.is_fine-fine.ensures.keeps ∙ c.loop-n.invariant.same;
    }

pub returns-clause-found : goal.returns-clause-found
returns-clause-found c =
    let jobs = c.args.checker.now in
    let kind = c.args.kind in
    let users = c.args.users.now in
    let files = files_of users in
    let k = c.args.k in
    let user = c.index-users-k.result in
    let nodes = c.nodes_of-n-items.result.now in
    let is = get_or_read users k user c.requires.place c.index-users-k.is user in
    let at : path_at files k ≡ user.file = file_at users k user c.requires.place ∙ ap (λ (u : Users). u.file) (sym is) in
    let are : AreUsers jobs user = subst (AreUsers jobs) (sym is) (c.requires.users k user c.requires.place) in
    let others : (n : ℕ) → Contains nodes n ⊎ IsFine jobs kind n (path_at files k) = λ n. elim (fine_or jobs user are kind n) [
      | inl there ↦ inl (subst (λ (ns : List ℕ). Contains ns n) (sym c.nodes_of-n-items.ensures) there)
      | inr fine ↦ inr (subst (IsFine jobs kind n) (sym at) fine)
    ] in
    let done = subst (λ (ns : List ℕ). Adding files (IsWrong jobs kind) (IsFine jobs kind) c.args.pairs.now.items k ns c.loop-n.pairs.items) (take_all c.loop-n.n-index nodes c.loop-n-test.false) c.loop-n.invariant.adding in
    added files (IsWrong jobs kind) (IsFine jobs kind) c.args.pairs.now.items k nodes c.loop-n.pairs.items c.requires.found done others
