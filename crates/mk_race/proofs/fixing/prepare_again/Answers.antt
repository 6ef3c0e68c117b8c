use Rattle.std.proofs.Common.{◌∙◌, ◌++◌, ℕ, List, ap, subst, sym}
use Rattle.mk_name.specs.Gives.{Answers}
use Rattle.mk_race.specs.Stages.{IsPrepared, Texts}
use Rattle.mk_race.proofs.fixing.prepare_again.Goals as goal

pub returns : goal.returns
returns c = λ texts lines from.
    let makefile = c.in_ok-makefile.ensures.items ∙ sym (ap (λ (t : Texts). t.makefile) from.texts_are) in
    let joined = c.deref.ensures.value ∙ c.in_ok-extend_from_slice.ensures.items ∙ ap (λ (m : List ℕ). m ++ c.args.lines.now) makefile in
    subst (λ (m : List ℕ). Answers c.prepare_with.result (IsPrepared (record texts { makefile = m }) lines)) joined
    (c.prepare_with.ensures texts lines from)
