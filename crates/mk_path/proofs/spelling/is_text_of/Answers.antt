use Rattle.std.proofs.Common.{◌≡◌, ◌++◌, ◌∷◌, [], sym, ap, ◌∙◌}
use Rattle.std.proofs.lemmas.Bool.{cond-true, false≢true}
use Rattle.mk_name.specs.Names.{same_name}
use Rattle.mk_name.proofs.Names.{name_is_exact}
use Rattle.mk_path.specs.Texts.{text_of}
use Rattle.mk_path.proofs.Spelled.{rest_is, slash_last, with_slash}
use Rattle.mk_path.proofs.spelling.is_text_of.Goals as goal

pub returns-in-Some : goal.returns-in-Some
returns-in-Some c =
    let name = c.args.path.now.name in
    let text = c.args.text.now in
    let spelled : text_of c.args.path.now ≡ name ++ 47 ∷ [] = cond-true c.args.path.now.tree _ _ c.if-not-path.false in
    let answer : c.eq-in-Some.result ≡ same_name name c.in-Some.name.now = c.eq-in-Some.ensures ∙ ap (λ bytes. same_name bytes c.in-Some.name.now) c.as_bytes-in-Some.ensures in (
      λ yes. spelled ∙ with_slash name text c.in-Some.ensures.cases.0 (name_is_exact.equal name c.in-Some.name.now (sym answer ∙ yes) ∙ c.in-Some.ensures.cases.1),
      λ is. answer ∙ ap (same_name name) (c.in-Some.ensures.cases.1 ∙ sym (rest_is name text (sym spelled ∙ is))) ∙ name_is_exact.itself name,
    )

pub returns-in-None : goal.returns-in-None
returns-in-None c =
    let spelled : text_of c.args.path.now ≡ c.args.path.now.name ++ 47 ∷ [] = cond-true c.args.path.now.tree _ _ c.if-not-path.false in (
      λ yes. absurd (false≢true yes),
      λ is. sym c.in-None.ensures.cases ∙ slash_last c.args.path.now.name c.args.text.now (sym spelled ∙ is),
    )
