use Rattle.std.proofs.Common.{◌≡◌, ◌∙◌, ◌+◌, ◌-◌, ◌^◌, ◌<◌, ◌≤◌, ℕ, List, [], ◌∷◌, ◌++◌, Err, None, Some, ap, arith, length, refl, subst, sym}
use Rattle.std.specs.Option.{option_to_list}
use Rattle.std.proofs.lemmas.List.{append-nil}
use Rattle.std.proofs.lemmas.Result.{err_from_is_err_and}
use Rattle.mk_name.specs.declared.fault.Kind.TheVariants.{BadFootprint, FootprintsTooLarge}
use Rattle.mk_name.specs.declared.fault.Source.TheVariants as sources
use Rattle.mk_text.specs.LineFeed.{HasStopped}
use Rattle.mk_foot.specs.Lines.{FootprintLine}
use Rattle.mk_foot.specs.FootReader.{HasUnited, United}
use Rattle.mk_foot.specs.Footprints.{AreFootprints, AreRead, lines_of, path_count, path_limit, reported_at}
use Rattle.mk_foot.proofs.FootReading.{bad_first, faults_stay, good_more, large_first, one_line, said_below, stops_by, whole_line}
use Rattle.mk_foot.proofs.foot_reader.FootSinkLineSink.add.Goals as goal

pub returns-in_err-line-clause-err : goal.returns-in_err-line-clause-err
returns-in_err-line-clause-err c =
    let p = err_from_is_err_and c.from_residual.result c.from_residual.ensures.1 in
    rw (p.1, p.2) (λ root ended whole before next.
    let text = c.args.text.now in
    let same : text ≡ whole = whole_line (2 ^ 64 - 1) text whole (omega arith) next.begins in
    let inside = subst (λ (u : United). HasUnited root u ended) (sym c.self.view_is) before in
    subst (λ (x : List ℕ). HasStopped sources.Footprints (AreRead root) (ended ++ x ∷ []) c.in_err-line.field-0.0) same
    (stops_by c.in_err-line.field-0.0 root (ended ++ text ∷ []) BadFootprint c.args.place c.in_err-line.ensures.fault
    (λ other. bad_first root ended text _ c.args.place inside next.place_is
    (said_below root c.root-root.result.now text None (c.root-root.ensures ∙ inside.united.root_is) (c.in_err-line.ensures.bad other)))))

pub returns-in_default-clause-ok : goal.returns-in_default-clause-ok
returns-in_default-clause-ok c = λ root ended whole before next.
    let text = c.args.text.now in
    let same : text ≡ whole = whole_line (2 ^ 64 - 1) text whole (omega arith) next.begins in
    let inside = subst (λ (u : United). HasUnited root u ended) (sym c.self.view_is) before in
    let none : path_count [] ≡ 0 = refl in
    subst (λ (x : List ℕ). HasUnited root (record { footprints = c.self.inside.footprints; paths = c.self.inside.paths }) (ended ++ x ∷ [])) same
    (good_more root ended text _ c.args.place inside next.place_is [] _
    (said_below root c.root-root.result.now text (Some []) (c.root-root.ensures ∙ inside.united.root_is)
    (c.in_ok-line.ensures.ok ∙ ap (λ o. Some (option_to_list o)) c.in_default.is))
    (omega (arith, none)) inside.few
    (subst (λ (ls : List FootprintLine). AreFootprints root c.self.inside.footprints ls) (sym (append-nil (lines_of root ended))) inside.united))

pub returns-then-paths-gt-PATH_LIMIT-clause-err : goal.returns-then-paths-gt-PATH_LIMIT-clause-err
returns-then-paths-gt-PATH_LIMIT-clause-err c = λ root ended whole before next.
    let text = c.args.text.now in
    let same : text ≡ whole = whole_line (2 ^ 64 - 1) text whole (omega arith) next.begins in
    let inside = subst (λ (u : United). HasUnited root u ended) (sym c.self.view_is) before in
    let line = c.in-Some.line in
    let over : path_limit < c.self.inside.paths + (length line.reads + length line.writes) = omega (arith, c.with_paths-paths.ensures, c.if-paths-gt-PATH_LIMIT.true) in
    λ more. faults_stay root (ended ++ whole ∷ []) more (reported_at FootprintsTooLarge c.args.place)
    (subst (λ (x : List ℕ). AreRead root (ended ++ x ∷ []) (Err (reported_at FootprintsTooLarge c.args.place))) same
    (large_first root ended text _ c.args.place inside next.place_is line
    (said_below root c.root-root.result.now text (Some (line ∷ [])) (c.root-root.ensures ∙ inside.united.root_is)
    (c.in_ok-line.ensures.ok ∙ ap (λ o. Some (option_to_list o)) c.in-Some.is))
    over))

pub returns-clause-ok : goal.returns-clause-ok
returns-clause-ok c = λ root ended whole before next.
    let text = c.args.text.now in
    let same : text ≡ whole = whole_line (2 ^ 64 - 1) text whole (omega arith) next.begins in
    let inside = subst (λ (u : United). HasUnited root u ended) (sym c.self.view_is) before in
    let line = c.in-Some.line in
    let count = c.with_paths-paths.result in
    let few : count ≤ path_limit = omega (arith, c.if-paths-gt-PATH_LIMIT.false) in
    let is : count ≡ c.self.inside.paths + path_count (line ∷ []) = omega (arith, c.with_paths-paths.ensures, few, one_line line) in
    subst (λ (x : List ℕ). HasUnited root (record { footprints = c.add.new.self; paths = count }) (ended ++ x ∷ [])) same
    (good_more root ended text _ c.args.place inside next.place_is (line ∷ []) _
    (said_below root c.root-root.result.now text (Some (line ∷ [])) (c.root-root.ensures ∙ inside.united.root_is)
    (c.in_ok-line.ensures.ok ∙ ap (λ o. Some (option_to_list o)) c.in-Some.is))
    is few (c.in_ok-add.ensures root (lines_of root ended) inside.united))
