use Rattle.std.proofs.Common.{[], ◌++◌, ◌∙◌, ap, inl, inr, refl}
use Rattle.std.proofs.lemmas.Result.{err_from_is_err_and}
use Rattle.std.specs.Option.{option_map_or}
use Rattle.mk_text.specs.Lexical.{physical_lines}
use Rattle.mk_files.specs.Files.{Files}
use Rattle.mk_files.specs.Includes.{shown}
use Rattle.mk_files.proofs.Included.{all_may, line_more, none_more, none_yet, one_fails, one_more}
use Rattle.mk_files.proofs.includes.read_listed.Goals as goal

pub lines-init : goal.lines-init
lines-init g c = record {
  reported = λ pairs is. (pairs, is, ap (λ texts. shown texts ++ pairs) c.new-texts.ensures.items);
  read = none_yet _ _;
  same = refl;
}

pub lines-preserved : goal.lines-preserved
lines-preserved g c = record {
  reported = λ pairs is.
      let before = rw c.in-Some.is at c.lines.invariant.reported pairs is in
      line_more (g.P.Opener.files c.args.opener.now).text (g.P.Opener.files c.lines.opener).text (λ path. ap (λ (f : Files). f.text path) c.lines.invariant.same)
      c.split_line.result.0.now (physical_lines c.in-Some.listed.now)
      (option_map_or (λ rest. physical_lines rest.now) c.split_line.result.1 []) (shown c.lines.texts.items) (shown c.read_line.new.texts.items) pairs before.0 c.split_line.ensures.lines before.1 before.2
      c.in_ok-read_line.ensures.reported;
  read = one_more _ _ c.lines.invariant.same _ _ _ c.split_line.result.0.now (rw c.in-Some.is at c.lines.invariant.read) c.split_line.ensures.lines c.in_ok-read_line.ensures.read;
  same = c.in_ok-read_line.ensures.same ∙ c.lines.invariant.same;
}

pub returns-in_err-read_line-clause-failure : goal.returns-in_err-read_line-clause-failure
returns-in_err-read_line-clause-failure g c =
    let p = err_from_is_err_and c.from_residual.result c.from_residual.ensures.1 in
    rw (p.1, p.2) (elim c.in_err-read_line.ensures.failure [
      | inl memory ↦ inl memory
      | inr read ↦ inr (read.0, one_fails _ _ c.lines.invariant.same _ _ _ c.split_line.result.0.now (rw c.in-Some.is at c.lines.invariant.read) c.split_line.ensures.lines read.1)
    ])

pub returns-clause-reported : goal.returns-clause-reported
returns-clause-reported g c = λ pairs is.
    let before = rw c.in_default.is at c.lines.invariant.reported pairs is in
    none_more (shown c.lines.texts.items) pairs before.0 before.1 before.2

pub returns-clause-read : goal.returns-clause-read
returns-clause-read g c = all_may _ _ (rw c.in_default.is at c.lines.invariant.read)
