use Rattle.std.proofs.Common.{◌≡◌, ℕ, List, Option, None, Some, inl, inr, option_map, refl, subst, sym, ap, ◌∙◌}
use Rattle.std.proofs.lemmas.Result.{IfOk-weaker}
use Rattle.std.specs.Borrow.{Bor}
use Rattle.std.specs.Option.{option_and_then}
use Rattle.std.specs.Prelude.{IfSome}
use Rattle.mk_text.specs.Lexical.{physical_lines}
use Rattle.mk_files.specs.Files.{Files}
use Rattle.mk_files.specs.Includes.{Pair, includes_in, pairs_of, shown}
use Rattle.mk_files.proofs.Included.{line_fails, lines_read, of_bytes}
use Rattle.mk_files.proofs.Reported.{err_more, ok_more}
use Rattle.mk_files.proofs.includes.read_includes.Goals as goal

module _ (files now : List ℕ → Option (List ℕ)) (same : now ≡ files) (path listed : List ℕ) (reads : IfSome (files path) (λ bytes. listed ≡ bytes))
    (texts : List Pair) (reported : (pairs : List Pair) → pairs_of now (physical_lines listed) ≡ Some pairs → texts ≡ pairs) (pairs : List Pair) where
  by_file : (file : Option (List ℕ)) → files path ≡ file → option_and_then (λ bytes. pairs_of files (physical_lines bytes)) file ≡ Some pairs → texts ≡ pairs
  by_file None is h = absurd (cc)
  by_file (Some bytes) is h =
      reported pairs (ap (λ (l : List ℕ). pairs_of now (physical_lines l)) (of_bytes (λ b. listed ≡ b) (files path) bytes is reads)
      ∙ ap (λ (f : List ℕ → Option (List ℕ)). pairs_of f (physical_lines bytes)) same ∙ h)

  -- what the lines of the file hand in, the file does
  file_in : (given : Option (List ℕ)) → given ≡ Some path → includes_in files given ≡ Some pairs → texts ≡ pairs
  file_in given is h = by_file (files path) refl (sym (ap (includes_in files) is) ∙ h)

pub returns-in_ok-listed-in-Some-clause-reported : goal.returns-in_ok-listed-in-Some-clause-reported
returns-in_ok-listed-in-Some-clause-reported g c =
    let is = ap (option_map (λ (p : Bor (List ℕ)). p.now)) c.in-Some.is in
    let reads = subst (λ (l : List ℕ). IfSome ((g.P.Opener.files c.args.opener.now).text c.in-Some.path.now) (λ bytes. l ≡ bytes)) (sym c.deref.ensures.value) c.in_ok-listed-in-Some.ensures.reported in
    IfOk-weaker c.read_listed.result _ _ (λ texts reported pairs handed.
    file_in (g.P.Opener.files c.args.opener.now).text (g.P.Opener.files c.read_file.new.opener).text (ap (λ (f : Files). f.text) c.read_file.ensures.same)
    c.in-Some.path.now c.deref.result.now reads (shown texts.items) reported pairs _ is handed)
    c.read_listed.ensures.reported

pub returns-in_ok-listed-in-Some-clause-read : goal.returns-in_ok-listed-in-Some-clause-read
returns-in_ok-listed-in-Some-clause-read g c =
    let is = ap (option_map (λ (p : Bor (List ℕ)). p.now)) c.in-Some.is in
    let reads = subst (λ (l : List ℕ). IfSome ((g.P.Opener.files c.args.opener.now).text c.in-Some.path.now) (λ bytes. l ≡ bytes)) (sym c.deref.ensures.value) c.in_ok-listed-in-Some.ensures.reported in
    ok_more _ _ c.read_listed.result (lines_read (g.P.Opener.files c.args.opener.now) (g.P.Opener.files c.read_file.new.opener) c.read_file.ensures.same
    c.in-Some.path.now c.deref.result.now reads _ is c.in_ok-listed-in-Some.ensures.read) c.read_listed.ensures.read

pub returns-in_ok-listed-in-Some-clause-failure : goal.returns-in_ok-listed-in-Some-clause-failure
returns-in_ok-listed-in-Some-clause-failure g c =
    let is = ap (option_map (λ (p : Bor (List ℕ)). p.now)) c.in-Some.is in
    let reads = subst (λ (l : List ℕ). IfSome ((g.P.Opener.files c.args.opener.now).text c.in-Some.path.now) (λ bytes. l ≡ bytes)) (sym c.deref.ensures.value) c.in_ok-listed-in-Some.ensures.reported in
    err_more _ _ c.read_listed.result (λ failure fails. elim fails [
      | inl memory ↦ inl memory
      | inr read ↦ inr (
        read.0,
        line_fails (g.P.Opener.files c.args.opener.now) (g.P.Opener.files c.read_file.new.opener) c.read_file.ensures.same
            c.in-Some.path.now c.deref.result.now reads _ is read.1,
      )
    ]) c.read_listed.ensures.failure
