use Rattle.std.proofs.Common.{◌≡◌, ℕ, Bool, true, false, List, Option, None, refl, sym, ap, subst, ◌∙◌}
use Rattle.std.proofs.lemmas.Str.{IsUtf8-from_is_utf8, is_utf8-from_IsUtf8}
use Rattle.std.specs.Prelude.{option_map, IfOk, if◌then◌else◌}
use Rattle.std.specs.Str.{IsUtf8, is_utf8}
use Rattle.serde_json.specs.Data.{Data}
use Rattle.serde_json.specs.Read.{read}
use Rattle.mk_json.specs.Documents.{data_of}
use Rattle.mk_json.proofs.document.Document.read.Goals as goal

bad : (bytes : List ℕ) (meant : Option Data) (b : Bool) → is_utf8 bytes ≡ b → (IsUtf8 bytes → ⊥) → None ≡ (if b then meant else None)
bad bytes meant true is none = absurd (none (IsUtf8-from_is_utf8 bytes is))
bad bytes meant false is none = refl

pub returns-in-Ok : goal.returns-in-Ok
returns-in-Ok c =
    let bytes = c.args.text.now in
    let same = ap read c.in-Ok.ensures.cases.0 in
    let good = ap (λ b. if b then read bytes else None) (sym (is_utf8-from_IsUtf8 bytes c.in-Ok.ensures.cases.1)) in
    subst (λ meant. IfOk c.document_in.result (λ document. option_map data_of document ≡ meant)) (same ∙ good) c.document_in.ensures

pub returns-in-Err : goal.returns-in-Err
returns-in-Err c = bad c.args.text.now (read c.args.text.now) (is_utf8 c.args.text.now) refl c.in-Err.ensures.cases.0
