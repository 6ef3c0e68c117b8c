-- What is written of the objects of a log reads as these objects.
use Rattle.std.proofs.Common.{◌≡◌, ℕ, ◌<◌, ◌≤◌, ◌^◌, List, [], ◌∷◌, ◌++◌, Option, None, Some, option_and_then, refl, sym, ap, ◌∙◌, subst, arith, append-nil}
use Rattle.std.proofs.lemmas.Str.{is_utf8-from_IsUtf8}
use Rattle.std.specs.Str.{IsUtf8}
use Rattle.json.specs.Json as json
use Rattle.json.specs.Lex.{tokens}
use Rattle.json.specs.Print.{print}
use Rattle.json.specs.Token.{Token}
use Rattle.json.specs.Tree as tree
use Rattle.json.proofs.Printed.Trees.{value-json_tokens}
use Rattle.serde_json.specs.Data.{Data}
use Rattle.serde_json.specs.Read.{max_depth, of_json, read}
use Rattle.serde_json.specs.Written.{compact_text, outline}
use Rattle.serde_json.proofs.Numbers.{number_of-decimal}
use Rattle.serde_json.proofs.Texts.{print-outline}
use Rattle.mk_name.specs.Names.{Name}
use Rattle.mk_foot.specs.Json.{value_of}
use Rattle.mk_jobs.specs.Jobs.{Jobs}
use Rattle.mk_sched.specs.Stores.{Bytes}
use Rattle.mk_sched.specs.declared.event.Event.{Event}
use Rattle.mk_sched.specs.declared.event.Event.TheVariants.{Skip, Start, Look, Put, Erase, Finish}
use Rattle.mk_log.specs.Gained.{tokens_of}
use Rattle.mk_log.specs.Objects.{event_object, file_object}
use Rattle.mk_log.specs.Spelled.{IsSized}
use Rattle.mk_log.specs.Writing.{line_of}

-- data whose JSON is read as the data
pub record IsKept (d : Data) : Type 0 where
  pub reads : of_json (outline d) ≡ Some d
  pub shallow : tree.depth (outline d) ≤ max_depth

pub file_kept : (path : Name) (bytes : Bytes) (time : ℕ) → time < 2 ^ 64 → IsKept (file_object path (record { bytes = bytes; time = time }))
file_kept path bytes time fits = record { reads = rw (number_of-decimal time fits) refl; shallow = omega arith }

look_kept : (jobs : Jobs) (n : ℕ) (path : Name) (seen : Option Bytes) → IsKept (event_object jobs (Look n path seen))
look_kept jobs n path None = record { reads = refl; shallow = omega arith }
look_kept jobs n path (Some bytes) = record { reads = refl; shallow = omega arith }

pub event_kept : (jobs : Jobs) (event : Event) → IsSized event → IsKept (event_object jobs event)
event_kept jobs (Skip n) sized = record { reads = refl; shallow = omega arith }
event_kept jobs (Start n) sized = record { reads = refl; shallow = omega arith }
event_kept jobs (Look n path seen) sized = look_kept jobs n path seen
event_kept jobs (Put n path bytes time) sized = record { reads = rw (number_of-decimal time sized.1) refl; shallow = omega arith }
event_kept jobs (Erase n path) sized = record { reads = refl; shallow = omega arith }
event_kept jobs (Finish n) sized = record { reads = refl; shallow = omega arith }

-- a text of the tokens of such data
read_back : (d : Data) (text : List ℕ) → IsKept d → tokens text ≡ tokens_of d → read text ≡ Some d
read_back d text kept same =
    ap (λ (o : Option (json.Json × List Token)). option_and_then of_json (option_and_then (λ p. json.if_last p.0 p.1) o))
    (ap (json.value max_depth) (same ∙ sym (append-nil (tokens_of d))) ∙ value-json_tokens (outline d) max_depth [] kept.shallow)
    ∙ kept.reads

-- tokens of such data are written as a text that means the data
pub value_back : (d : Data) (ts : List Token) → ts ≡ tokens_of d → IsKept d → tokens (print ts) ≡ ts → IsUtf8 (print ts) → value_of (compact_text d) ≡ Some d
value_back d ts same kept reads utf8 =
    let text : print ts ≡ compact_text d = ap print same ∙ print-outline d in
    let whole = subst (λ (t : List ℕ). tokens t ≡ tokens_of d) text (reads ∙ same) in
    rw (is_utf8-from_IsUtf8 (compact_text d) (subst IsUtf8 text utf8)) (read_back d (compact_text d) kept whole)

-- the line of tokens of data
pub line_back : (d : Data) (ts : List Token) (old new : List ℕ) → ts ≡ tokens_of d → new ≡ old ++ (print ts ++ 10 ∷ []) → new ≡ old ++ line_of d
line_back d ts old new same line = line ∙ ap (λ (t : List ℕ). old ++ (t ++ 10 ∷ [])) (ap print same ∙ print-outline d)
