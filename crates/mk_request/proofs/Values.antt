-- Lemmas on the values of options.
use Rattle.std.proofs.Common.{ap, ◌∙◌, ◌≡◌, Bool, true, false, ◌&&◌, Option, Some, None, is_some, option_map, unwrap_or, [], refl, sym}
use Rattle.clap.specs.Words.{Text, first_of, first_value, rows_of}
use Rattle.clap.specs.declared.parser.matches.Found.{Found}
use Rattle.clap.proofs.WalkLemmas.{first_value-rows}
use Rattle.std.specs.Borrow.{Bor}
use Rattle.mk_request.specs.CommandLine as spec

-- the text behind an option's value, or the empty text
text_or : (o : Option (Bor Text)) (d : Bor Text) → d.now ≡ [] → (unwrap_or o d).now ≡ unwrap_or (option_map (λ (s : Bor Text). s.now) o) []
text_or None d e = e
text_or (Some s) d e = refl

pub text_is : (r d : Bor Text) (o : Option (Bor Text)) (f : Found) (id : Text) → r ≡ unwrap_or o d → d.now ≡ [] → option_map (λ (s : Bor Text). s.now) o ≡ first_value f id
    → r.now ≡ spec.value_of id (rows_of f)
text_is r d o f id is none given = ap (λ (x : Bor Text). x.now) is ∙ text_or o d none ∙ ap (λ (x : Option Text). unwrap_or x []) (given ∙ first_value-rows f id)

-- an option that is there names its value, and one that is not names none
pub named_is : (o : Option (Bor Text)) (text : Bor Text) (f : Found) (id : Text) → o ≡ Some text → option_map (λ (s : Bor Text). s.now) o ≡ first_value f id
    → Some text.now ≡ first_of id (rows_of f)
named_is o text f id is given = sym (ap (option_map (λ (s : Bor Text). s.now)) is) ∙ given ∙ first_value-rows f id

pub unnamed_is : (o : Option (Bor Text)) (f : Found) (id : Text) → o ≡ None → option_map (λ (s : Bor Text). s.now) o ≡ first_value f id
    → first_of id (rows_of f) ≡ None
unnamed_is o f id is given = sym (given ∙ first_value-rows f id) ∙ ap (option_map (λ (s : Bor Text). s.now)) is

-- an option holds a value where its text does
pub kept : (o : Option (Bor Text)) → is_some o ≡ is_some (option_map (λ (s : Bor Text). s.now) o)
kept None = refl
kept (Some s) = refl

-- where the first test says yes the other decides a conjunction, and where it says no, so does that
pub and_yes : (first more result : Bool) → first ≡ true → result ≡ more → result ≡ (first && more)
and_yes first more result holds is = is ∙ sym (ap (λ (b : Bool). b && more) holds)

pub and_no : (first more result : Bool) → first ≡ false → result ≡ false → result ≡ (first && more)
and_no first more result fails is = is ∙ sym (ap (λ (b : Bool). b && more) fails)
