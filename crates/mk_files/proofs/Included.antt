-- Lemmas on texts that are taken in one after another.
use Rattle.std.proofs.Common.{◌≡◌, inr, ℕ, List, [], ◌∷◌, ◌++◌, Option, None, Some, length, refl, sym, subst, ◌∙◌, ap, append_assoc, append-nil, arith}
use Rattle.std.specs.Prelude.{IfSome, ◌==◌, option_map, if◌then◌else◌}
use Rattle.std.specs.List.{All, Contains}
use Rattle.std.proofs.lemmas.List.Elements.{All-nil, All-push, Contains-append_right}
use Rattle.std.proofs.lemmas.Option.{same_Some}
use Rattle.mk_text.specs.Lexical.{physical_lines}
use Rattle.mk_files.specs.Files.{Files}
use Rattle.mk_files.specs.Includes.{IncludesMayBeRead, IncludesMayFail, LineMayBeRead, LineMayFail, MayBeRead, Pair, both, line_pairs, pairs_of}

-- where two parts hand in pairs, each hands in some of them
both_parts : (one other : Option (List Pair)) (pairs : List Pair) → both one other ≡ Some pairs
    → (first : List Pair) × (more : List Pair) × (one ≡ Some first) × (other ≡ Some more) × (first ++ more ≡ pairs)
both_parts None other pairs is = absurd (cc)
both_parts (Some first) None pairs is = absurd (cc)
both_parts (Some first) (Some more) pairs is = (first, more, refl, refl, same_Some _ _ is)

-- one line more
pub line_more : (files now : List ℕ → Option (List ℕ)) → ((path : List ℕ) → now path ≡ files path) → (line : List ℕ) (lines rest : List (List ℕ)) (old new pairs more : List Pair)
    → lines ≡ line ∷ rest → pairs_of files lines ≡ Some more → old ++ more ≡ pairs → ((added : List Pair) → line_pairs now line ≡ Some added → new ≡ old ++ added)
    → (later : List Pair) × (pairs_of files rest ≡ Some later) × (new ++ later ≡ pairs)
line_more files now same line lines rest old new pairs more parted is whole adds =
    let parts = both_parts (line_pairs files line) (pairs_of files rest) more (sym (ap (pairs_of files) parted) ∙ is) in
    let reported = ap (λ (o : Option (List ℕ)). if length line == 0 then Some [] else option_map (λ text. (line, text) ∷ []) o) (same line) in (
      parts.1,
      parts.3,
      ap (λ (xs : List Pair). xs ++ parts.1) (adds parts.0 (reported ∙ parts.2)) ∙ append_assoc old parts.0 parts.1 ∙ ap (λ (xs : List Pair). old ++ xs) parts.4 ∙ whole,
    )

-- no line is left
pub none_more : (texts pairs more : List Pair) → Some [] ≡ Some more → texts ++ more ≡ pairs → texts ≡ pairs
none_more texts pairs more none whole = sym (append-nil texts) ∙ ap (λ (xs : List Pair). texts ++ xs) (same_Some _ _ none) ∙ whole

-- the lines before the rest may all be read
pub record AreReadUpTo (files : Files) (lines rest : List (List ℕ)) : Type 0 where
  pub before : List (List ℕ)
  pub parts : lines ≡ before ++ rest
  pub read : All (LineMayBeRead files) before

pub none_yet : (files : Files) (lines : List (List ℕ)) → AreReadUpTo files lines lines
none_yet files lines = record { before = []; parts = refl; read = All-nil (LineMayBeRead files) }

-- one line more
pub one_more : (files now : Files) → now ≡ files → (lines left rest : List (List ℕ)) (line : List ℕ) → AreReadUpTo files lines left → left ≡ line ∷ rest
    → LineMayBeRead now line → AreReadUpTo files lines rest
one_more files now same lines left rest line so_far next may = record {
  before = so_far.before ++ line ∷ [];
  parts = so_far.parts ∙ ap (λ (l : List (List ℕ)). so_far.before ++ l) next ∙ sym (append_assoc so_far.before (line ∷ []) rest);
  read = All-push (LineMayBeRead files) so_far.before line so_far.read (subst (λ (f : Files). LineMayBeRead f line) same may);
}

-- no line is left
pub all_may : (files : Files) (lines : List (List ℕ)) → AreReadUpTo files lines [] → All (LineMayBeRead files) lines
all_may files lines so_far = subst (All (LineMayBeRead files)) (sym (so_far.parts ∙ append-nil so_far.before)) so_far.read

-- the next line may fail, and it is one of them
pub one_fails : (files now : Files) → now ≡ files → (lines left rest : List (List ℕ)) (line : List ℕ) → AreReadUpTo files lines left → left ≡ line ∷ rest
    → LineMayFail now line → (one : List ℕ) × Contains lines one × LineMayFail files one
one_fails files now same lines left rest line so_far next fails =
    let all : lines ≡ so_far.before ++ (line ∷ rest) = so_far.parts ∙ ap (λ (l : List (List ℕ)). so_far.before ++ l) next in (
      line,
      subst (λ (l : List (List ℕ)). Contains l line) (sym all) (Contains-append_right so_far.before (line ∷ rest) line (0, omega arith, refl)),
      subst (λ (f : Files). LineMayFail f line) same fails,
    )

-- what holds of the bytes that are stated
pub of_bytes : (P : List ℕ → Type 0) (stated : Option (List ℕ)) (bytes : List ℕ) → stated ≡ Some bytes → IfSome stated P → P bytes
of_bytes P stated bytes is holds = subst (λ (o : Option (List ℕ)). IfSome o P) is holds

module _ (files now : Files) (same : now ≡ files) (path listed : List ℕ) (reads : IfSome (files.text path) (λ bytes. listed ≡ bytes)) where
  -- the lines of the file may be read, and so may the includes
  pub lines_read : (given : Option (List ℕ)) → given ≡ Some path → MayBeRead files path → All (LineMayBeRead now) (physical_lines listed) → IncludesMayBeRead files given
  lines_read given is may each = subst (IncludesMayBeRead files) (sym is) (
    may,
    λ bytes holds.
        subst (λ (l : List ℕ). All (LineMayBeRead files) (physical_lines l)) (of_bytes (λ b. listed ≡ b) (files.text path) bytes holds reads)
        (subst (λ (f : Files). All (LineMayBeRead f) (physical_lines listed)) same each),
  )

  -- one of them may fail
  pub line_fails : (given : Option (List ℕ)) → given ≡ Some path → (line : List ℕ) × Contains (physical_lines listed) line × LineMayFail now line → IncludesMayFail files given
  line_fails given is fails = subst (IncludesMayFail files) (sym is) (inr (λ bytes holds. (
    fails.0,
    subst (λ (l : List ℕ). Contains (physical_lines l) fails.0) (of_bytes (λ b. listed ≡ b) (files.text path) bytes holds reads) fails.1,
    subst (λ (f : Files). LineMayFail f fails.0) same fails.2,
  )))
