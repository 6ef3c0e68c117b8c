-- Facts about single acts: what an act leaves at a name, and what a history says was left there.
use Rattle.std.proofs.Common.{ℕ, ◌≡◌, Bool, true, false, List, [], ◌∷◌, Option, Some, None, refl, ap, if◌then◌else◌, Contains, arith}
use Rattle.std.specs.Cmp.Lexicographic.{pointwise}
use Rattle.std.specs.Prelude.{nat_eq}
use Rattle.std.specs.List.{list_any}
use Rattle.std.proofs.lemmas.Slice.Eq.{slice_eq-Decides}
use Rattle.std.proofs.lemmas.Bool.Decides.{Decides-eqb}
use Rattle.std.proofs.lemmas.List.Elements.{Contains-append_right}
use Rattle.mk_name.specs.Names.{Name, same_name}
use Rattle.mk_sched.specs.Stores.{Bytes, File, bytes_of}
use Rattle.mk_sched.specs.Events.{Act, Skip, Start, Look, Put, Erase, Finish, Phase, Waiting, Running, Skipped, Ran, HistoryLine, Looked, Wrote, entries, written, is_passed, is_started}

-- by cases on a test, with the equation
pub split : {X : Type 0} (b : Bool) → (b ≡ true → X) → (b ≡ false → X) → X
split true f g = f refl
split false f g = g refl

-- by cases on an option, with the equation
pub split_option : {A X : Type 0} (o : Option A) → (o ≡ None → X) → ((a : A) → o ≡ Some a → X) → X
split_option None f g = f refl
split_option (Some a) f g = g a refl

-- the test of names means that they are equal
pub same_name-true : (x y : Name) → same_name x y ≡ true → x ≡ y
same_name-true x y same = (slice_eq-Decides Decides-eqb x y (pointwise nat_eq x y) refl).0 same

pub same_name-refl : (x : Name) → same_name x x ≡ true
same_name-refl x = (slice_eq-Decides Decides-eqb x x (pointwise nat_eq x x) refl).1 refl

-- two tests that agree on each element find alike
pub list_any-alike : {X : Type 0} (p q : X → Bool) (xs : List X) → ((x : X) → Contains xs x → p x ≡ q x) → list_any p xs ≡ list_any q xs
list_any-alike p q [] alike = refl
list_any-alike p q (x ∷ xs) alike =
    let head : p x ≡ q x = alike x (0, omega arith, refl) in
    let tail = list_any-alike p q xs (λ y inside. alike y (Contains-append_right (x ∷ []) xs y inside)) in
    rw (head, tail) refl

-- neither waits any more
abbrev pub is_begun : Phase → Bool
is_begun Waiting = false
is_begun Running = true
is_begun Skipped = true
is_begun Ran = true

pub passed_begun : (phase : Phase) → is_passed phase ≡ true → is_begun phase ≡ true
passed_begun Waiting passed = passed
passed_begun Running passed = refl
passed_begun Skipped passed = refl
passed_begun Ran passed = refl

pub started_begun : (phase : Phase) → is_started phase ≡ true → is_begun phase ≡ true
started_begun Waiting started = started
started_begun Running started = refl
started_begun Skipped started = refl
started_begun Ran started = refl

pub ran_if : (phase : Phase) → is_started phase ≡ true → is_passed phase ≡ true → phase ≡ Ran
ran_if Waiting started passed = cc
ran_if Running started passed = cc
ran_if Skipped started passed = cc
ran_if Ran started passed = refl

-- what an act leaves at x, if it writes x
abbrev pub touch : Name → Act → Option (Option Bytes)
touch x Skip = None
touch x Start = None
touch x (Look path seen) = None
touch x (Put path bytes time) = if same_name path x then Some (Some bytes) else None
touch x (Erase path) = if same_name path x then Some None else None
touch x Finish = None

-- what the newest write to x among these entries left
abbrev pub last_of : Name → List HistoryLine → Option (Option Bytes)
last_of x [] = None
last_of x (Looked path seen ∷ es) = last_of x es
last_of x (Wrote path left ∷ es) = if same_name path x then Some left else last_of x es

-- an act that does not write x leaves it
pub written-untouched : (x : Name) (a : Act) (old : Option File) → touch x a ≡ None → written a x old ≡ old
written-untouched x Skip old none = refl
written-untouched x Start old none = refl
written-untouched x (Look path seen) old none = refl
written-untouched x (Put path bytes time) old none = split (same_name path x) (λ same. cc (rw same at none)) (λ other. rw other refl)
written-untouched x (Erase path) old none = split (same_name path x) (λ same. cc (rw same at none)) (λ other. rw other refl)
written-untouched x Finish old none = refl

-- and no history has it as a write
pub last_of-untouched : (x : Name) (a : Act) (acts : List Act) → touch x a ≡ None → last_of x (entries (a ∷ acts)) ≡ last_of x (entries acts)
last_of-untouched x Skip acts none = refl
last_of-untouched x Start acts none = refl
last_of-untouched x (Look path seen) acts none = refl
last_of-untouched x (Put path bytes time) acts none = split (same_name path x) (λ same. cc (rw same at none)) (λ other. rw other refl)
last_of-untouched x (Erase path) acts none = split (same_name path x) (λ same. cc (rw same at none)) (λ other. rw other refl)
last_of-untouched x Finish acts none = refl

-- an act that leaves c at x is the newest write there
pub last_of-touched : (x : Name) (a : Act) (acts : List Act) (c : Option Bytes) → touch x a ≡ Some c → last_of x (entries (a ∷ acts)) ≡ Some c
last_of-touched x Skip acts c some = cc
last_of-touched x Start acts c some = cc
last_of-touched x (Look path seen) acts c some = cc
last_of-touched x (Put path bytes time) acts c some = split (same_name path x) (λ same. rw same (rw same at some)) (λ other. cc (rw other at some))
last_of-touched x (Erase path) acts c some = split (same_name path x) (λ same. rw same (rw same at some)) (λ other. cc (rw other at some))
last_of-touched x Finish acts c some = cc

-- and c is what stands there
pub bytes_of-touched : (x : Name) (a : Act) (old : Option File) (c : Option Bytes) → touch x a ≡ Some c → bytes_of (written a x old) ≡ c
bytes_of-touched x Skip old c some = cc
bytes_of-touched x Start old c some = cc
bytes_of-touched x (Look path seen) old c some = cc
bytes_of-touched x (Put path bytes time) old c some = split (same_name path x) (λ same. rw same (cc (rw same at some))) (λ other. cc (rw other at some))
bytes_of-touched x (Erase path) old c some = split (same_name path x) (λ same. rw same (cc (rw same at some))) (λ other. cc (rw other at some))
bytes_of-touched x Finish old c some = cc

-- the file now, by the file at the opening and the newest write of its own node; a file that was put has a later time
abbrev pub LeftBy : (ℕ → Type 0) → Option File → Option File → Option (Option Bytes) → Type 0
LeftBy later opening now None = now ≡ opening
LeftBy later opening now (Some None) = now ≡ None
LeftBy later opening now (Some (Some bytes)) = (time : ℕ) × (now ≡ Some (record { bytes = bytes; time = time })) × later time

pub LeftBy-weaker : (later other : ℕ → Type 0) → ((time : ℕ) → later time → other time) → (opening now : Option File) (last : Option (Option Bytes)) → LeftBy later opening now last → LeftBy other opening now last
LeftBy-weaker later other weaker opening now None left = left
LeftBy-weaker later other weaker opening now (Some None) left = left
LeftBy-weaker later other weaker opening now (Some (Some bytes)) left = (left.0, left.1, weaker left.0 left.2)

-- an act of the file's own node keeps this, if the time of a put is later
pub LeftBy-act : (later : ℕ → Type 0) (x : Name) (a : Act) (acts : List Act) (opening now : Option File) → ((bytes : Bytes) (time : ℕ) → a ≡ Put x bytes time → later time) → LeftBy later opening now (last_of x (entries acts)) → LeftBy later opening (written a x now) (last_of x (entries (a ∷ acts)))
LeftBy-act later x Skip acts opening now put left = left
LeftBy-act later x Start acts opening now put left = left
LeftBy-act later x (Look path seen) acts opening now put left = left
LeftBy-act later x (Put path bytes time) acts opening now put left =
    split (same_name path x)
    (λ same. rw same (time, refl, put bytes time (ap (λ p. Put p bytes time) (same_name-true path x same))))
    (λ other. rw other left)
LeftBy-act later x (Erase path) acts opening now put left = split (same_name path x) (λ same. rw same refl) (λ other. rw other left)
LeftBy-act later x Finish acts opening now put left = left
