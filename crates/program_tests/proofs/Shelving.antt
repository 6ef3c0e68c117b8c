-- Lemmas on files in memory, and on what was written to an empty output.
use Rattle.std.proofs.Common.{◌≡◌, ◌∙◌, ◌<◌, ◌+◌, ℕ, Bool, true, false, List, [], ◌++◌, Option, Some, None, drop, length, get_or, cond, suc, sym, ap, subst, add-one}
use Rattle.std.proofs.Math.Seq.{drop-cons, drop-length}
use Rattle.std.specs.Borrow.{Bor}
use Rattle.std.specs.Io.KnownBytes.{Appends}
use Rattle.std.specs.Str.{bytes_eq}
use Rattle.mk_program.specs.Answers.{IsAnswerTo, WritesAnswer}
use Rattle.mk_program.specs.declared.statuses.Status.{Status}
use Rattle.program_tests.specs.Shelf.{HasAnswer, page_at}
use Rattle.program_tests.specs.declared.shelf.Book.{Book}
use Rattle.program_tests.specs.declared.shelf.Page.{Page}

-- the page at a place is that of its file, or one that stands behind it
at : (books : List Book) (i : ℕ) (d : Book) (path : List ℕ) (same : Bool) → i < length books → bytes_eq (get_or books i d).path.now path ≡ same
    → page_at (drop i books) path ≡ cond same (Some (get_or books i d).page) (page_at (drop (i + 1) books) path)
at books i d path same within is = rw add-one
    (ap (λ (l : List Book). page_at l path) (drop-cons books i d within)
    ∙ ap (λ (b : Bool). cond b (Some (get_or books i d).page) (page_at (drop (suc i) books) path)) is)

pub found : (books : List Book) (i : ℕ) (d : Book) (path : List ℕ) → i < length books → page_at (drop i books) path ≡ page_at books path
    → bytes_eq (get_or books i d).path.now path ≡ true → Some (get_or books i d).page ≡ page_at books path
found books i d path within so_far is = sym (at books i d path true within is) ∙ so_far

pub passed : (books : List Book) (i : ℕ) (d : Book) (path : List ℕ) → i < length books → page_at (drop i books) path ≡ page_at books path
    → bytes_eq (get_or books i d).path.now path ≡ false → page_at (drop (i + 1) books) path ≡ page_at books path
passed books i d path within so_far is = sym (at books i d path false within is) ∙ so_far

pub not_there : (books : List Book) (i : ℕ) (path : List ℕ) → i ≡ length books → page_at (drop i books) path ≡ page_at books path → None ≡ page_at books path
not_there books i path end so_far =
    sym (ap (λ (n : ℕ). page_at (drop n books) path) end ∙ ap (λ (l : List Book). page_at l path) (drop-length books)) ∙ so_far

-- what stands in an output that was empty is the answer that was written
pub written_is : (words : List (Bor (List ℕ))) (files : List ℕ → Option (List ℕ)) (status : Status) (old new : Option (List ℕ)) (items : List ℕ)
    → old ≡ Some [] → Some items ≡ new → WritesAnswer words files status old new → HasAnswer words files status items
written_is words files status old new items empty all writes =
    let reported : Appends (Some []) (Some items) writes.0 =
    subst (λ (o : Option (List ℕ)). Appends o (Some items) writes.0) empty (subst (λ (n : Option (List ℕ)). Appends old n writes.0) (sym all) writes.2) in
    (writes.1, subst (λ (text : List ℕ). IsAnswerTo words files status text writes.1) (sym reported) writes.3)
