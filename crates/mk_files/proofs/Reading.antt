-- Lemmas on inputs that are opened and read one after another.
use Rattle.std.proofs.Common.{◌≡◌, ◌≢◌, inl, inr, ◌<◌, ◌∙◌, ℕ, ◌+◌, Bool, true, false, List, [], ◌∷◌, ◌++◌, Option, Some, drop, map, take, length, get_or, suc, refl, sym, ap, subst, append_assoc, append-nil, arith, take-append-drop}
use Rattle.std.proofs.Math.Seq.{drop-cons, take-length}
use Rattle.std.specs.Prelude.{IfSome}
use Rattle.std.specs.List.{All}
use Rattle.std.proofs.lemmas.List.{map-append, take_more}
use Rattle.std.proofs.lemmas.List.Elements.{All-cons, All-head, All-nil, All-push, All-tail}
use Rattle.mk_files.specs.Files.{Files}
use Rattle.mk_files.specs.Inputs.{AreTexts, Hold, HoldEach, InputsMayBeRead, IsFirstToFail, IsShortOr, IsUnread, Mark, MayWork, marks}
use Rattle.mk_files.specs.declared.failures.Failure.{Failure}
use Rattle.mk_request.specs.declared.inputs.InputFile.{InputFile}
use Rattle.mk_request.specs.declared.inputs.InputPath.{InputPath}
use Rattle.mk_files.specs.declared.inputs.InputText.{InputText}
use Rattle.mk_files.specs.declared.inputs.OpenInput.{OpenInput}

-- the marks of some inputs and one more
marks_more : (works : List ℕ → Option Bool) (inputs : List InputPath) (i : ℕ) (d : InputPath) → i < length inputs
    → marks works (take i inputs) ++ ((get_or inputs i d).input, works (get_or inputs i d).path.now) ∷ [] ≡ marks works (take (i + 1) inputs)
marks_more works inputs i d within =
    sym (ap (marks works) (take_more inputs i d within) ∙ map-append (λ (known : InputPath). (known.input, works known.path.now)) (take i inputs) (get_or inputs i d ∷ []))

-- the first of the inputs are open, and the opener states what it stated at the start
pub record FirstAreOpen {F : Type 0} (failed : F → Bool) (text : F → Option (List ℕ)) (reads : F → Option Bool) (inputs : List InputPath) (files now : Files)
    (ready : List (OpenInput F)) (i : ℕ) : Type 0 where
  pub same : now ≡ files
  pub works : All (λ file. failed file.file ≡ false) ready
  pub opened : All MayWork (marks files.opens (take i inputs))
  pub named : map (λ file. file.input) ready ≡ map (λ known. known.input) (take i inputs)
  pub marked : map (λ file. (file.input, reads file.file)) ready ≡ marks files.reads (take i inputs)
  pub reported : (want : InputFile → List ℕ) → HoldEach files.text inputs want → All (λ file. text file.file ≡ Some (want file.input)) ready

-- what is read so far, of all files, and those that are left, none of which has failed
pub record AreReadSoFar {F : Type 0} (failed : F → Bool) (text : F → Option (List ℕ)) (reads : F → Option Bool) (all rest : List (OpenInput F))
    (texts : List InputText) : Type 0 where
  pub before : List (OpenInput F)
  pub works : All (λ file. failed file.file ≡ false) rest
  pub parts : all ≡ before ++ rest
  pub named : map (λ known. known.input) texts ≡ map (λ file. file.input) before
  pub worked : All MayWork (map (λ file. (file.input, reads file.file)) before)
  pub reported : (want : InputFile → List ℕ) → All (λ file. text file.file ≡ Some (want file.input)) all
      → All (λ file. text file.file ≡ Some (want file.input)) rest × All (λ known. known.text.items ≡ want known.input) texts

module _ {F : Type 0} (failed : F → Bool) (text : F → Option (List ℕ)) (reads : F → Option Bool) where
  abbrev mark : OpenInput F → Mark
  mark file = (file.input, reads file.file)

  -- nothing is open at the start
  pub none_open : (inputs : List InputPath) (files : Files) (ready : List (OpenInput F)) → ready ≡ [] → FirstAreOpen failed text reads inputs files files ready 0
  none_open inputs files ready none = rw none (record {
    same = refl;
    works = All-nil (λ (file : OpenInput F). failed file.file ≡ false);
    opened = All-nil MayWork;
    named = refl;
    marked = refl;
    reported = λ want holds. All-nil (λ (file : OpenInput F). text file.file ≡ Some (want file.input));
  })

  -- one file more
  pub one_open : (inputs : List InputPath) (files mid new : Files) (ready more : List (OpenInput F)) (file : OpenInput F) (i : ℕ) (d : InputPath) → i < length inputs
      → FirstAreOpen failed text reads inputs files mid ready i → failed file.file ≡ false → file.input ≡ (get_or inputs i d).input → text file.file ≡ mid.text (get_or inputs i d).path.now
      → reads file.file ≡ mid.reads (get_or inputs i d).path.now → mid.opens (get_or inputs i d).path.now ≢ Some false → new ≡ mid → more ≡ ready ++ file ∷ []
      → FirstAreOpen failed text reads inputs files new more (i + 1)
  one_open inputs files mid new ready more file i d within so_far fine input holds can may same grown =
      let known : InputPath = get_or inputs i d in
      let at : List ℕ = known.path.now in
      let named_all : map (λ (f : OpenInput F). f.input) (ready ++ file ∷ []) ≡ map (λ (k : InputPath). k.input) (take (i + 1) inputs) =
      map-append (λ (f : OpenInput F). f.input) ready (file ∷ [])
      ∙ ap (λ (l : List InputFile). l ++ file.input ∷ []) so_far.named
      ∙ ap (λ (n : InputFile). map (λ (k : InputPath). k.input) (take i inputs) ++ n ∷ []) input
      ∙ sym (map-append (λ (k : InputPath). k.input) (take i inputs) (known ∷ []))
      ∙ ap (map (λ (k : InputPath). k.input)) (sym (take_more inputs i d within)) in
      let can_here : reads file.file ≡ files.reads at = can ∙ ap (λ (f : Files). f.reads at) so_far.same in
      let mark_here : mark file ≡ (known.input, files.reads at) = λ k. (input k, can_here k) in
      let marked_all : map mark (ready ++ file ∷ []) ≡ marks files.reads (take (i + 1) inputs) =
      map-append mark ready (file ∷ []) ∙ ap (λ (l : List Mark). l ++ mark file ∷ []) so_far.marked
      ∙ ap (λ (m : Mark). marks files.reads (take i inputs) ++ m ∷ []) mark_here ∙ marks_more files.reads inputs i d within in
      rw grown (record {
        same = same ∙ so_far.same;
        works = All-push (λ (f : OpenInput F). failed f.file ≡ false) ready file so_far.works fine;
        opened = subst (All MayWork) (marks_more files.opens inputs i d within) (All-push MayWork (marks files.opens (take i inputs)) (known.input, files.opens at)
            so_far.opened (λ is. may (ap (λ (f : Files). f.opens at) so_far.same ∙ is)));
        named = named_all;
        marked = marked_all;
        reported = λ want hold. All-push (λ (f : OpenInput F). text f.file ≡ Some (want f.input)) ready file (so_far.reported want hold)
            (holds ∙ ap (λ (f : Files). f.text at) so_far.same ∙ hold i d within ∙ ap (λ (n : InputFile). Some (want n)) (sym input));
      })

  -- all files are open
  pub all_named : (inputs : List InputPath) (files now : Files) (ready : List (OpenInput F)) (i : ℕ)
      → FirstAreOpen failed text reads inputs files now ready i → i ≡ length inputs → map (λ file. file.input) ready ≡ map (λ known. known.input) inputs
  all_named inputs files now ready i so_far end = so_far.named ∙ ap (map (λ (k : InputPath). k.input)) (ap (λ n. take n inputs) end ∙ take-length inputs)

  pub all_marked : (inputs : List InputPath) (files now : Files) (ready : List (OpenInput F)) (i : ℕ)
      → FirstAreOpen failed text reads inputs files now ready i → i ≡ length inputs → map (λ file. (file.input, reads file.file)) ready ≡ marks files.reads inputs
  all_marked inputs files now ready i so_far end = so_far.marked ∙ ap (marks files.reads) (ap (λ n. take n inputs) end ∙ take-length inputs)

  pub all_opened : (inputs : List InputPath) (files now : Files) (ready : List (OpenInput F)) (i : ℕ)
      → FirstAreOpen failed text reads inputs files now ready i → i ≡ length inputs → All MayWork (marks files.opens inputs)
  all_opened inputs files now ready i so_far end =
      subst (λ (l : List InputPath). All MayWork (marks files.opens l)) (ap (λ n. take n inputs) end ∙ take-length inputs) so_far.opened

  -- the input at this place is the first that cannot be opened
  pub shut_first : (inputs : List InputPath) (files now : Files) (ready : List (OpenInput F)) (i : ℕ) (d : InputPath) → i < length inputs
      → FirstAreOpen failed text reads inputs files now ready i → now.opens (get_or inputs i d).path.now ≢ Some true
      → IsFirstToFail (marks files.opens inputs) (get_or inputs i d).input
  shut_first inputs files now ready i d within so_far shut =
      let known : InputPath = get_or inputs i d in record {
        before = marks files.opens (take i inputs);
        works = files.opens known.path.now;
        rest = marks files.opens (drop (suc i) inputs);
        parts = ap (marks files.opens) (sym (take-append-drop i inputs) ∙ ap (λ (l : List InputPath). take i inputs ++ l) (drop-cons inputs i d within))
            ∙ map-append (λ (k : InputPath). (k.input, files.opens k.path.now)) (take i inputs) (known ∷ drop (suc i) inputs);
        worked = so_far.opened;
        fails = λ is. shut (ap (λ (f : Files). f.opens known.path.now) so_far.same ∙ is);
      }

  -- nothing is read at the start
  pub none_read : (all rest : List (OpenInput F)) (texts : List InputText) → All (λ file. failed file.file ≡ false) all → rest ≡ all → texts ≡ []
      → AreReadSoFar failed text reads all rest texts
  none_read all rest texts works whole none = rw (whole, none) (record {
    before = [];
    works = works;
    parts = refl;
    named = refl;
    worked = All-nil MayWork;
    reported = λ want holds. (holds, All-nil (λ (known : InputText). known.text.items ≡ want known.input));
  })

  -- one file more
  pub one_read : (all left rest : List (OpenInput F)) (texts more : List InputText) (file : OpenInput F) (one : InputText) → AreReadSoFar failed text reads all left texts
      → left ≡ file ∷ rest → one.input ≡ file.input → IfSome (text file.file) (λ bytes. one.text.items ≡ bytes) → reads file.file ≢ Some false → more ≡ texts ++ one ∷ []
      → AreReadSoFar failed text reads all rest more
  one_read all left rest texts more file one so_far next input read can grown =
      let first : AreReadSoFar failed text reads all (file ∷ rest) texts = subst (λ (b : List (OpenInput F)). AreReadSoFar failed text reads all b texts) next so_far in
      let named_all : map (λ (t : InputText). t.input) (texts ++ one ∷ []) ≡ map (λ (f : OpenInput F). f.input) (first.before ++ file ∷ []) =
      map-append (λ (t : InputText). t.input) texts (one ∷ [])
      ∙ ap (λ (l : List InputFile). l ++ one.input ∷ []) first.named
      ∙ ap (λ (n : InputFile). map (λ (f : OpenInput F). f.input) first.before ++ n ∷ []) input
      ∙ sym (map-append (λ (f : OpenInput F). f.input) first.before (file ∷ [])) in
      rw grown (record {
        before = first.before ++ file ∷ [];
        works = All-tail (λ (f : OpenInput F). failed f.file ≡ false) file rest first.works;
        parts = first.parts ∙ sym (append_assoc first.before (file ∷ []) rest);
        named = named_all;
        worked = subst (All MayWork) (sym (map-append mark first.before (file ∷ []))) (All-push MayWork (map mark first.before) (mark file) first.worked can);
        reported = λ want holds.
            let both = first.reported want holds in
            let is : one.text.items ≡ want file.input = subst (λ (o : Option (List ℕ)). IfSome o (λ bytes. one.text.items ≡ bytes))
            (All-head (λ (f : OpenInput F). text f.file ≡ Some (want f.input)) file rest both.0) read in (
              All-tail (λ (f : OpenInput F). text f.file ≡ Some (want f.input)) file rest both.0,
              All-push (λ (t : InputText). t.text.items ≡ want t.input) texts one both.1 (is ∙ ap want (sym input)),
            );
      })

  -- the next file has not failed
  pub next_works : (all left rest : List (OpenInput F)) (texts : List InputText) (file : OpenInput F) → AreReadSoFar failed text reads all left texts
      → left ≡ file ∷ rest → failed file.file ≡ false
  next_works all left rest texts file so_far next =
      let works : All (λ (f : OpenInput F). failed f.file ≡ false) (file ∷ rest) = subst (All (λ (f : OpenInput F). failed f.file ≡ false)) next so_far.works in
      All-head (λ (f : OpenInput F). failed f.file ≡ false) file rest works

  -- it is the first that cannot be read
  pub unread_first : (all left rest : List (OpenInput F)) (texts : List InputText) (file : OpenInput F) → AreReadSoFar failed text reads all left texts → left ≡ file ∷ rest
      → reads file.file ≢ Some true → IsFirstToFail (map (λ file. (file.input, reads file.file)) all) file.input
  unread_first all left rest texts file so_far next fails = record {
    before = map mark so_far.before;
    works = reads file.file;
    rest = map mark rest;
    parts = ap (map mark) (so_far.parts ∙ ap (λ (l : List (OpenInput F)). so_far.before ++ l) next) ∙ map-append mark so_far.before (file ∷ rest);
    worked = so_far.worked;
    fails = fails;
  }

  -- all are read
  all_before : (all rest : List (OpenInput F)) (texts : List InputText) (so_far : AreReadSoFar failed text reads all rest texts) → rest ≡ [] → so_far.before ≡ all
  all_before all rest texts so_far none = sym (so_far.parts ∙ ap (λ (l : List (OpenInput F)). so_far.before ++ l) none ∙ append-nil so_far.before)

  pub all_read : (all rest : List (OpenInput F)) (texts : List InputText) → AreReadSoFar failed text reads all rest texts → rest ≡ []
      → map (λ known. known.input) texts ≡ map (λ file. file.input) all
  all_read all rest texts so_far none = so_far.named ∙ ap (map (λ (f : OpenInput F). f.input)) (all_before all rest texts so_far none)

  pub all_worked : (all rest : List (OpenInput F)) (texts : List InputText) → AreReadSoFar failed text reads all rest texts → rest ≡ []
      → All MayWork (map (λ file. (file.input, reads file.file)) all)
  all_worked all rest texts so_far none = subst (λ (l : List (OpenInput F)). All MayWork (map mark l)) (all_before all rest texts so_far none) so_far.worked

-- what no element of a list comes to, none of a list that comes to the same does
none_else : {A B N : Type 0} (f : A → N) (g : B → N) (n : N) (xs : List A) (ys : List B) → map f xs ≡ map g ys → All (λ x. f x ≢ n) xs → All (λ y. g y ≢ n) ys
none_else f g n xs [] e h = All-nil (λ y. g y ≢ n)
none_else f g n [] (y ∷ ys) e h = cc
none_else f g n (x ∷ xs) (y ∷ ys) e h =
    let first : f x ≡ g y = cc in
    let rest : map f xs ≡ map g ys = cc in
    All-cons (λ y. g y ≢ n) y ys (λ is. All-head (λ x. f x ≢ n) x xs h (first ∙ is)) (none_else f g n xs ys rest (All-tail (λ x. f x ≢ n) x xs h))

-- some element, to name what stands past the end
some_of : {X : Type 0} (xs : List X) (i : ℕ) → i < length xs → X
some_of [] i within = absurd (omega arith)
some_of (x ∷ xs) i within = x

-- what was read are the texts that the files hold
pub texts_read : (files : List ℕ → Option (List ℕ)) (inputs : List InputPath) (texts : List InputText) (text : InputFile → List ℕ)
    → map (λ known. known.input) texts ≡ map (λ known. known.input) inputs → All (λ known. known.text.items ≡ text known.input) texts
    → Hold files inputs text → AreTexts texts text
texts_read files inputs texts text named each hold input found (inl at) =
    let d = some_of texts at.0 at.1 in
    let here = at.2 d in
    sym here.1 ∙ each at.0 d at.1 ∙ ap text here.0
texts_read files inputs texts text named each hold input found (inr none) =
    none.1 ∙ sym (hold.others input (none_else (λ (known : InputText). known.input) (λ (known : InputPath). known.input) input texts inputs named none.0))

-- a failure to open is a failure of the inputs
pub open_failure : (files : Files) (inputs : List InputPath) (failure : Failure) → IsShortOr (IsFirstToFail (marks files.opens inputs)) failure
    → IsShortOr (IsUnread files inputs) failure
open_failure files inputs failure (inl memory) = inl memory
open_failure files inputs failure (inr shut) = inr (shut.0, shut.1, inl shut.2)

-- and so is a failure to read
pub read_failure : (files : Files) (inputs : List InputPath) (all : List Mark) (failure : Failure) → All MayWork (marks files.opens inputs)
    → all ≡ marks files.reads inputs → IsShortOr (IsFirstToFail all) failure → IsShortOr (IsUnread files inputs) failure
read_failure files inputs all failure opened marked (inl memory) = inl memory
read_failure files inputs all failure opened marked (inr unread) =
    inr (unread.0, unread.1, inr (opened, subst (λ (l : List Mark). IsFirstToFail l unread.0) marked unread.2))

-- where all were opened and read, all may be
pub may_be_read : (files : Files) (inputs : List InputPath) (all : List Mark) → All MayWork (marks files.opens inputs) → all ≡ marks files.reads inputs
    → All MayWork all → InputsMayBeRead files inputs
may_be_read files inputs all opened marked worked = record { opened = opened; read = subst (All MayWork) marked worked }
