-- Rows of numbers, each number once.
use Rattle.std.proofs.Common.{◌≡◌, ℕ, zero, suc, ◌+◌, ◌<◌, ◌≤◌, Bool, true, false, List, [], ◌∷◌, ◌++◌, length, get_or, set, take, sym, ◌∙◌, ap, subst, inl, inr, refl, arith, Some, None, Option}
use Rattle.std.specs.Prelude.{IfSome, nat_eq, Vec}
use Rattle.std.specs.List.{flat_map, All}
use Rattle.std.proofs.lemmas.List.Sums.{sum_by_more}
use Rattle.mk_name.specs.Names.{Name}
use Rattle.mk_graph.specs.Graph.{count_edges}
use Rattle.mk_jobs.specs.Numbered.{name_at, Stand}
use Rattle.std.specs.Global.{Global}
use Rattle.std.proofs.lemmas.Bool.{cases_lt, both_ways, cases_eq}
use Rattle.std.proofs.lemmas.List.{get_or-set_same, get_or-set_other, length-set, take_more, flat_map_more, length_push, get_or_past, get_or_read, length-map}
use Rattle.std.proofs.lemmas.List.Folds.{list_any_at}
use Rattle.mk_name.specs.Names.{has, kept, firsts}
use Rattle.mk_name.proofs.Names.{nat_is_exact, in_cons_cases, in_cases, in_push, has-push_other, kept_new, kept_old, kept-append, kept_cases}
use Rattle.mk_graph.specs.Rows.{row}
use Rattle.mk_graph.specs.Seen.{IsSeen, firsts_of, with_source}
use Rattle.mk_graph.proofs.Steps.{In}

pub in_at : (xs : List ℕ) (i : ℕ) → i < length xs → In xs (get_or xs i 0)
in_at xs i h = list_any_at (λ y. nat_eq y (get_or xs i 0)) xs i 0 h (nat_is_exact.itself (get_or xs i 0))

pub seen_push : (seen : List Bool) (row : List ℕ) (n : ℕ) → n < length seen → IsSeen seen row → IsSeen (set seen n true) (row ++ n ∷ [])
seen_push seen row n h s k l =
    elim (cases_eq k n) [
      | inl e ↦ subst (λ (m : ℕ). get_or (set seen n true) m false ≡ has nat_eq (row ++ n ∷ []) m) (sym e) (get_or-set_same seen n true false h ∙ sym (in_push nat_eq nat_is_exact row n))
      | inr d ↦ get_or-set_other seen n k true false d ∙ s k (let a = length-set seen n true in omega arith) ∙ has-push_other nat_eq nat_is_exact row n k (λ e. d (sym e))
    ]

kept_next : (front numbers : List ℕ) (i : ℕ) → i < length numbers → kept nat_eq front (take (i + 1) numbers) ≡ kept nat_eq (kept nat_eq front (take i numbers)) (get_or numbers i 0 ∷ [])
kept_next front numbers i h = ap (kept nat_eq front) (take_more numbers i 0 h) ∙ kept-append nat_eq nat_is_exact front (take i numbers) (get_or numbers i 0 ∷ [])

pub kept_seen : (front numbers row : List ℕ) (i : ℕ) → i < length numbers → row ≡ kept nat_eq front (take i numbers) → has nat_eq row (get_or numbers i 0) ≡ true → row ≡ kept nat_eq front (take (i + 1) numbers)
kept_seen front numbers row i h e t =
    sym (kept_next front numbers i h ∙ ap (λ xs. kept nat_eq xs (get_or numbers i 0 ∷ [])) (sym e) ∙ kept_old nat_eq nat_is_exact row (get_or numbers i 0) [] t)

pub kept_fresh : (front numbers row : List ℕ) (i : ℕ) → i < length numbers → row ≡ kept nat_eq front (take i numbers) → has nat_eq row (get_or numbers i 0) ≡ false → row ++ get_or numbers i 0 ∷ [] ≡ kept nat_eq front (take (i + 1) numbers)
kept_fresh front numbers row i h e f =
    sym (kept_next front numbers i h ∙ ap (λ xs. kept nat_eq xs (get_or numbers i 0 ∷ [])) (sym e) ∙ kept_new nat_eq nat_is_exact row (get_or numbers i 0) [] f)

pub firsts_within : (xs : List ℕ) (size : ℕ) → ((n : ℕ) → In xs n → n < size) → (n : ℕ) → In (firsts nat_eq xs) n → n < size
firsts_within xs size h n i = elim (kept_cases nat_eq nat_is_exact [] xs n i) [ inl l ↦ absurd (both_ways _ refl l) | inr r ↦ h n r ]

joined_below : (f : ℕ → List ℕ) (size : ℕ) (ps : List ℕ) → ((p n : ℕ) → In (f p) n → n < size) → (n : ℕ) → In (flat_map f ps) n → n < size
joined_below f size [] h n i = absurd (both_ways _ refl i)
joined_below f size (p ∷ ps) h n i = elim (in_cases nat_eq nat_is_exact (f p) (flat_map f ps) n i) [ inl l ↦ h p n l | inr r ↦ joined_below f size ps h n r ]

pub joined_within_size : (f : ℕ → List ℕ) (size : ℕ) (ps joined : List ℕ) → ((p n : ℕ) → In (f p) n → n < size) → joined ≡ firsts nat_eq (flat_map f ps) → (n : ℕ) → In joined n → n < size
joined_within_size f size ps joined h e n i = firsts_within (flat_map f ps) size (joined_below f size ps h) n (subst (λ (xs : List ℕ). In xs n) e i)

-- one more entry joined
pub joined_next : (f : ℕ → List ℕ) (ps : List ℕ) (i : ℕ) (old new numbers : List ℕ) → i < length ps → old ≡ firsts nat_eq (flat_map f (take i ps)) → numbers ≡ f (get_or ps i 0) → new ≡ kept nat_eq old numbers → new ≡ firsts nat_eq (flat_map f (take (i + 1) ps))
joined_next f ps i old new numbers h e n is =
    is ∙ ap (λ xs. kept nat_eq xs numbers) e ∙ ap (kept nat_eq (firsts nat_eq (flat_map f (take i ps)))) n
    ∙ sym (kept-append nat_eq nat_is_exact [] (flat_map f (take i ps)) (f (get_or ps i 0)))
    ∙ ap (firsts nat_eq) (flat_map_more f [] (take i ps) (get_or ps i 0) ∙ ap (flat_map f) (sym (take_more ps i 0 h)))

-- rows put one after another
pub row_old : (rows : List (Vec ℕ Global)) (v : Vec ℕ Global) (p : ℕ) → p < length rows → row (rows ++ v ∷ []) p ≡ row rows p
row_old [] v p h = absurd (omega arith)
row_old (w ∷ ws) v zero h = refl
row_old (w ∷ ws) v (suc p) h = row_old ws v p (omega arith)

pub row_new : (rows : List (Vec ℕ Global)) (v : Vec ℕ Global) (p : ℕ) → p ≡ length rows → row (rows ++ v ∷ []) p ≡ v.items
row_new [] v p e = subst (λ (n : ℕ). row (v ∷ []) n ≡ v.items) (sym e) refl
row_new (w ∷ ws) v p e = subst (λ (n : ℕ). row (w ∷ (ws ++ v ∷ [])) n ≡ v.items) (sym e) (row_new ws v (length ws) refl)

pub row_past : (rows : List (Vec ℕ Global)) (p : ℕ) → length rows ≤ p → row rows p ≡ []
row_past [] p h = refl
row_past (w ∷ ws) zero h = absurd (omega arith)
row_past (w ∷ ws) (suc p) h = row_past ws p (omega arith)

pub rows_push : (rows : List (Vec ℕ Global)) (v : Vec ℕ Global) (entries : List (Option (Vec ℕ Global))) (i : ℕ) (o : Option (Vec ℕ Global)) → length rows ≡ i → i < length entries → o ≡ get_or entries i o → v.items ≡ firsts_of o → ((p : ℕ) → p < length rows → row rows p ≡ firsts_of (get_or entries p None)) → (p : ℕ) → p < length (rows ++ v ∷ []) → row (rows ++ v ∷ []) p ≡ firsts_of (get_or entries p None)
rows_push rows v entries i o long inside is at old p h =
    elim (cases_eq p (length rows)) [
      | inl e ↦ row_new rows v p e ∙ at ∙ ap firsts_of (get_or_read entries i o inside is None) ∙ ap (λ k. firsts_of (get_or entries k None)) (sym long ∙ sym e)
      | inr n ↦ let l = length_push rows v in let k : p < length rows = omega arith in row_old rows v p k ∙ old p k
    ]

pub rows_end : (rows : List (Vec ℕ Global)) (entries : List (Option (Vec ℕ Global))) → length rows ≡ length entries → ((p : ℕ) → p < length rows → row rows p ≡ firsts_of (get_or entries p None)) → (p : ℕ) → row rows p ≡ firsts_of (get_or entries p None)
rows_end rows entries long old p =
    elim (cases_lt p (length rows)) [
      | inl l ↦ old p l
      | inr g ↦ row_past rows p g ∙ sym (ap firsts_of (get_or_past entries p None (omega arith)))
    ]

pub rows_more : (rows : List (Vec ℕ Global)) (v : Vec ℕ Global) (i : ℕ) (f : ℕ → List ℕ) → length rows ≡ i → v.items ≡ f i → ((k : ℕ) → k < i → row rows k ≡ f k) → (k : ℕ) → k < i + 1 → row (rows ++ v ∷ []) k ≡ f k
rows_more rows v i f long is old k h =
    elim (cases_eq k i) [
      | inl e ↦ row_new rows v k (e ∙ sym long) ∙ is ∙ ap f (sym e)
      | inr n ↦ let l : k < i = omega arith in row_old rows v k (omega arith) ∙ old k l
    ]

pub place_of : (xs : List ℕ) (n : ℕ) → In xs n → (k : ℕ) × (k < length xs) × (get_or xs k 0 ≡ n)
place_of [] n h = absurd (both_ways _ refl h)
place_of (x ∷ xs) n h =
    elim (in_cons_cases nat_eq nat_is_exact x n xs h) [
      | inl e ↦ (0, omega arith, e)
      | inr i ↦ let r = place_of xs n i in (suc r.0, omega (arith, r.1), r.2)
    ]

pub all_in : (xs : List ℕ) (size n : ℕ) → All (λ k. k < size) xs → In xs n → n < size
all_in xs size n a h = let p = place_of xs n h in subst (λ (k : ℕ). k < size) p.2 (a p.0 0 p.1)

pub edges_more : (needs : Name → List Name) (names : List Name) (i edges : ℕ) (numbers : List ℕ) → i < length names → edges ≡ count_edges needs (take i names) → Stand names numbers (needs (name_at names i)) → edges + length numbers ≡ count_edges needs (take (i + 1) names)
edges_more needs names i edges numbers h e s =
    ap (λ n. edges + n) (sym (length-map numbers (name_at names)) ∙ ap length s.names_are) ∙ ap (λ n. n + length (needs (name_at names i))) e
    ∙ sym (sum_by_more (λ x. length (needs x)) names i [] h)

-- a source that stands in the row is one of the numbers or the source
pub with_source_below : (row : List ℕ) (source : Option ℕ) (size : ℕ) → ((n : ℕ) → In row n → n < size) → IfSome source (λ n. n < size) → (n : ℕ) → In (with_source row source) n → n < size
with_source_below row None size h s n i = h n i
with_source_below row (Some m) size h s n i =
    elim (kept_cases nat_eq nat_is_exact row (m ∷ []) n i) [
      | inl l ↦ h n l
      | inr r ↦ elim (in_cons_cases nat_eq nat_is_exact m n [] r) [ inl e ↦ subst (λ (k : ℕ). k < size) e s | inr z ↦ absurd (both_ways _ refl z) ]
    ]
