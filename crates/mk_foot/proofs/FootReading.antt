-- The lines of footprints, one by one.
use Rattle.std.proofs.Common.{◌≡◌, ℕ, ◌+◌, ◌<◌, ◌≤◌, cond, List, [], ◌∷◌, ◌++◌, Option, None, Some, length, take, slice_get, refl, sym, ap, ap₂, subst, ◌∙◌, arith, append_assoc, nat_lt}
use Rattle.std.specs.Prelude.{min, unwrap_or, ◌≢◌}
use Rattle.std.specs.List.{cons_option, enumerate_from, filter_map}
use Rattle.std.specs.Option.{option_to_list}
use Rattle.std.proofs.lemmas.Bool.{cond-true, cond-false, lt-ltb, le-ltb}
use Rattle.std.proofs.lemmas.List.{append-nil, length-append, length-take, take_all, take_at}
use Rattle.std.proofs.lemmas.List.Elements.{filter_map-append}
use Rattle.std.proofs.lemmas.List.Sums.{sum_by-append, sum_by-cons}
use Rattle.std.proofs.lemmas.Grind.{flat_map-append}
use Rattle.mk_name.specs.Reported.{Reported}
use Rattle.mk_name.specs.declared.fault.Kind.{Kind}
use Rattle.mk_name.specs.declared.fault.Source.TheVariants as sources
use Rattle.mk_name.specs.declared.fault.Kind.TheVariants.{BadFootprint, FootprintsTooLarge}
use Rattle.mk_text.specs.LineFeed.{HasStopped}
use Rattle.mk_text.specs.declared.line_sink.Stop.{Stop}
use Rattle.mk_text.specs.declared.line_sink.Stop.TheVariants.{Memory, Fault}
use Rattle.mk_foot.specs.Lines.{FootprintLine, lines_in}
use Rattle.mk_foot.specs.Footprints.{AreFootprints, AreRead, fault_at, fault_by, first_fault, greatest_place, lines_of, path_count, path_limit, reported, reported_at}
use Rattle.mk_foot.specs.FootReader.{HasUnited, United}

-- ---- the first fault of some lines and one more

length_push : (front : List (List ℕ)) (x : List ℕ) → length (front ++ x ∷ []) ≡ length front + 1
length_push front x = omega (arith, length-append front (x ∷ []))

-- some lines up to one more
up_to : (front : List (List ℕ)) (x : List ℕ) (rest : List (List ℕ)) → take (length front + 1) ((front ++ x ∷ []) ++ rest) ≡ front ++ x ∷ []
up_to front x rest = take_at (front ++ x ∷ []) rest (length front + 1) (length_push front x)

whole : (front : List (List ℕ)) (x : List ℕ) (more : List (List ℕ)) → (front ++ x ∷ more) ≡ (front ++ x ∷ []) ++ more
whole front x more = sym (append_assoc front (x ∷ []) more)

-- the fault of a line goes by the lines up to it alone
here_alike : (root : List ℕ) (front : List (List ℕ)) (x : List ℕ) (more tail : List (List ℕ))
    → fault_at root ((front ++ x ∷ more) ++ tail) (length front + 1, x) ≡ fault_at root (front ++ x ∷ more) (length front + 1, x)
here_alike root front x more tail =
    ap (λ (ls : List (List ℕ)). fault_by (lines_in root x) (path_count (lines_of root ls)) (length front + 1))
    (ap (take (length front + 1)) (ap (λ ls. ls ++ tail) (whole front x more) ∙ append_assoc (front ++ x ∷ []) more tail) ∙ up_to front x (more ++ tail)
    ∙ sym (ap (take (length front + 1)) (whole front x more) ∙ up_to front x more))

-- the faults of these lines, which stand behind others, with a tail and without
abbrev AreAlike : List ℕ → List (List ℕ) → List (List ℕ) → List (List ℕ) → Type 0
AreAlike root front more tail =
    filter_map (fault_at root ((front ++ more) ++ tail)) (enumerate_from (length front + 1) more) ≡ filter_map (fault_at root (front ++ more)) (enumerate_from (length front + 1) more)

later_alike : (root : List ℕ) (front : List (List ℕ)) (x : List ℕ) (more tail : List (List ℕ)) → AreAlike root (front ++ x ∷ []) more tail
    → filter_map (fault_at root ((front ++ x ∷ more) ++ tail)) (enumerate_from (length front + 1 + 1) more)
    ≡ filter_map (fault_at root (front ++ x ∷ more)) (enumerate_from (length front + 1 + 1) more)
later_alike root front x more tail alike =
    ap₂ (λ (ls : List (List ℕ)) n. filter_map (fault_at root (ls ++ tail)) (enumerate_from n more)) (whole front x more) (ap (λ n. n + 1) (sym (length_push front x)))
    ∙ alike
    ∙ ap₂ (λ (ls : List (List ℕ)) n. filter_map (fault_at root ls) (enumerate_from n more)) (sym (whole front x more)) (ap (λ n. n + 1) (length_push front x))

faults_alike : (root : List ℕ) (front more tail : List (List ℕ)) → AreAlike root front more tail
faults_alike root front [] tail = refl
faults_alike root front (x ∷ more) tail =
    ap₂ cons_option (here_alike root front x more tail) (later_alike root front x more tail (faults_alike root (front ++ x ∷ []) more tail))

enumerate_push : (n : ℕ) (lines : List (List ℕ)) (x : List ℕ) → enumerate_from n (lines ++ x ∷ []) ≡ enumerate_from n lines ++ (n + length lines, x) ∷ []
enumerate_push n [] x = ap (λ m. (m, x) ∷ []) (omega arith)
enumerate_push n (l ∷ lines) x = ap (λ ls. (n, l) ∷ ls) (enumerate_push (n + 1) lines x ∙ ap (λ m. enumerate_from (n + 1) lines ++ (m, x) ∷ []) (omega arith))

faults_push : (root : List ℕ) (ended : List (List ℕ)) (x : List ℕ)
    → filter_map (fault_at root (ended ++ x ∷ [])) (enumerate_from 1 (ended ++ x ∷ []))
    ≡ filter_map (fault_at root ended) (enumerate_from 1 ended) ++ option_to_list (fault_at root (ended ++ x ∷ []) (length ended + 1, x))
faults_push root ended x =
    ap (filter_map (fault_at root (ended ++ x ∷ []))) (enumerate_push 1 ended x)
    ∙ filter_map-append (fault_at root (ended ++ x ∷ [])) (enumerate_from 1 ended) ((1 + length ended, x) ∷ [])
    ∙ ap₂ (λ fs gs. fs ++ gs) (faults_alike root [] ended (x ∷ []))
    (one (fault_at root (ended ++ x ∷ []) (1 + length ended, x)) ∙ ap (λ n. option_to_list (fault_at root (ended ++ x ∷ []) (n, x))) (omega arith))
  where
    one : (o : Option Reported) → cons_option o [] ≡ option_to_list o
    one None = refl
    one (Some t) = refl

first_of : (faults : List Reported) (o : Option Reported) → slice_get faults 0 ≡ None → slice_get (faults ++ option_to_list o) 0 ≡ o
first_of [] None none = refl
first_of [] (Some t) none = refl
first_of (f ∷ fs) o none = absurd (let e : Some f ≡ None = none in cc)

still_first : (faults more : List Reported) (t : Reported) → slice_get faults 0 ≡ Some t → slice_get (faults ++ more) 0 ≡ Some t
still_first [] more t some = absurd (let e : ◌≡◌ {A = Option Reported} None (Some t) = some in cc)
still_first (f ∷ fs) more t some = some

-- a fault stays the first
fault_stays : (root : List ℕ) (ended : List (List ℕ)) (x : List ℕ) (t : Reported) → first_fault root ended ≡ Some t → first_fault root (ended ++ x ∷ []) ≡ Some t
fault_stays root ended x t is = ap (λ fs. slice_get fs 0) (faults_push root ended x) ∙ still_first _ _ t is

pub faults_stay : (root : List ℕ) (lines more : List (List ℕ)) (t : Reported) → first_fault root lines ≡ Some t → first_fault root (lines ++ more) ≡ Some t
faults_stay root lines [] t is = ap (first_fault root) (append-nil lines) ∙ is
faults_stay root lines (x ∷ more) t is =
    ap (first_fault root) (whole lines x more) ∙ faults_stay root (lines ++ x ∷ []) more t (fault_stays root lines x t is)

-- behind good lines the fault of the next one is the first
fault_next : (root : List ℕ) (ended : List (List ℕ)) (x : List ℕ) → first_fault root ended ≡ None
    → first_fault root (ended ++ x ∷ []) ≡ fault_at root (ended ++ x ∷ []) (length ended + 1, x)
fault_next root ended x good = ap (λ fs. slice_get fs 0) (faults_push root ended x) ∙ first_of _ _ good

-- ---- what one more line says

-- what a line says below a root goes by the root's text
pub said_below : (root below text : List ℕ) (o : Option (List FootprintLine)) → below ≡ root → lines_in below text ≡ o → lines_in root text ≡ o
said_below root below text o same is = ap (λ r. lines_in r text) (sym same) ∙ is

pub one_line : (line : FootprintLine) → path_count (line ∷ []) ≡ length line.reads + length line.writes
one_line line = omega (arith, sum_by-cons (λ (l : FootprintLine). length l.reads + length l.writes) line [])

module _ (root : List ℕ) (ended : List (List ℕ)) (x : List ℕ) where
  whole_take : take (length ended + 1) (ended ++ x ∷ []) ≡ ended ++ x ∷ []
  whole_take = take_all (length ended + 1) (ended ++ x ∷ []) (omega (arith, length_push ended x))

  lines_more : (said : List FootprintLine) → lines_in root x ≡ Some said → lines_of root (ended ++ x ∷ []) ≡ lines_of root ended ++ said
  lines_more said e =
      flat_map-append (λ t. unwrap_or (lines_in root t) []) ended (x ∷ [])
      ∙ ap (λ ls. lines_of root ended ++ ls) (append-nil (unwrap_or (lines_in root x) []) ∙ ap (λ o. unwrap_or o []) e)

  counted : (paths : ℕ) (said : List FootprintLine) → lines_in root x ≡ Some said → paths ≡ path_count (lines_of root ended)
      → path_count (lines_of root (ended ++ x ∷ [])) ≡ paths + path_count said
  counted paths said e count =
      ap path_count (lines_more said e)
      ∙ sum_by-append (λ (l : FootprintLine). length l.reads + length l.writes) (lines_of root ended) said
      ∙ ap (λ n. n + path_count said) (sym count)

  module _ (sink : United) (place : ℕ) (before : HasUnited root sink ended) (place_is : place ≡ min (length ended + 1) greatest_place) where
    fault_here : (o : Option (List FootprintLine)) → lines_in root x ≡ o → first_fault root (ended ++ x ∷ []) ≡ fault_by o (path_count (lines_of root (ended ++ x ∷ []))) (length ended + 1)
    fault_here o e =
        fault_next root ended x before.good
        ∙ ap (λ (ls : List (List ℕ)). fault_by (lines_in root x) (path_count (lines_of root ls)) (length ended + 1)) whole_take
        ∙ ap (λ p. fault_by p (path_count (lines_of root (ended ++ x ∷ []))) (length ended + 1)) e

    pub bad_first : lines_in root x ≡ None → first_fault root (ended ++ x ∷ []) ≡ Some (reported_at BadFootprint place)
    bad_first e = fault_here None e ∙ ap (λ p. Some (reported_at BadFootprint p)) (sym place_is)

    pub large_first : (line : FootprintLine) → lines_in root x ≡ Some (line ∷ []) → path_limit < sink.paths + (length line.reads + length line.writes)
        → first_fault root (ended ++ x ∷ []) ≡ Some (reported_at FootprintsTooLarge place)
    large_first line e over =
        fault_here (Some (line ∷ [])) e
        ∙ ap (λ n. cond (nat_lt path_limit n) (Some (reported FootprintsTooLarge (length ended + 1))) None) (counted sink.paths (line ∷ []) e before.count)
        ∙ cond-true (nat_lt path_limit (sink.paths + path_count (line ∷ []))) _ _ (lt-ltb path_limit (sink.paths + path_count (line ∷ [])) (omega (arith, over, one_line line)))
        ∙ ap (λ p. Some (reported_at FootprintsTooLarge p)) (sym place_is)

    pub good_more : (said : List FootprintLine) (new : United) → lines_in root x ≡ Some said → new.paths ≡ sink.paths + path_count said → new.paths ≤ path_limit
        → AreFootprints root new.footprints (lines_of root ended ++ said) → HasUnited root new (ended ++ x ∷ [])
    good_more said new e is few united = record {
      good =
          fault_here (Some said) e
          ∙ ap (λ n. cond (nat_lt path_limit n) (Some (reported FootprintsTooLarge (length ended + 1))) None) (counted sink.paths said e before.count ∙ sym is)
          ∙ cond-false (nat_lt path_limit new.paths) _ _ (le-ltb path_limit new.paths few);
      united = subst (λ (ls : List FootprintLine). AreFootprints root new.footprints ls) (sym (lines_more said e)) united;
      count = is ∙ sym (counted sink.paths said e before.count);
      few = few;
    }

-- a call that stops by a fault, and not out of memory
pub stops_by : (stop : Stop) (root : List ℕ) (lines : List (List ℕ)) (kind : Kind) (place : ℕ) → (stop ≢ Memory → stop ≡ Fault kind place)
    → (stop ≢ Memory → first_fault root lines ≡ Some (reported_at kind place)) → HasStopped sources.Footprints (AreRead root) lines stop
stops_by Memory root lines kind place is holds = tt
stops_by (Fault given at) root lines kind place is holds =
    let other : Fault given at ≢ Memory = λ e. cc in
    let same : Fault given at ≡ Fault kind place = is other in
    subst (HasStopped sources.Footprints (AreRead root) lines) (sym same) (λ more. faults_stay root lines more (reported_at kind place) (holds other))

-- a line of which fewer bytes stand here than are kept stands here whole
pub whole_line : (n : ℕ) (line other : List ℕ) → length line < n → take n line ≡ take n other → line ≡ other
whole_line n line other short same =
    let full : take n line ≡ line = take_all n line (omega (arith, short)) in
    let long : length (take n other) ≡ length line = ap length (sym same ∙ full) in
    sym full ∙ same ∙ take_all n other (omega (arith, short, long, length-take n other))
