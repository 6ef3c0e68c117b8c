-- Names as their components, joined by slashes.
use Rattle.std.proofs.Common.{◌≡◌, ◌-◌, ◌&&◌, ◌||◌, ◌++◌, ℕ, suc, zero, Bool, true, false, cond, eqb, List, [], ◌∷◌, None, Some, is_some, unwrap_or, codes, fold, length, take, sym, ap, subst, ◌∙◌, refl, inl, inr}
use Rattle.std.specs.Cmp.Lexicographic.{nat_list_eq_equiv, pointwise, same_text}
use Rattle.std.specs.List.{join_with_byte, list_any, onto_first}
use Rattle.std.proofs.lemmas.Bool.{and_left, cases_Bool, cond-true, cond-false, false≢true, or_parts}
use Rattle.std.proofs.lemmas.Cmp.{nat_eq_equiv}
use Rattle.std.proofs.lemmas.List.{append-nil}
use Rattle.mk_name.specs.Names.{Name, same_name}
use Rattle.mk_path.specs.Laws.{begins_with}
use Rattle.mk_path.specs.Ranges.{goes_on, has_no_bytes}
use Rattle.mk_text.specs.Spelling.{below, components, full, is_absolute, one_more, reduced, without_last}

-- a text without a slash
abbrev pub NoSlash : Name → Type 0
NoSlash part = list_any (λ b. eqb b 47) part ≡ false

-- a component that stands for itself
pub record Good (part : Name) : Type 0 where
  pub some : has_no_bytes part ≡ false
  pub other : same_name part (codes ".") ≡ false
  pub whole : NoSlash part

abbrev pub Goods : List Name → Type 0
Goods [] = Unit {0}
Goods (part ∷ parts) = Good part × Goods parts

abbrev pub NoSlashes : List Name → Type 0
NoSlashes [] = Unit {0}
NoSlashes (part ∷ parts) = NoSlash part × NoSlashes parts

-- what stands between slashes has none
onto_whole : (x : ℕ) (parts : List Name) → eqb x 47 ≡ false → NoSlashes parts → NoSlashes (onto_first x parts)
onto_whole x [] e whole = (ap (λ b. b || false) e, tt)
onto_whole x (part ∷ parts) e whole = (ap (λ b. b || list_any (λ y. eqb y 47) part) e ∙ whole.0, whole.1)

split_whole : (path : List ℕ) → NoSlashes (components path)
split_whole [] = (refl, tt)
split_whole (x ∷ xs) = elim (cases_Bool (eqb x 47)) [
  | inl slash ↦ subst NoSlashes (sym (cond-true (eqb x 47) ([] ∷ components xs) (onto_first x (components xs)) slash)) (refl, split_whole xs)
  | inr other ↦ subst NoSlashes (sym (cond-false (eqb x 47) ([] ∷ components xs) (onto_first x (components xs)) other)) (onto_whole x (components xs) other (split_whole xs))
]

whole_append : (xs ys : List Name) → NoSlashes xs → NoSlashes ys → NoSlashes (xs ++ ys)
whole_append [] ys first second = second
whole_append (x ∷ xs) ys first second = (first.0, whole_append xs ys first.1 second)

full_whole : (root path : List ℕ) → NoSlashes (full root path)
full_whole root path = elim (cases_Bool (is_absolute path)) [
  | inl first ↦ subst NoSlashes (sym (cond-true (is_absolute path) (components path) (components root ++ components path) first)) (split_whole path)
  | inr other ↦ subst NoSlashes (sym (cond-false (is_absolute path) (components path) (components root ++ components path) other)) (whole_append (components root) (components path) (split_whole root) (split_whole path))
]

-- reduced lists have good components
goods_take : (n : ℕ) (parts : List Name) → Goods parts → Goods (take n parts)
goods_take zero parts good = tt
goods_take (suc n) [] good = tt
goods_take (suc n) (part ∷ parts) good = (good.0, goods_take n parts good.1)

goods_push : (parts : List Name) (part : Name) → Goods parts → Good part → Goods (parts ++ part ∷ [])
goods_push [] part good last = (last, tt)
goods_push (first ∷ parts) part good last = (good.0, goods_push parts part good.1 last)

has_bytes : (part : Name) → eqb (length part) 0 ≡ false → has_no_bytes part ≡ false
has_bytes [] e = absurd (false≢true (sym e))
has_bytes (b ∷ bs) e = refl

goods_more : (kept : List Name) (part : Name) → Goods kept → NoSlash part → Goods (one_more kept part)
goods_more kept part good whole =
    let dropped = eqb (length part) 0 || pointwise eqb part (codes ".") in
    let parent = pointwise eqb part (codes "..") in
    let further = cond parent (without_last kept) (kept ++ part ∷ []) in
    elim (cases_Bool dropped) [
      | inl first ↦ subst Goods (sym (cond-true dropped kept further first)) good
      | inr some ↦ subst Goods (sym (cond-false dropped kept further some)) (elim (cases_Bool parent) [
        | inl up ↦ subst Goods (sym (cond-true parent (without_last kept) (kept ++ part ∷ []) up)) (goods_take (length kept - 1) kept good)
        | inr plain ↦
            let tests = or_parts (eqb (length part) 0) (pointwise eqb part (codes ".")) some in
            subst Goods (sym (cond-false parent (without_last kept) (kept ++ part ∷ []) plain))
            (goods_push kept part good (record { some = has_bytes part tests.0; other = tests.1; whole = whole }))
      ])
    ]

goods_fold : (parts kept : List Name) → Goods kept → NoSlashes parts → Goods (fold one_more kept parts)
goods_fold [] kept good whole = good
goods_fold (part ∷ parts) kept good whole = goods_fold parts (one_more kept part) (goods_more kept part good whole.0) whole.1

pub goods_full : (root path : List ℕ) → Goods (reduced (full root path))
goods_full root path = goods_fold (full root path) [] tt (full_whole root path)

pub goods_root : (root : List ℕ) → Goods (reduced (components root))
goods_root root = goods_fold (components root) [] tt (split_whole root)

-- what follows the first component
abbrev pub tail : List Name → Name
tail [] = []
tail (part ∷ parts) = 47 ∷ join_with_byte 47 (part ∷ parts)

pub join_head : (part : Name) (parts : List Name) → join_with_byte 47 (part ∷ parts) ≡ part ++ tail parts
join_head part [] = sym (append-nil part)
join_head part (next ∷ parts) = refl

turned : (c d : ℕ) → eqb c d ≡ false → eqb d c ≡ false
turned c d e = nat_eq_equiv.symm d c ∙ e

and_inwards : (a b e : Bool) → (a && (b && e)) ≡ ((a && b) && e)
and_inwards true b e = refl
and_inwards false b e = refl

-- two texts of components agree where the first components do and what follows does
pub heads_same : (p y : Name) (ps ys : List Name) → NoSlash p → NoSlash y
    → same_name (p ++ tail ps) (y ++ tail ys) ≡ (same_name p y && same_name (tail ps) (tail ys))
heads_same [] [] ps ys first second = refl
heads_same [] (c ∷ cs) [] ys first second = refl
heads_same [] (c ∷ cs) (q ∷ qs) ys first second =
    and_left (eqb 47 c) (same_name (join_with_byte 47 (q ∷ qs)) (cs ++ tail ys)) (turned c 47 (or_parts (eqb c 47) (list_any (λ b. eqb b 47) cs) second).0)
heads_same (d ∷ ds) [] ps [] first second = refl
heads_same (d ∷ ds) [] ps (z ∷ zs) first second =
    and_left (eqb d 47) (same_name (ds ++ tail ps) (join_with_byte 47 (z ∷ zs))) (or_parts (eqb d 47) (list_any (λ b. eqb b 47) ds) first).0
heads_same (d ∷ ds) (c ∷ cs) ps ys first second =
    ap (λ b. eqb d c && b) (heads_same ds cs ps ys (or_parts (eqb d 47) (list_any (λ b. eqb b 47) ds) first).1 (or_parts (eqb c 47) (list_any (λ b. eqb b 47) cs) second).1)
    ∙ and_inwards (eqb d c) (same_name ds cs) (same_name (tail ps) (tail ys))

-- and one goes on from the other likewise
pub heads_go_on : (p y : Name) (ps ys : List Name) → NoSlash p → NoSlash y
    → goes_on (p ++ tail ps) (y ++ tail ys) ≡ (same_name p y && goes_on (tail ps) (tail ys))
heads_go_on [] [] ps ys first second = refl
heads_go_on [] (c ∷ cs) [] ys first second = (or_parts (eqb c 47) (list_any (λ b. eqb b 47) cs) second).0
heads_go_on [] (c ∷ cs) (q ∷ qs) ys first second =
    and_left (eqb c 47) (goes_on (join_with_byte 47 (q ∷ qs)) (cs ++ tail ys)) (or_parts (eqb c 47) (list_any (λ b. eqb b 47) cs) second).0
heads_go_on (d ∷ ds) [] ps [] first second = refl
heads_go_on (d ∷ ds) [] ps (z ∷ zs) first second =
    and_left (eqb 47 d) (goes_on (ds ++ tail ps) (join_with_byte 47 (z ∷ zs))) (turned d 47 (or_parts (eqb d 47) (list_any (λ b. eqb b 47) ds) first).0)
heads_go_on (d ∷ ds) (c ∷ cs) ps ys first second =
    ap (λ b. eqb c d && b) (heads_go_on ds cs ps ys (or_parts (eqb d 47) (list_any (λ b. eqb b 47) ds) first).1 (or_parts (eqb c 47) (list_any (λ b. eqb b 47) cs) second).1)
    ∙ ap (λ b. b && (same_name ds cs && goes_on (tail ps) (tail ys))) (nat_eq_equiv.symm c d)
    ∙ and_inwards (eqb d c) (same_name ds cs) (goes_on (tail ps) (tail ys))

common : (s a b : Bool) → ((s && a) || (s && b)) ≡ (s && (a || b))
common true a b = refl
common false a b = refl

-- a text of components begins another where its components do
pub tails_begin : (ps ys : List Name) → Goods ps → Goods ys → (same_name (tail ps) (tail ys) || goes_on (tail ps) (tail ys)) ≡ begins_with ps ys
tails_begin [] [] first second = refl
tails_begin [] (y ∷ ys) first second = refl
tails_begin (p ∷ ps) [] first second = refl
tails_begin (p ∷ ps) (y ∷ ys) first second =
    let s = same_name p y in
    ap (λ t. same_name t (join_with_byte 47 (y ∷ ys)) || goes_on t (join_with_byte 47 (y ∷ ys))) (join_head p ps)
    ∙ ap (λ u. same_name (p ++ tail ps) u || goes_on (p ++ tail ps) u) (join_head y ys)
    ∙ ap (λ b. b || goes_on (p ++ tail ps) (y ++ tail ys)) (heads_same p y ps ys first.0.whole second.0.whole)
    ∙ ap (λ b. (s && same_name (tail ps) (tail ys)) || b) (heads_go_on p y ps ys first.0.whole second.0.whole)
    ∙ common s (same_name (tail ps) (tail ys)) (goes_on (tail ps) (tail ys))
    ∙ ap (λ b. s && b) (tails_begin ps ys first.1 second.1)

-- a text of components does not begin with a slash, and is not empty
pub join_view : (p : Name) (ps : List Name) → Good p → (c : ℕ) × (u : Name) × (join_with_byte 47 (p ∷ ps) ≡ c ∷ u) × (eqb c 47 ≡ false)
join_view [] ps good = absurd (false≢true (sym good.some))
join_view (c ∷ cs) ps good = (c, cs ++ tail ps, join_head (c ∷ cs) ps, (or_parts (eqb c 47) (list_any (λ b. eqb b 47) cs) good.whole).0)

-- what follows the root's components
pub below_some : (root parts rest : List Name) → below root parts ≡ Some rest → parts ≡ root ++ rest
below_some [] parts rest e = ap (λ o. unwrap_or o []) e
below_some (r ∷ root) [] rest e = absurd (false≢true (ap is_some e))
below_some (r ∷ root) (p ∷ parts) rest e = elim (cases_Bool (same_name r p)) [
  | inl same ↦
      ap (λ q. q ∷ parts) (sym (same_text r p (sym same)))
      ∙ ap (λ qs. r ∷ qs) (below_some root parts rest (sym (cond-true (same_name r p) (below root parts) None same) ∙ e))
  | inr other ↦ absurd (false≢true (ap is_some (sym (cond-false (same_name r p) (below root parts) None other) ∙ e)))
]

pub below_none : (root parts : List Name) → below root parts ≡ None → begins_with root parts ≡ false
below_none [] parts e = absurd (false≢true (sym (ap is_some e)))
below_none (r ∷ root) [] e = refl
below_none (r ∷ root) (p ∷ parts) e = elim (cases_Bool (same_name r p)) [
  | inl same ↦
      ap (λ b. b && begins_with root parts) same ∙ below_none root parts (sym (cond-true (same_name r p) (below root parts) None same) ∙ e)
  | inr other ↦ and_left (same_name r p) (begins_with root parts) other
]

-- lists that begin with one another
pub begins_behind : (root ps ys : List Name) → begins_with (root ++ ps) (root ++ ys) ≡ begins_with ps ys
begins_behind [] ps ys = refl
begins_behind (r ∷ root) ps ys = ap (λ b. b && begins_with (root ++ ps) (root ++ ys)) (nat_list_eq_equiv.refl r) ∙ begins_behind root ps ys

pub begins_not : (root ps ys : List Name) → begins_with root ys ≡ false → begins_with (root ++ ps) ys ≡ false
begins_not [] ps ys e = absurd (false≢true (sym e))
begins_not (r ∷ root) ps [] e = refl
begins_not (r ∷ root) ps (y ∷ ys) e = elim (cases_Bool (same_name r y)) [
  | inl same ↦ ap (λ b. b && begins_with (root ++ ps) ys) same ∙ begins_not root ps ys (sym (ap (λ b. b && begins_with root ys) same) ∙ e)
  | inr other ↦ ap (λ b. b && begins_with (root ++ ps) ys) other
]

pub begins_short : (ps root ys : List Name) → begins_with root ps ≡ false → begins_with ps (root ++ ys) ≡ begins_with ps root
begins_short [] root ys e = refl
begins_short (p ∷ ps) [] ys e = absurd (false≢true (sym e))
begins_short (p ∷ ps) (r ∷ root) ys e = elim (cases_Bool (same_name p r)) [
  | inl same ↦
      ap (λ b. same_name p r && b) (begins_short ps root ys (sym (ap (λ b. b && begins_with root ps) (nat_list_eq_equiv.symm r p ∙ same)) ∙ e))
  | inr other ↦ ap (λ b. b && begins_with ps (root ++ ys)) other ∙ sym (ap (λ b. b && begins_with ps root) other)
]
