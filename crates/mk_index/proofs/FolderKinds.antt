-- The folders of a name, by how they are found in it.
use Rattle.std.proofs.Common.{ℕ, zero, suc, ◌≡◌, ◌<◌, ◌≤◌, ◌+◌, ◌⊎◌, ◌&&◌, ◌||◌, Bool, true, false, not, eqb, cond, List, [], ◌∷◌, length, take, get_or, map, codes, refl, sym, ap, subst, ◌∙◌, inl, inr, arith}
use Rattle.std.specs.List.{list_any}
use Rattle.std.proofs.lemmas.Bool.{and_parts, both_ways, cases_Bool, cases_order, cond-true, cond-false, eqb-true, or_cases, or_left, or_right}
use Rattle.std.proofs.lemmas.List.{get_or-take, length-take-le, take-take}
use Rattle.mk_name.specs.Names.{Name, same_name}
use Rattle.mk_name.proofs.Names.{name_is_exact}
use Rattle.mk_path.specs.Covering.{inner_folders, proper_cuts}
use Rattle.mk_path.specs.Laws.{IsFolderOf}
use Rattle.mk_index.specs.Nearest.{IsInner, IsOther, IsOuter, IsOverName, IsOverText, depth_of}
use Rattle.mk_path.proofs.Begin.{own_folder}
use Rattle.mk_path.proofs.Folders.{any_inner_found}
use Rattle.mk_path.proofs.Found.{any_folders, own, outer, over}
use Rattle.mk_path.proofs.Tests.{any_map}
use Rattle.mk_text.specs.Spelling.{is_absolute, top_of}

-- what is found stands before a slash
record FoundAt (f : Name → Bool) (x : Name) : Type 0 where
  place : ℕ
  less : place < length x
  slash : get_or x place 0 ≡ 47
  here : f (take place x) ≡ true

proper_at : (f : Name → Bool) (bs : Name) → list_any f (proper_cuts bs) ≡ true → FoundAt f bs
proper_at f [] found = absurd (both_ways false refl found)
proper_at f (b ∷ bs) found =
    let cuts = map (λ t. b ∷ t) (proper_cuts bs) in
    let later : list_any f cuts ≡ true → FoundAt f (b ∷ bs) = λ more.
    let r = proper_at (λ t. f (b ∷ t)) bs (sym (any_map f (λ t. b ∷ t) (proper_cuts bs)) ∙ more) in
    record { place = suc r.place; less = omega (arith, r.less); slash = r.slash; here = r.here } in
    elim (cases_Bool (eqb b 47)) [
      | inl slash ↦ elim (or_cases (f []) (list_any f cuts) (sym (ap (list_any f) (cond-true (eqb b 47) ([] ∷ cuts) cuts slash)) ∙ found)) [
        | inl first ↦ record { place = 0; less = omega arith; slash = eqb-true b 47 slash; here = first }
        | inr more ↦ later more
      ]
      | inr other ↦ later (sym (ap (list_any f) (cond-false (eqb b 47) ([] ∷ cuts) cuts other)) ∙ found)
    ]

inner_at : (x y : Name) → list_any (λ z. same_name z y) (inner_folders x) ≡ true → IsInner x y
inner_at [] y found = absurd (both_ways false refl found)
inner_at (b ∷ bs) y found =
    let r = proper_at (λ t. same_name (b ∷ t) y) bs (sym (any_map (λ z. same_name z y) (λ t. b ∷ t) (proper_cuts bs)) ∙ found) in
    record {
      place = suc r.place;
      some = omega arith;
      less = omega (arith, r.less);
      slash = r.slash;
      is = sym (name_is_exact.equal (b ∷ take r.place bs) y r.here);
    }

-- a name is this one, or another
is_or_other : (x folder y : Name) → y ≡ folder → (y ≡ x) ⊎ IsOther x folder y
is_or_other x folder y is = elim (cases_Bool (same_name x folder)) [
  | inl same ↦ inl (is ∙ sym (name_is_exact.equal x folder same))
  | inr apart ↦ inr (λ same. both_ways (same_name x folder) apart (ap (λ z. same_name z folder) same ∙ name_is_exact.itself folder), is)
]

module _ (root : List ℕ) where
  -- a folder of a name is the name, or stands over it
  pub kinds : (x y : Name) → IsFolderOf root y x → (y ≡ x) ⊎ IsOverName (top_of root) x y
  kinds x y folder =
      let f : Name → Bool = λ z. same_name z y in
      let top = top_of root in
      let all : (own f x || outer f top x) ≡ true = sym (any_folders f root x) ∙ folder in
      elim (or_cases (own f x) (outer f top x) all) [
        | inl spelled ↦ elim (or_cases (f x) (list_any f (inner_folders x)) spelled) [
          | inl same ↦ inl (sym (name_is_exact.equal x y same))
          | inr inner ↦ inr (inl (inner_at x y inner))
        ]
        | inr out ↦ elim (cases_Bool (is_absolute x)) [
          | inl absolute ↦
              let slash : same_name (codes "/") y ≡ true = sym (cond-true (is_absolute x) (f (codes "/")) (f (codes ".") || over f top) absolute) ∙ out in
              elim (is_or_other x (codes "/") y (sym (name_is_exact.equal (codes "/") y slash))) [
                | inl same ↦ inl same
                | inr other ↦ inr (inr (inl (absolute, other)))
              ]
          | inr relative ↦
              let below : (f (codes ".") || over f top) ≡ true = sym (cond-false (is_absolute x) (f (codes "/")) (f (codes ".") || over f top) relative) ∙ out in
              elim (or_cases (f (codes ".")) (over f top) below) [
                | inl dot ↦ elim (is_or_other x (codes ".") y (sym (name_is_exact.equal (codes ".") y dot))) [
                  | inl same ↦ inl same
                  | inr other ↦ inr (inr (inr (relative, inl other)))
                ]
                | inr above ↦
                    let parts = and_parts (not (same_name top (codes "/"))) (list_any f (inner_folders top) || f (codes "/")) above in
                    elim (or_cases (list_any f (inner_folders top)) (f (codes "/")) parts.1) [
                      | inl inner ↦ inr (inr (inr (relative, inr (inl (inner_at top y inner)))))
                      | inr slash ↦
                          let apart : top ≡ codes "/" → ⊥ = λ same.
                          both_ways (not (same_name top (codes "/"))) (ap (λ z. not (same_name z (codes "/"))) same) parts.0 in
                          inr (inr (inr (relative, inr (inr (apart, sym (name_is_exact.equal (codes "/") y slash))))))
                    ]
              ]
        ]
      ]

  -- and each such name is a folder
  pub inner_folder : (x y : Name) → IsInner x y → IsFolderOf root y x
  inner_folder x y inner =
      let f : Name → Bool = λ z. same_name z y in
      let here : f (take inner.place x) ≡ true = ap (λ z. same_name z y) (sym inner.is) ∙ name_is_exact.itself y in
      any_folders f root x ∙ or_left (own f x) (outer f (top_of root) x)
      (or_right (f x) (list_any f (inner_folders x)) (any_inner_found f x inner.place inner.some inner.less inner.slash here))

  pub slash_folder : (x y : Name) → is_absolute x ≡ true → y ≡ codes "/" → IsFolderOf root y x
  slash_folder x y absolute is =
      let f : Name → Bool = λ z. same_name z y in
      let here : f (codes "/") ≡ true = ap (λ z. same_name (codes "/") z) is ∙ name_is_exact.itself (codes "/") in
      any_folders f root x ∙ or_right (own f x) (outer f (top_of root) x)
      (cond-true (is_absolute x) (f (codes "/")) (f (codes ".") || over f (top_of root)) absolute ∙ here)

  below_root : (x y : Name) → is_absolute x ≡ false → (same_name (codes ".") y || over (λ z. same_name z y) (top_of root)) ≡ true → IsFolderOf root y x
  below_root x y relative here =
      let f : Name → Bool = λ z. same_name z y in
      any_folders f root x ∙ or_right (own f x) (outer f (top_of root) x)
      (cond-false (is_absolute x) (f (codes "/")) (f (codes ".") || over f (top_of root)) relative ∙ here)

  pub dot_folder : (x y : Name) → is_absolute x ≡ false → y ≡ codes "." → IsFolderOf root y x
  dot_folder x y relative is =
      below_root x y relative (or_left (same_name (codes ".") y) _ (ap (λ z. same_name (codes ".") z) is ∙ name_is_exact.itself (codes ".")))

  both_true : (a b : Bool) → a ≡ true → b ≡ true → (a && b) ≡ true
  both_true true true first second = refl
  both_true true false first second = second
  both_true false b first second = first

  not_same : (x y : Name) → (x ≡ y → ⊥) → not (same_name x y) ≡ true
  not_same x y apart = elim (cases_Bool (same_name x y)) [
    | inl same ↦ absurd (apart (name_is_exact.equal x y same))
    | inr other ↦ ap not other
  ]

  pub over_folder : (x y : Name) → is_absolute x ≡ false → IsOverText (top_of root) y → IsFolderOf root y x
  over_folder x y relative (inl inner) =
      let f : Name → Bool = λ z. same_name z y in
      let top = top_of root in
      let here : f (take inner.place top) ≡ true = ap (λ z. same_name z y) (sym inner.is) ∙ name_is_exact.itself y in
      let long : top ≡ codes "/" → ⊥ = λ same. omega (arith, ap length same, inner.some, inner.less) in
      below_root x y relative (or_right (f (codes ".")) (over f top) (both_true _ _ (not_same top (codes "/") long)
      (or_left (list_any f (inner_folders top)) (f (codes "/")) (any_inner_found f top inner.place inner.some inner.less inner.slash here))))
  over_folder x y relative (inr other) =
      let f : Name → Bool = λ z. same_name z y in
      let top = top_of root in
      below_root x y relative (or_right (f (codes ".")) (over f top) (both_true _ _ (not_same top (codes "/") other.0)
      (or_right (list_any f (inner_folders top)) (f (codes "/")) (ap (λ z. same_name (codes "/") z) other.1 ∙ name_is_exact.itself (codes "/")))))

  outer_folder : (x y : Name) → IsOuter (top_of root) x y → IsFolderOf root y x
  outer_folder x y (inl both) = slash_folder x y both.0 both.1.1
  outer_folder x y (inr (both)) = elim both.1 [ inl dot ↦ dot_folder x y both.0 dot.1 | inr above ↦ over_folder x y both.0 above ]

  pub over_name_folder : (x y : Name) → IsOverName (top_of root) x y → IsFolderOf root y x
  over_name_folder x y (inl inner) = inner_folder x y inner
  over_name_folder x y (inr outer) = outer_folder x y outer

  -- of two folders that a text spells the shorter is one of the longer
  pub shorter_folder : (x : Name) (j k : ℕ) → 0 < j → j ≤ k → k < length x → get_or x j 0 ≡ 47 → IsFolderOf root (take j x) (take k x)
  shorter_folder x j k some most below slash = elim (cases_order j k) [
    | inl same ↦ subst (λ i. IsFolderOf root (take i x) (take k x)) (sym same) (own_folder root (take k x))
    | inr (inl less) ↦ inner_folder (take k x) (take j x) (record {
      place = j;
      some = some;
      less = omega (arith, less, length-take-le k x (omega (arith, below)));
      slash = get_or-take k x j 0 less ∙ slash;
      is = sym (take-take j k x (omega (arith, less)));
    })
    | inr (inr more) ↦ absurd (omega (arith, most, more))
  ]

-- the beginning of a text has its first byte
pub absolute_take : (x : Name) (k : ℕ) → 0 < k → is_absolute (take k x) ≡ is_absolute x
absolute_take [] zero some = refl
absolute_take [] (suc k) some = refl
absolute_take (b ∷ bs) zero some = absurd (omega arith)
absolute_take (b ∷ bs) (suc k) some = refl

-- what stands over an inner folder of a name
pub outer_of_inner : (root : List ℕ) (x a b : Name) → IsInner x a → IsOuter (top_of root) x b → IsFolderOf root b a
outer_of_inner root x a b inner (inl both) =
    slash_folder root a b (ap is_absolute inner.is ∙ absolute_take x inner.place inner.some ∙ both.0) both.1.1
outer_of_inner root x a b inner (inr both) =
    let relative : is_absolute a ≡ false = ap is_absolute inner.is ∙ absolute_take x inner.place inner.some ∙ both.0 in
    elim both.1 [ inl dot ↦ dot_folder root a b relative dot.1 | inr above ↦ over_folder root a b relative above ]

-- how deep a name is
deep_absolute : (n : ℕ) (x : Name) → is_absolute x ≡ true → depth_of n x ≡ length x
deep_absolute n x absolute = cond-true (is_absolute x) (length x) (cond (same_name x (codes ".")) n (n + length x + 1)) absolute

deep_relative : (n : ℕ) (x : Name) → is_absolute x ≡ false → depth_of n x ≡ cond (same_name x (codes ".")) n (n + length x + 1)
deep_relative n x relative = cond-false (is_absolute x) (length x) (cond (same_name x (codes ".")) n (n + length x + 1)) relative

relative_bounds : (n : ℕ) (x : Name) → is_absolute x ≡ false → (n ≤ depth_of n x) × (depth_of n x ≤ n + length x + 1)
relative_bounds n x relative =
    let is = deep_relative n x relative in
    elim (cases_Bool (same_name x (codes "."))) [
      | inl dot ↦ let at = cond-true (same_name x (codes ".")) n (n + length x + 1) dot in (omega (arith, is, at), omega (arith, is, at))
      | inr other ↦ let at = cond-false (same_name x (codes ".")) n (n + length x + 1) other in (omega (arith, is, at), omega (arith, is, at))
    ]

relative_other : (n : ℕ) (x : Name) → is_absolute x ≡ false → (x ≡ codes "." → ⊥) → depth_of n x ≡ n + length x + 1
relative_other n x relative apart = elim (cases_Bool (same_name x (codes "."))) [
  | inl dot ↦ absurd (apart (name_is_exact.equal x (codes ".") dot))
  | inr other ↦ deep_relative n x relative ∙ cond-false (same_name x (codes ".")) n (n + length x + 1) other
]

long_absolute : (x : Name) → is_absolute x ≡ true → (x ≡ codes "/" → ⊥) → 2 ≤ length x
long_absolute [] absolute apart = absurd (both_ways false refl absolute)
long_absolute (b ∷ []) absolute apart = absurd (apart (ap (λ c. c ∷ []) (eqb-true b 47 absolute)))
long_absolute (b ∷ c ∷ cs) absolute apart = omega arith

-- what stands over a name is less deep
module _ (top : Name) (absolute_top : is_absolute top ≡ true) where
  inner_less : (x y : Name) → IsInner x y → depth_of (length top) y < depth_of (length top) x
  inner_less x y inner =
      let n = length top in
      let k = inner.place in
      let long : length y ≡ k = ap length inner.is ∙ length-take-le k x (omega (arith, inner.less)) in
      let first : is_absolute y ≡ is_absolute x = ap is_absolute inner.is ∙ absolute_take x k inner.some in
      elim (cases_Bool (is_absolute x)) [
        | inl absolute ↦ omega (arith, deep_absolute n x absolute, deep_absolute n y (first ∙ absolute), long, inner.less)
        | inr relative ↦
            let apart : x ≡ codes "." → ⊥ = λ dot. omega (arith, ap length dot, inner.some, inner.less) in
            omega (arith, relative_other n x relative apart, (relative_bounds n y (first ∙ relative)).1, long, inner.less)
      ]

  over_text_less : (y : Name) → IsOverText top y → depth_of (length top) y < length top
  over_text_less y (inl inner) =
      let long : length y ≡ inner.place = ap length inner.is ∙ length-take-le inner.place top (omega (arith, inner.less)) in
      let absolute : is_absolute y ≡ true = ap is_absolute inner.is ∙ absolute_take top inner.place inner.some ∙ absolute_top in
      omega (arith, deep_absolute (length top) y absolute, long, inner.less)
  over_text_less y (inr other) =
      let is : depth_of (length top) y ≡ 1 = ap (depth_of (length top)) other.1 in
      omega (arith, is, long_absolute top absolute_top other.0)

  pub over_name_less : (x y : Name) → IsOverName top x y → depth_of (length top) y < depth_of (length top) x
  over_name_less x y (inl inner) = inner_less x y inner
  over_name_less x y (inr (inl both)) =
      let is : depth_of (length top) y ≡ 1 = ap (depth_of (length top)) both.1.1 in
      omega (arith, is, long_absolute x both.0 both.1.0, deep_absolute (length top) x both.0)
  over_name_less x y (inr (inr both)) = elim both.1 [
    | inl dot ↦
        let is : depth_of (length top) y ≡ length top = ap (depth_of (length top)) dot.1 in
        omega (arith, is, relative_other (length top) x both.0 dot.0)
    | inr above ↦ omega (arith, over_text_less y above, (relative_bounds (length top) x both.0).0)
  ]
