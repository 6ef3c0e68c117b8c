-- For plain names covering is by full components.
use Rattle.std.proofs.Common.{◌≡◌, ◌&&◌, ◌||◌, ◌++◌, ℕ, Bool, true, false, not, eqb, List, [], ◌∷◌, Option, None, Some, codes, sym, ap, subst, ◌∙◌, refl}
use Rattle.std.specs.Cmp.Lexicographic.{nat_list_eq_equiv}
use Rattle.std.specs.List.{join_with_byte}
use Rattle.std.proofs.lemmas.Bool.{and_left, and_right, false≢true, or_parts, or_right}
use Rattle.std.proofs.lemmas.Cmp.{nat_eq_equiv}
use Rattle.mk_name.specs.Names.{Name, same_name}
use Rattle.mk_path.specs.Laws.{CoversByComponents, begins_with}
use Rattle.mk_path.specs.Ranges.{goes_on, has_no_bytes, in_tree, is_inside, is_over_names}
use Rattle.mk_path.proofs.Parts.{Good, Goods, below_none, below_some, begins_behind, begins_not, begins_short, goods_full, goods_root, heads_go_on, heads_same, join_head, join_view, tail, tails_begin}
use Rattle.mk_path.proofs.RangeTests.{tree_ranges}
use Rattle.mk_path.proofs.Tests.{or_turned}
use Rattle.mk_text.specs.Spelling.{below, components, full, is_absolute, plain_name, reduced, spelled}

goods_behind : (xs ys : List Name) → Goods (xs ++ ys) → Goods ys
goods_behind [] ys good = good
goods_behind (x ∷ xs) ys good = goods_behind xs ys good.1

-- a name below the root, by what follows the root's components
inside_name : List Name → Name
inside_name rest = spelled [] (Some rest)

-- a name spelled from the top
top_name : List Name → Name
top_name parts = 47 ∷ join_with_byte 47 parts

-- a folder's name begins with a slash and the other does not: the folder has to be over all such names
outer_shape : (k l s g h o : Bool) → k ≡ false → l ≡ false → (((l && s) || (k && g)) || ((h && k) || (o && not k))) ≡ o
outer_shape k l s g h o e f =
    ap (λ b. ((b && s) || (k && g)) || ((h && k) || (o && not k))) f ∙ ap (λ b. (b && g) || ((h && b) || (o && not b))) e ∙ by h o
  where
    by : (h o : Bool) → ((h && false) || (o && true)) ≡ o
    by true true = refl
    by true false = refl
    by false true = refl
    by false false = refl

outer_tree : (top a u : Name) (c : ℕ) → eqb c 47 ≡ false → in_tree top (47 ∷ a) (c ∷ u) ≡ is_over_names top (47 ∷ a)
outer_tree top a u c e =
    outer_shape (eqb c 47) (eqb 47 c) (same_name a u) (goes_on a u) (same_name (47 ∷ a) (codes "/")) (is_over_names top (47 ∷ a)) e (nat_eq_equiv.symm 47 c ∙ e)

-- the other way round nothing is covered
inner_shape : (k l s g h o : Bool) → k ≡ false → l ≡ false → (((k && s) || (l && g)) || (((k && h) && true) || (o && false))) ≡ false
inner_shape k l s g h o e f =
    ap (λ b. ((b && s) || (l && g)) || (((b && h) && true) || (o && false))) e ∙ ap (λ b. (b && g) || (o && false)) f ∙ and_right o false refl

inner_tree : (top u v : Name) (d : ℕ) → eqb d 47 ≡ false → in_tree top (d ∷ v) (47 ∷ u) ≡ false
inner_tree top u v d e =
    inner_shape (eqb d 47) (eqb 47 d) (same_name v u) (goes_on v u) (same_name v []) (is_over_names top (d ∷ v)) e (nat_eq_equiv.symm 47 d ∙ e)

-- a name below the root does not begin with a slash
inside_view : (rest : List Name) → Goods rest → (c : ℕ) × (u : Name) × (inside_name rest ≡ c ∷ u) × (eqb c 47 ≡ false)
unfolding inside_name
inside_view [] good = (46, [], refl, refl)
inside_view (p ∷ ps) good = join_view p ps good.0

-- no component is empty, so no text of some is
join_some : (p : Name) (ps : List Name) → Good p → same_name (join_with_byte 47 (p ∷ ps)) [] ≡ false
join_some p ps good = let view = join_view p ps good in ap (λ t. same_name t []) view.2

-- both spelled from the top
alone_shape : (a s o : Bool) → s ≡ false → (a || ((s && true) || (o && false))) ≡ a
alone_shape a s o e = ap (λ b. a || ((b && true) || (o && false))) e ∙ ap (λ b. a || b) (and_right o false refl) ∙ or_turned a false

both_top : (top : Name) (ps ys : List Name) → Goods ps → Goods ys → in_tree top (top_name ps) (top_name ys) ≡ begins_with ps ys
unfolding top_name
both_top top [] ys first second =
    or_right (same_name (47 ∷ []) (47 ∷ join_with_byte 47 ys) || is_inside (47 ∷ []) (47 ∷ join_with_byte 47 ys)) true refl
both_top top (p ∷ ps) ys first second =
    let t = join_with_byte 47 (p ∷ ps) in
    alone_shape (same_name t (join_with_byte 47 ys) || goes_on t (join_with_byte 47 ys)) (same_name t []) (is_over_names top (47 ∷ t)) (join_some p ps first.0)
    ∙ by ys second
  where
    by : (zs : List Name) → Goods zs → (same_name (join_with_byte 47 (p ∷ ps)) (join_with_byte 47 zs) || goes_on (join_with_byte 47 (p ∷ ps)) (join_with_byte 47 zs)) ≡ begins_with (p ∷ ps) zs
    by [] good = let view = join_view p ps first.0 in ap (λ t. same_name t [] || goes_on t []) view.2
    by (z ∷ zs) good = tails_begin (p ∷ ps) (z ∷ zs) first good

-- a folder that is not below the root is over what is, where the root stands in it
over_begins : (root ps : List Name) → Goods root → Goods ps → begins_with root ps ≡ false → is_over_names (top_name root) (top_name ps) ≡ begins_with ps root
unfolding top_name
over_begins [] ps first second e = absurd (false≢true (sym e))
over_begins (r ∷ rs) [] first second e =
    ap (λ b. not b && (goes_on [] (join_with_byte 47 (r ∷ rs)) || true)) (join_some r rs first.0)
    ∙ or_right (goes_on [] (join_with_byte 47 (r ∷ rs))) true refl
over_begins (r ∷ rs) (p ∷ ps) first second e =
    let root = r ∷ rs in
    let folder = p ∷ ps in
    let goes = goes_on (tail folder) (tail root) in
    let apart : same_name (tail folder) (tail root) ≡ false =
    nat_list_eq_equiv.symm (tail folder) (tail root) ∙ (or_parts (same_name (tail root) (tail folder)) (goes_on (tail root) (tail folder)) (tails_begin root folder first second ∙ e)).0 in
    ap (λ b. not b && (goes || same_name [] (join_with_byte 47 folder))) (join_some r rs first.0)
    ∙ ap (λ b. goes || b) (nat_list_eq_equiv.symm [] (join_with_byte 47 folder) ∙ join_some p ps second.0)
    ∙ or_turned goes false ∙ sym (ap (λ b. b || goes) apart) ∙ tails_begin folder root second first

-- both below the root
dot_apart : (p : Name) (ps : List Name) → Good p → same_name (join_with_byte 47 (p ∷ ps)) (codes ".") ≡ false
dot_apart p ps good =
    ap (λ t. same_name t (codes ".")) (join_head p ps) ∙ heads_same p (codes ".") ps [] good.whole refl
    ∙ and_left (same_name p (codes ".")) (same_name (tail ps) []) good.other

over_shape : (a n k g h : Bool) → a ≡ false → k ≡ false → (a || (n && ((k && g) || (k && h)))) ≡ false
over_shape a n k g h e f = ap (λ b. b || (n && ((k && g) || (k && h)))) e ∙ ap (λ b. n && ((b && g) || (b && h))) f ∙ and_right n false refl

not_over : (root : List Name) (p : Name) (ps : List Name) → Good p → is_over_names (top_name root) (join_with_byte 47 (p ∷ ps)) ≡ false
unfolding top_name
not_over root p ps good =
    let view = join_view p ps good in
    let d = view.0 in
    let v = view.1 in
    let dot : same_name (codes ".") (d ∷ v) ≡ false =
    ap (same_name (codes ".")) (sym view.2) ∙ nat_list_eq_equiv.symm (codes ".") (join_with_byte 47 (p ∷ ps)) ∙ dot_apart p ps good in
    ap (is_over_names (47 ∷ join_with_byte 47 root)) view.2
    ∙ over_shape (same_name (codes ".") (d ∷ v)) (not (same_name (join_with_byte 47 root) [])) (eqb 47 d) (goes_on v (join_with_byte 47 root)) (same_name [] v) dot
    (nat_eq_equiv.symm 47 d ∙ view.3)

below_shape : (a n g s m o : Bool) → n ≡ false → s ≡ false → o ≡ false → ((a || (not n && g)) || ((s && m) || (o && not m))) ≡ (a || g)
below_shape a n g s m o e f h =
    ap (λ b. (a || (not b && g)) || ((s && m) || (o && not m))) e ∙ ap (λ b. (a || g) || ((b && m) || (o && not m))) f
    ∙ ap (λ b. (a || g) || (b && not m)) h ∙ or_turned (a || g) false

both_below : (root ps ys : List Name) → Goods ps → Goods ys → in_tree (top_name root) (inside_name ps) (inside_name ys) ≡ begins_with ps ys
unfolding inside_name
both_below root [] ys first second =
    let view = inside_view ys second in
    let spelled_tests = same_name (codes ".") (inside_name ys) || is_inside (codes ".") (inside_name ys) in
    ap (λ k. spelled_tests || not k) (ap is_absolute view.2 ∙ view.3) ∙ or_right spelled_tests true refl
both_below root (p ∷ ps) ys first second =
    let t = join_with_byte 47 (p ∷ ps) in
    let x = inside_name ys in
    let view = join_view p ps first.0 in
    below_shape (same_name t x) (has_no_bytes t) (goes_on t x) (same_name t (codes "/")) (is_absolute x) (is_over_names (top_name root) t)
    (ap has_no_bytes view.2)
    (ap (λ u. same_name u (codes "/")) view.2 ∙ and_left (eqb view.0 47) (same_name view.1 []) view.3)
    (not_over root p ps first.0)
    ∙ by ys second
  where
    by : (zs : List Name) → Goods zs → (same_name (join_with_byte 47 (p ∷ ps)) (inside_name zs) || goes_on (join_with_byte 47 (p ∷ ps)) (inside_name zs)) ≡ begins_with (p ∷ ps) zs
    by [] good =
        ap (λ b. b || goes_on (join_with_byte 47 (p ∷ ps)) (codes ".")) (dot_apart p ps first.0)
        ∙ ap (λ u. goes_on u (codes ".")) (join_head p ps) ∙ heads_go_on p (codes ".") ps [] first.0.whole refl
        ∙ and_left (same_name p (codes ".")) (goes_on (tail ps) []) first.0.other
    by (z ∷ zs) good = tails_begin (p ∷ ps) (z ∷ zs) first good

-- the four cases
named : (root ps ys : List Name) (above under : Option (List Name)) → Goods root → Goods ps → Goods ys → below root ps ≡ above → below root ys ≡ under
    → in_tree (top_name root) (spelled ps above) (spelled ys under) ≡ begins_with ps ys
unfolding top_name inside_name
named root ps ys None None good first second e f = both_top (top_name root) ps ys first second
named root ps ys None (Some more) good first second e f =
    let whole = below_some root ys more f in
    let apart = below_none root ps e in
    let view = inside_view more (goods_behind root more (subst Goods whole second)) in
    ap (in_tree (top_name root) (47 ∷ join_with_byte 47 ps)) view.2
    ∙ outer_tree (top_name root) (join_with_byte 47 ps) view.1 view.0 view.3 ∙ over_begins root ps good first apart
    ∙ sym (begins_short ps root more apart) ∙ ap (begins_with ps) (sym whole)
named root ps ys (Some rest) None good first second e f =
    let whole = below_some root ps rest e in
    let view = inside_view rest (goods_behind root rest (subst Goods whole first)) in
    ap (λ t. in_tree (top_name root) t (47 ∷ join_with_byte 47 ys)) view.2
    ∙ inner_tree (top_name root) (join_with_byte 47 ys) view.1 view.0 view.3
    ∙ sym (ap (λ qs. begins_with qs ys) whole ∙ begins_not root rest ys (below_none root ys f))
named root ps ys (Some rest) (Some more) good first second e f =
    let upper = below_some root ps rest e in
    let lower = below_some root ys more f in
    both_below root rest more (goods_behind root rest (subst Goods upper first)) (goods_behind root more (subst Goods lower second))
    ∙ sym (ap (λ qs. begins_with qs ys) upper ∙ ap (begins_with (root ++ rest)) lower ∙ begins_behind root rest more)

pub by_components : CoversByComponents
unfolding top_name
by_components root tree path =
    let parts = reduced (components root) in
    let upper = reduced (full root tree) in
    let lower = reduced (full root path) in
    tree_ranges root (plain_name root tree) (plain_name root path)
    ∙ named parts upper lower (below parts upper) (below parts lower) (goods_root root) (goods_full root tree) (goods_full root path) refl refl
