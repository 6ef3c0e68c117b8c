-- The way up from a path meets the trees over it.
use Rattle.std.proofs.Common.{ℕ, suc, zero, ◌≡◌, ◌<◌, ◌+◌, ◌&&◌, Bool, true, false, List, [], length, get_or, Less, refl, sym, ap, subst, ◌∙◌, inl, inr, arith}
use Rattle.std.specs.Ordering.{is_eq}
use Rattle.std.proofs.lemmas.Bool.{and_parts, both_ways, cases_Bool, cases_eq, cases_order, cond-false, or_cases, or_right}
use Rattle.std.proofs.lemmas.List.{get_or_default}
use Rattle.std.proofs.lemmas.Map.Keys.{Less-from_sorted}
use Rattle.mk_path.specs.declared.path.Path.{Path}
use Rattle.mk_path.specs.Covering.{tree_at}
use Rattle.mk_path.specs.Laws.{IsFolderOf, IsOver}
use Rattle.mk_index.specs.Nearest.{AreNearest, ArePaths, AreRanks, AreWaysUp, IsInnermost, IsOverPath, IsTreeAt, depth_of, rank_of}
use Rattle.mk_path.specs.Paths.{covers, path_cmp, same_path, path_at}
use Rattle.mk_index.specs.Ups.{Ups, AreRanked, IsUp, here, higher}
use Rattle.mk_index.proofs.FolderKinds.{kinds, over_name_less}
use Rattle.mk_path.proofs.Numbering.{same_itself, same_path_is}
use Rattle.mk_path.proofs.Overs.{over_self, over_further}
use Rattle.mk_path.proofs.PathOrder.{path_ties}
use Rattle.mk_text.specs.Spelling.{top_of}

tree_is : (p : Path) → p.tree ≡ true → p ≡ tree_at p.name
tree_is p tree = ap (λ (t : Bool). record { name = p.name; tree = t }) tree

module _ (root : List ℕ) (paths : List Path) (are : ArePaths paths) where
  -- two places have two paths
  apart : (t q : ℕ) → t < q → q < length paths → path_at paths t ≡ path_at paths q → ⊥
  apart t q less below same =
      let p = path_at paths q in
      let order : path_cmp (path_at paths t) p ≡ Less = Less-from_sorted path_cmp paths t q (record { name = []; tree = false }) are.rise less below in
      let itself : path_cmp p p ≡ Less = ap (λ (x : Path). path_cmp x p) (sym same) ∙ order in
      both_ways (same_path p p) (path_ties p p ∙ ap is_eq itself) (same_itself p)

  one_place : (t q : ℕ) → t < length paths → q < length paths → path_at paths t ≡ path_at paths q → t ≡ q
  one_place t q t_below q_below same = elim (cases_order t q) [
    | inl equal ↦ equal
    | inr (inl less) ↦ absurd (apart t q less q_below same)
    | inr (inr more) ↦ absurd (apart q t more t_below (sym same))
  ]

  -- the nearest tree is over the path, and less deep
  next_over : (t u : ℕ) → IsInnermost root paths (IsOverPath root (path_at paths t)) u → IsOver root (path_at paths u) (path_at paths t)
  next_over t u found =
      let q = path_at paths t in
      subst (λ (p : Path). IsOver root p q) (sym found.tree.1) (or_right (same_path (tree_at found.name) q) (true && covers root (tree_at found.name) q.name) found.one.0)

  next_rank : (t u : ℕ) → IsInnermost root paths (IsOverPath root (path_at paths t)) u → rank_of (length (top_of root)) (path_at paths u) < rank_of (length (top_of root)) (path_at paths t)
  next_rank t u found =
      let n = length (top_of root) in
      let q = path_at paths t in
      let own : rank_of n (path_at paths u) ≡ depth_of n found.name = ap (rank_of n) found.tree.1 ∙ omega arith in
      elim (kinds root q.name found.name found.one.0) [
        | inl same ↦ elim (cases_Bool q.tree) [
          | inl tree ↦ absurd (found.one.1 tree same)
          | inr file ↦
              let more : rank_of n q ≡ depth_of n q.name + 1 = ap (λ k. depth_of n q.name + k) (cond-false q.tree 0 1 file) in
              omega (arith, own, more, ap (depth_of n) same)
        ]
        | inr over ↦
            let less = over_name_less (top_of root) refl q.name found.name over in
            omega (arith, own, less)
      ]

  -- t is another tree over path q
  over_other : (t q : ℕ) → t < length paths → q < length paths → (t ≡ q → ⊥) → (path_at paths t).tree ≡ true → IsFolderOf root (path_at paths t).name (path_at paths q).name
      → IsOverPath root (path_at paths q) (path_at paths t).name
  over_other t q t_below q_below other tree folder = (
    folder,
    λ q_tree same. other (one_place t q t_below q_below (tree_is (path_at paths t) tree ∙ ap tree_at same ∙ sym (tree_is (path_at paths q) q_tree))),
  )

  module _ (next ranks : List ℕ) (near : AreNearest root paths (length paths) next) (ranked : AreRanks (top_of root) paths (length paths) ranks) where
    ups : Ups
    ups = record { next = next; ranks = ranks }

    next_within : (t : ℕ) → t < length paths → get_or next t t < length paths
    next_within t below = elim (near.nearest t below) [ inl both ↦ omega (arith, both.0, below) | inr found ↦ found.tree.0 ]

    pub are_ranked : AreRanked (record { next = next; ranks = ranks })
    are_ranked = record {
      ranked = ranked.all ∙ sym near.all;
      within = λ k d below.
          let here : k < length paths = omega (arith, below, near.all) in
          omega (arith, next_within k here, get_or_default next k d k below, near.all);
      fall = λ t below.
          let t_here : t < length paths = omega (arith, below, near.all) in
          elim (near.nearest t t_here) [
            | inl both ↦ inl both.0
            | inr found ↦ inr (omega (arith, next_rank t (get_or next t t) found, ranked.rank t t_here, ranked.rank (get_or next t t) found.tree.0))
          ];
    }

    up_is_over : (t : ℕ) {q : ℕ} → IsUp (record { next = next; ranks = ranks }) t q → q < length paths → IsOver root (path_at paths t) (path_at paths q)
    up_is_over t here below = over_self root (path_at paths t)
    up_is_over t (higher {q = q} up) below =
        let more = up_is_over t up (next_within q below) in
        elim (near.nearest q below) [
          | inl both ↦ subst (λ k. IsOver root (path_at paths t) (path_at paths k)) both.0 more
          | inr found ↦ over_further root (path_at paths t) (path_at paths (get_or next q q)) (path_at paths q) more (next_over q (get_or next q q) found)
        ]

    over_is_up : (fuel t q : ℕ) → rank_of (length (top_of root)) (path_at paths q) < fuel → t < length paths → q < length paths
        → IsOver root (path_at paths t) (path_at paths q) → IsUp (record { next = next; ranks = ranks }) t q
    over_is_up zero t q less t_below q_below over = absurd (omega arith)
    over_is_up (suc fuel) t q less t_below q_below over =
        let p = path_at paths t in
        let x = path_at paths q in
        let way : ℕ → Type 0 = λ k. IsUp (record { next = next; ranks = ranks }) t k in
        elim (or_cases (same_path p x) (p.tree && covers root p x.name) over) [
          | inl same ↦ subst way (one_place t q t_below q_below (same_path_is p x same)) here
          | inr covered ↦
              let parts = and_parts p.tree (covers root p x.name) covered in
              let folder : IsFolderOf root p.name x.name = sym (ap (λ (y : Path). covers root y x.name) (tree_is p parts.0)) ∙ parts.1 in
              elim (cases_eq t q) [
                | inl same ↦ subst way same here
                | inr other ↦
                    let above_q = over_other t q t_below q_below other parts.0 folder in
                    let tree : IsTreeAt paths t p.name = (t_below, tree_is p parts.0) in
                    elim (near.nearest q q_below) [
                      | inl both ↦ absurd (both.1 t p.name above_q tree)
                      | inr found ↦
                          let u = get_or next q q in
                          let nearer : IsFolderOf root p.name found.name = found.folder t p.name above_q tree in
                          let rank = next_rank q u found in
                          let over_u : IsOver root p (path_at paths u) =
                          subst (λ (y : Path). IsOver root y (path_at paths u)) (sym (tree_is p parts.0))
                          (or_right (same_path (tree_at p.name) (path_at paths u)) (true && covers root (tree_at p.name) (path_at paths u).name)
                          (subst (λ (y : Path). IsFolderOf root p.name y.name) (sym found.tree.1) nearer)) in
                          higher (over_is_up fuel t u (omega (arith, rank, less)) t_below found.tree.0 over_u)
                    ]
              ]
        ]

    pub are_ways_up : AreWaysUp root paths (record { next = next; ranks = ranks })
    are_ways_up = record {
      all = near.all;
      over = λ t q t_below q_below. (
        λ up. up_is_over t up q_below,
        λ over. over_is_up (suc (rank_of (length (top_of root)) (path_at paths q))) t q (omega arith) t_below q_below over,
      );
    }
