-- Rows of what must be before a node, and the direct races that they show.
use Rattle.std.proofs.Common.{ℕ, suc, zero, ◌≡◌, ◌<◌, ◌+◌, ◌*◌, ◌⊎◌, ◌↔◌, List, [], ◌∷◌, ◌++◌, All, Contains, length, take, get_or, set, bit_or, refl, sym, ap, subst, ◌∙◌, inl, inr, arith}
use Rattle.std.specs.Simd.Lanes.{zip2}
use Rattle.std.proofs.lemmas.Bool.{cases_lt, cases_order, cases_eq}
use Rattle.std.proofs.lemmas.List.Elements.{Contains-append_left, Contains-push, Contains-push_cases}
use Rattle.mk_index.specs.Bits.{HasBit}
use Rattle.mk_jobs.specs.Jobs.{Jobs, Clash, IsPrerequisite, IsValid, prerequisites_of}
use Rattle.mk_decide.specs.Bits.{row_at}
use Rattle.mk_decide.proofs.Filling.{row-append}
use Rattle.mk_decide.proofs.RowBits.{clear_bits, merged_bits}
use Rattle.std.proofs.lemmas.List.{drop_at, take_at, get_or-set_same, get_or-set_other}
use Rattle.mk_fix.specs.Musts.{AreDirectBelow, AreFirsts, AreMustRows, IsAround, IsBehind, IsCovered, IsDirect, IsMustRow, Must, step, more}

-- the bits of one row more
pub behind_more : (width : ℕ) (done nodes old row new : List ℕ) (p : ℕ) → ((n : ℕ) → HasBit row n ↔ (HasBit old n ⊎ IsBehind width done nodes n))
    → new ≡ zip2 bit_or row (row_at width done p) → length row ≡ length (row_at width done p)
    → (n : ℕ) → HasBit new n ↔ (HasBit old n ⊎ IsBehind width done (nodes ++ p ∷ []) n)
behind_more width done nodes old row new p so_far is same n =
    let both : HasBit new n ↔ (HasBit row n ⊎ HasBit (row_at width done p) n) =
    subst (λ (ws : List ℕ). HasBit ws n ↔ (HasBit row n ⊎ HasBit (row_at width done p) n)) (sym is) (merged_bits row (row_at width done p) n same) in (
      λ has. elim (both.0 has) [
        | inl before ↦ elim ((so_far n).0 before) [
          | inl first ↦ inl first
          | inr behind ↦ inr (record { node = behind.node; there = Contains-append_left nodes (p ∷ []) behind.node behind.there; bit = behind.bit })
        ]
        | inr bit ↦ inr (record { node = p; there = Contains-push nodes p; bit = bit })
      ],
      λ has. elim has [
        | inl first ↦ both.1 (inl ((so_far n).1 (inl first)))
        | inr behind ↦ elim (Contains-push_cases nodes p behind.node behind.there) [
          | inl before ↦ both.1 (inl ((so_far n).1 (inr (record { node = behind.node; there = before; bit = behind.bit }))))
          | inr last ↦ both.1 (inr (subst (λ x. HasBit (row_at width done x) n) (sym last) behind.bit))
        ]
      ],
    )

pub behind_none : (width : ℕ) (done row : List ℕ) (n : ℕ) → HasBit row n ↔ (HasBit row n ⊎ IsBehind width done [] n)
behind_none width done row n = (λ has. inl has, λ has. elim has [ inl old ↦ old | inr behind ↦ absurd (let no = behind.there.1 in omega (arith, no)) ])

-- one bit more
pub set_more : (nodes old row new : List ℕ) (p : ℕ) → ((n : ℕ) → HasBit row n ↔ (HasBit old n ⊎ Contains nodes n))
    → ((n : ℕ) → HasBit new n ↔ (HasBit row n ⊎ (n ≡ p))) → (n : ℕ) → HasBit new n ↔ (HasBit old n ⊎ Contains (nodes ++ p ∷ []) n)
set_more nodes old row new p so_far sets n = (
  λ has. elim ((sets n).0 has) [
    | inl before ↦ elim ((so_far n).0 before) [ inl first ↦ inl first | inr there ↦ inr (Contains-append_left nodes (p ∷ []) n there) ]
    | inr one ↦ inr (subst (λ x. Contains (nodes ++ p ∷ []) x) (sym one) (Contains-push nodes p))
  ],
  λ has. elim has [
    | inl first ↦ (sets n).1 (inl ((so_far n).1 (inl first)))
    | inr there ↦ elim (Contains-push_cases nodes p n there) [
      | inl before ↦ (sets n).1 (inl ((so_far n).1 (inr before)))
      | inr last ↦ (sets n).1 (inr (sym last))
    ]
  ],
)

-- a row that has the rows of the prerequisites of b and of the smaller nodes that clash with it has the nodes with a way around
pub way_row : (jobs : Jobs) (width b : ℕ) (done needs firsts clear first second : List ℕ) → IsValid jobs → needs ≡ prerequisites_of jobs b → AreFirsts jobs firsts b
    → AreMustRows jobs width done b → All (λ word. word ≡ 0) clear
    → ((n : ℕ) → HasBit first n ↔ (HasBit clear n ⊎ IsBehind width done needs n))
    → ((n : ℕ) → HasBit second n ↔ (HasBit first n ⊎ IsBehind width done firsts n))
    → (n : ℕ) → HasBit second n ↔ IsAround jobs n b
way_row jobs width b done needs firsts clear first second valid is are rows none one two n =
    let in_needs : (p : ℕ) → Contains needs p → IsPrerequisite jobs p b = λ p h. subst (λ (ps : List ℕ). Contains ps p) is h in (
      λ has. elim ((two n).0 has) [
        | inl before ↦ elim ((one n).0 before) [
          | inl old ↦ absurd (clear_bits clear n none old)
          | inr behind ↦
              let p = in_needs behind.node behind.there in
              record { node = behind.node; behind = (rows behind.node (valid.smaller b behind.node p) n).0 behind.bit; before = inl p }
        ]
        | inr behind ↦
            let clash = (are behind.node).0 behind.there in
            record { node = behind.node; behind = (rows behind.node clash.0 n).0 behind.bit; before = inr clash }
      ],
      λ around. elim around.before [
        | inl p ↦ (two n).1 (inl ((one n).1 (inr (record {
          node = around.node;
          there = subst (λ (ps : List ℕ). Contains ps around.node) (sym is) p;
          bit = (rows around.node (valid.smaller b around.node p) n).1 around.behind;
        }))))
        | inr clash ↦ (two n).1 (inr (record { node = around.node; there = (are around.node).1 clash; bit = (rows around.node clash.0 n).1 around.behind }))
      ],
    )

-- what must be before b is one of these nodes, or has a way around
must_cases : {jobs : Jobs} {n b : ℕ} → Must jobs n b → IsPrerequisite jobs n b ⊎ (((n < b) × Clash jobs n b) ⊎ IsAround jobs n b)
must_cases {jobs} {n} {b} (step (inl p)) = inl p
must_cases {jobs} {n} {b} (step (inr clash)) = inr (inl clash)
must_cases {jobs} {n} {b} (more {b = m} chain s) = inr (inr (record { node = m; behind = chain; before = s }))

-- with the bits of those nodes themselves it has all that must be before b
pub must_row : (jobs : Jobs) (b : ℕ) (needs firsts way third fourth : List ℕ) → needs ≡ prerequisites_of jobs b → AreFirsts jobs firsts b
    → ((n : ℕ) → HasBit way n ↔ IsAround jobs n b) → ((n : ℕ) → HasBit third n ↔ (HasBit way n ⊎ Contains needs n))
    → ((n : ℕ) → HasBit fourth n ↔ (HasBit third n ⊎ Contains firsts n)) → IsMustRow jobs fourth b
must_row jobs b needs firsts way third fourth is are ways three four n = (
  λ has. elim ((four n).0 has) [
    | inl before ↦ elim ((three n).0 before) [
      | inl around ↦ let a = (ways n).0 around in more a.behind a.before
      | inr p ↦ step (inl (subst (λ (ps : List ℕ). Contains ps n) is p))
    ]
    | inr clash ↦ step (inr ((are n).0 clash))
  ],
  λ must. elim (must_cases must) [
    | inl p ↦ (four n).1 (inl ((three n).1 (inr (subst (λ (ps : List ℕ). Contains ps n) (sym is) p))))
    | inr (inl clash) ↦ (four n).1 (inr ((are n).1 clash))
    | inr (inr around) ↦ (four n).1 (inl ((three n).1 (inl ((ways n).1 around))))
  ],
)

-- the direct races that end in b too
pub below_more : (jobs : Jobs) (b : ℕ) (firsts way : List ℕ) (old new : List (ℕ × ℕ)) → AreFirsts jobs firsts b → ((n : ℕ) → HasBit way n ↔ IsAround jobs n b)
    → AreDirectBelow jobs old b → ((e : ℕ × ℕ) → Contains old e → Contains new e)
    → ((x y : ℕ) → Contains new (x, y) → Contains old (x, y) ⊎ ((y ≡ b) × Contains firsts x × (IsPrerequisite jobs x b → ⊥) × (HasBit way x → ⊥)))
    → ((a : ℕ) → Contains firsts a → Contains new (a, b) ⊎ (IsPrerequisite jobs a b ⊎ HasBit way a)) → AreDirectBelow jobs new (b + 1)
below_more jobs b firsts way old new are ways below kept only all = record {
  only = λ x y h. elim (only x y h) [
    | inl was ↦ below.only x y was
    | inr own ↦
        let clash = (are x).0 own.1 in
        let direct : IsDirect jobs x b = record { rises = clash.0; clash = clash.1; no_edge = own.2; no_way = λ around. own.3 ((ways x).1 around) } in
        subst (λ z. IsDirect jobs x z) (sym own.0) direct
  ];
  all = λ x y less rises clash. elim (cases_lt y b) [
    | inl before ↦ elim (below.all x y before rises clash) [ inl there ↦ inl (kept (x, y) there) | inr other ↦ inr other ]
    | inr here ↦
        let same : y ≡ b = omega (arith, less, here) in
        let covered : IsCovered jobs new x b = elim (all x ((are x).1 (subst (λ z. (x < z) × Clash jobs x z) same (rises, clash)))) [
          | inl there ↦ inl there
          | inr (inl p) ↦ inr (inl p)
          | inr (inr bit) ↦ inr (inr ((ways x).0 bit))
        ] in
        subst (λ z. IsCovered jobs new x z) (sym same) covered
  ];
}

pub below_none : (jobs : Jobs) (edges : List (ℕ × ℕ)) → edges ≡ [] → AreDirectBelow jobs edges 0
below_none jobs edges none = record {
  only = λ a b h. absurd (let no = (subst (λ (es : List (ℕ × ℕ)). Contains es (a, b)) none h).1 in omega (arith, no));
  all = λ a b below. absurd (omega (arith, below));
}

-- the table with one row more
pub must_rows_more : (jobs : Jobs) (width b : ℕ) (done row tail : List ℕ) → length done ≡ b * width → length row ≡ width → AreMustRows jobs width done b
    → IsMustRow jobs row b → AreMustRows jobs width (done ++ (row ++ tail)) (b + 1)
must_rows_more jobs width b done row tail long wide rows here x below = elim (cases_order x b) [
  | inl same ↦ subst (λ y. IsMustRow jobs (row_at width (done ++ (row ++ tail)) y) y) (sym same)
      (subst (λ (ws : List ℕ). IsMustRow jobs ws b)
      (sym (ap (take width) (drop_at done (row ++ tail) (b * width) long) ∙ take_at row tail width wide)) here)
  | inr (inl less) ↦ subst (λ (ws : List ℕ). IsMustRow jobs ws x) (sym (row-append width x b done (row ++ tail) long less)) (rows x less)
  | inr (inr above) ↦ absurd (omega (arith, below, above))
]

-- the rows of a table in its first part
pub must_rows_front : (jobs : Jobs) (width b : ℕ) (done rest : List ℕ) → length done ≡ b * width → AreMustRows jobs width (done ++ rest) b → AreMustRows jobs width done b
must_rows_front jobs width b done rest long rows x below = subst (λ (ws : List ℕ). IsMustRow jobs ws x) (row-append width x b done rest long below) (rows x below)

-- rows that are all empty, and one more
pub none_more : (rows : List (List ℕ)) → ((b : ℕ) → get_or rows b [] ≡ []) → (b : ℕ) → get_or (rows ++ [] ∷ []) b [] ≡ []
none_more [] none zero = refl
none_more [] none (suc b) = refl
none_more (row ∷ rows) none zero = none zero
none_more (row ∷ rows) none (suc b) = none_more rows (λ k. none (suc k)) b

-- a row that gets one number more
pub row_more : (rows : List (List ℕ)) (pairs : List (ℕ × ℕ)) (a b : ℕ) → b < length rows
    → ((y x : ℕ) → Contains (get_or rows y []) x ↔ Contains pairs (x, y))
    → (y x : ℕ) → Contains (get_or (set rows b (get_or rows b [] ++ a ∷ [])) y []) x ↔ Contains (pairs ++ (a, b) ∷ []) (x, y)
row_more rows pairs a b below are y x = elim (cases_eq y b) [
  | inl same ↦
      let here : get_or (set rows b (get_or rows b [] ++ a ∷ [])) y [] ≡ get_or rows y [] ++ a ∷ [] =
      ap (λ n. get_or (set rows b (get_or rows b [] ++ a ∷ [])) n []) same ∙ get_or-set_same rows b (get_or rows b [] ++ a ∷ []) [] below
      ∙ ap (λ n. get_or rows n [] ++ a ∷ []) (sym same) in
      subst (λ (row : List ℕ). Contains row x ↔ Contains (pairs ++ (a, b) ∷ []) (x, y)) (sym here) (
        λ h. elim (Contains-push_cases (get_or rows y []) a x h) [
          | inl old ↦ Contains-append_left pairs ((a, b) ∷ []) (x, y) ((are y x).0 old)
          | inr one ↦ subst (λ (p : ℕ × ℕ). Contains (pairs ++ (a, b) ∷ []) p) (λ i. (one i, sym same i)) (Contains-push pairs (a, b))
        ],
        λ h. elim (Contains-push_cases pairs (a, b) (x, y) h) [
          | inl old ↦ Contains-append_left (get_or rows y []) (a ∷ []) x ((are y x).1 old)
          | inr one ↦ subst (λ z. Contains (get_or rows y [] ++ a ∷ []) z) (ap (λ (p : ℕ × ℕ). p.0) one) (Contains-push (get_or rows y []) a)
        ],
      )
  | inr other ↦
      subst (λ (row : List ℕ). Contains row x ↔ Contains (pairs ++ (a, b) ∷ []) (x, y)) (sym (get_or-set_other rows b y (get_or rows b [] ++ a ∷ []) [] other)) (
        λ h. Contains-append_left pairs ((a, b) ∷ []) (x, y) ((are y x).0 h),
        λ h. elim (Contains-push_cases pairs (a, b) (x, y) h) [
          | inl old ↦ (are y x).1 old
          | inr one ↦ absurd (other (sym (ap (λ (p : ℕ × ℕ). p.1) one)))
        ],
      )
]

-- edges that are gathered from the first of some nodes
pub record AreGathered (jobs : Jobs) (row firsts so_far : List ℕ) (b : ℕ) (old new : List (ℕ × ℕ)) : Type 0 where
  pub kept : (e : ℕ × ℕ) → Contains old e → Contains new e
  pub only : (x y : ℕ) → Contains new (x, y) → Contains old (x, y) ⊎ ((y ≡ b) × Contains firsts x × (IsPrerequisite jobs x b → ⊥) × (HasBit row x → ⊥))
  pub all : (a : ℕ) → Contains so_far a → Contains new (a, b) ⊎ (IsPrerequisite jobs a b ⊎ HasBit row a)

pub gathered_none : (jobs : Jobs) (row firsts : List ℕ) (b : ℕ) (old : List (ℕ × ℕ)) → AreGathered jobs row firsts [] b old old
gathered_none jobs row firsts b old = record {
  kept = λ e h. h;
  only = λ x y h. inl h;
  all = λ a h. absurd (let no = h.1 in omega (arith, no));
}

pub gathered_pushed : (jobs : Jobs) (row firsts so_far : List ℕ) (a b : ℕ) (old new : List (ℕ × ℕ)) → AreGathered jobs row firsts so_far b old new → Contains firsts a
    → (IsPrerequisite jobs a b → ⊥) → (HasBit row a → ⊥) → AreGathered jobs row firsts (so_far ++ a ∷ []) b old (new ++ (a, b) ∷ [])
gathered_pushed jobs row firsts so_far a b old new g first no_edge no_bit = record {
  kept = λ e h. Contains-append_left new ((a, b) ∷ []) e (g.kept e h);
  only = λ x y h. elim (Contains-push_cases new (a, b) (x, y) h) [
    | inl was ↦ g.only x y was
    | inr one ↦ inr (subst (λ (p : ℕ × ℕ). (p.1 ≡ b) × Contains firsts p.0 × (IsPrerequisite jobs p.0 b → ⊥) × (HasBit row p.0 → ⊥)) one (refl, first, no_edge, no_bit))
  ];
  all = λ x h. elim (Contains-push_cases so_far a x h) [
    | inl was ↦ elim (g.all x was) [ inl there ↦ inl (Contains-append_left new ((a, b) ∷ []) (x, b) there) | inr other ↦ inr other ]
    | inr one ↦ inl (subst (λ z. Contains (new ++ (a, b) ∷ []) (z, b)) one (Contains-push new (a, b)))
  ];
}

pub gathered_over : (jobs : Jobs) (row firsts so_far : List ℕ) (a b : ℕ) (old new : List (ℕ × ℕ)) → AreGathered jobs row firsts so_far b old new
    → IsPrerequisite jobs a b ⊎ HasBit row a → AreGathered jobs row firsts (so_far ++ a ∷ []) b old new
gathered_over jobs row firsts so_far a b old new g other = record {
  kept = g.kept;
  only = g.only;
  all = λ x h. elim (Contains-push_cases so_far a x h) [
    | inl was ↦ g.all x was
    | inr one ↦ inr (subst (λ z. IsPrerequisite jobs z b ⊎ HasBit row z) one other)
  ];
}
