-- A table of bits, and what a sweep makes of its rows.
use Rattle.std.proofs.Common.{ℕ, ◌≡◌, ◌≢◌, ◌<◌, ◌≤◌, ◌+◌, ◌-◌, ◌*◌, ◌/◌, ◌%◌, ◌↔◌, ◌⊎◌, List, All, [], ◌∷◌, ◌++◌, length, replicate, take, drop, get_or, bit_or, length-take-le, refl, sym, ap, ap₂, subst, ◌∙◌, inl, inr, arith}
use Rattle.std.specs.Int.{bit_at}
use Rattle.std.specs.List.{Contains}
use Rattle.std.specs.Simd.Lanes.{zip2}
use Rattle.std.proofs.lemmas.Bool.{cases_eq, cases_lt}
use Rattle.std.proofs.lemmas.List.{get_or_append_left, get_or-append_right, get_or-drop, get_or-take, length-drop}
use Rattle.std.proofs.lemmas.List.Elements.{All-replicate, Contains-append_left, Contains-push, Contains-push_cases}
use borrow.Rule.Slice.PartMut.{put_mid, mid_of, post_of}
use Rattle.mk_index.specs.Bits.{HasBit}
use Rattle.mk_index.specs.Uses.{Reaches}
use Rattle.mk_jobs.specs.Jobs.{Jobs, Clash, node_count}
use Rattle.mk_jobs.specs.Reaching.{uses_of}
use Rattle.mk_jobs.specs.Shape.{IsWellFormed}
use Rattle.mk_jobs.proofs.JobsLemmas.{clash_live}
use Rattle.mk_jobs.proofs.Reaching.{clash_is_reach}
use Rattle.mk_decide.specs.Neighbours.{TiedTo, clash, further, IsNeighbour}
use Rattle.mk_decide.specs.Swept.{AreClashes, AreSwept, HasClashes, HasPair, HoldsPair, LeadsOn, cells, width}
use Rattle.mk_decide.proofs.Marked.{no_bit_past}
use Rattle.mk_decide.proofs.RowBits.{clear_bits, merged_bits}

-- the words of a list, a part of which was put anew
word_in : (a n w : ℕ) (xs ys : List ℕ) → a + n ≤ length xs → length ys ≡ n → w < n → get_or (put_mid a n xs ys) (a + w) 0 ≡ get_or ys w 0
word_in a n w xs ys fits long inside =
    get_or-append_right (take a xs) (ys ++ post_of a n xs) a (a + w) 0 (length-take-le a xs (omega (arith, fits))) (omega arith)
    ∙ ap (λ k. get_or (ys ++ post_of a n xs) k 0) (let e : a + w - a ≡ w = omega arith in e)
    ∙ get_or_append_left ys (post_of a n xs) 0 w (omega (arith, long, inside))

word_front : (a n w : ℕ) (xs ys : List ℕ) → a + n ≤ length xs → w < a → get_or (put_mid a n xs ys) w 0 ≡ get_or xs w 0
word_front a n w xs ys fits less =
    let long = length-take-le a xs (omega (arith, fits)) in
    get_or_append_left (take a xs) (ys ++ post_of a n xs) 0 w (omega (arith, long, less)) ∙ get_or-take a xs w 0 less

word_back : (a n w : ℕ) (xs ys : List ℕ) → a + n ≤ length xs → length ys ≡ n → a + n ≤ w → get_or (put_mid a n xs ys) w 0 ≡ get_or xs w 0
word_back a n w xs ys fits long past =
    get_or-append_right (take a xs) (ys ++ post_of a n xs) a w 0 (length-take-le a xs (omega (arith, fits))) (omega (arith, past))
    ∙ get_or-append_right ys (post_of a n xs) n (w - a) 0 long (omega (arith, past))
    ∙ get_or-drop n (drop a xs) (w - a - n) 0
    ∙ get_or-drop a xs (n + (w - a - n)) 0
    ∙ ap (λ k. get_or xs k 0) (let e : a + (n + (w - a - n)) ≡ w = omega (arith, past) in e)

-- the same bit of two rows
same_bit : (xs ys : List ℕ) (k j : ℕ) → get_or xs (k / 64) 0 ≡ get_or ys (j / 64) 0 → k % 64 ≡ j % 64 → HasBit xs k ↔ HasBit ys j
same_bit xs ys k j word rest = (λ has. ap₂ bit_at (sym word) (sym rest) ∙ has, λ has. ap₂ bit_at word rest ∙ has)

-- a row of a table, to which bits were added
module _ (node n : ℕ) (table bits new : List ℕ) (is_n : n ≡ width) (fits : node * width + width ≤ length table) (wide : length bits ≡ width)
    (is : new ≡ zip2 bit_or (mid_of (node * width) n table) bits) (long : length new ≡ width) where
  here : (y : ℕ) → y < cells → HasBit (put_mid (node * width) n table new) (cells * node + y) ↔ (HasBit table (cells * node + y) ⊎ HasBit bits y)
  here y inside =
      let at = node * width in
      let word : (cells * node + y) / 64 ≡ at + y / 64 = omega arith in
      let rest : (cells * node + y) % 64 ≡ y % 64 = omega arith in
      let within : y / 64 < n = omega (arith, inside, is_n) in
      let put = same_bit (put_mid at n table new) new (cells * node + y) y
      (ap (λ k. get_or (put_mid at n table new) k 0) word ∙ word_in at n (y / 64) table new (omega (arith, fits, is_n)) (omega (arith, long, is_n)) within) rest in
      let old = same_bit (mid_of at n table) table y (cells * node + y)
      (get_or-take n (drop at table) (y / 64) 0 within ∙ get_or-drop at table (y / 64) 0 ∙ ap (λ k. get_or table k 0) (sym word)) (sym rest) in
      let mid_long : length (mid_of at n table) ≡ n = length-take-le n (drop at table) (let l = length-drop at table in omega (arith, l, fits, is_n)) in
      let merged = merged_bits (mid_of at n table) bits y (omega (arith, mid_long, wide, is_n)) in (
        λ has. elim (merged.0 (subst (λ (ws : List ℕ). HasBit ws y) is (put.0 has))) [ inl before ↦ inl (old.0 before) | inr bit ↦ inr bit ],
        λ has. put.1 (subst (λ (ws : List ℕ). HasBit ws y) (sym is) (merged.1 (elim has [ inl before ↦ inl (old.1 before) | inr bit ↦ inr bit ]))),
      )

  elsewhere : (x y : ℕ) → y < cells → x ≢ node → HasBit (put_mid (node * width) n table new) (cells * x + y) ↔ HasBit table (cells * x + y)
  elsewhere x y inside other =
      let at = node * width in
      let word : (cells * x + y) / 64 ≡ x * width + y / 64 = omega arith in
      let within : y / 64 < width = omega (arith, inside) in
      same_bit (put_mid at n table new) table (cells * x + y) (cells * x + y) (elim (cases_lt x node) [
        | inl less ↦ word_front at n ((cells * x + y) / 64) table new (omega (arith, fits, is_n)) (omega (arith, word, within, less))
        | inr past ↦ elim (cases_lt node x) [
          | inl more ↦ word_back at n ((cells * x + y) / 64) table new (omega (arith, fits, is_n)) (omega (arith, long, is_n)) (omega (arith, word, more, is_n))
          | inr least ↦ absurd (other (omega (arith, past, least)))
        ]
      ]) refl

  pub pairs_merged : (x y : ℕ) → HasPair (put_mid (node * width) n table new) x y ↔ (HasPair table x y ⊎ ((x ≡ node) × HasBit bits y))
  pairs_merged x y = elim (cases_eq x node) [
    | inl same ↦ (
      λ has. elim ((here y has.inside).0 (subst (λ k. HasBit (put_mid (node * width) n table new) (cells * k + y)) same has.bit)) [
        | inl before ↦ inl (record { inside = has.inside; bit = subst (λ k. HasBit table (cells * k + y)) (sym same) before })
        | inr bit ↦ inr (same, bit)
      ],
      λ has. elim (cases_lt y cells) [
        | inl inside ↦ record {
          inside = inside;
          bit = subst (λ k. HasBit (put_mid (node * width) n table new) (cells * k + y)) (sym same) ((here y inside).1 (elim has [
            | inl before ↦ inl (subst (λ k. HasBit table (cells * k + y)) same before.bit)
            | inr bit ↦ inr bit.1
          ]));
        }
        | inr past ↦ elim has [
          | inl before ↦ absurd (let inside = before.inside in omega (arith, inside, past))
          | inr bit ↦ absurd (no_bit_past bits y (omega (arith, wide, past)) bit.1)
        ]
      ],
    )
    | inr other ↦ (
      λ has. inl (record { inside = has.inside; bit = (elsewhere x y has.inside other).0 has.bit }),
      λ has. elim has [
        | inl before ↦ record { inside = before.inside; bit = (elsewhere x y before.inside other).1 before.bit }
        | inr bit ↦ absurd (other bit.0)
      ],
    )
  ]

-- ties go on, and rise
pub tied_on : {jobs : Jobs} {c b a : ℕ} → TiedTo jobs b a → TiedTo jobs c b → TiedTo jobs c a
tied_on (clash less one) rest = further less one rest
tied_on (further less one next) rest = further less one (tied_on next rest)

pub tied_less : {jobs : Jobs} {b a : ℕ} → TiedTo jobs b a → a < b
tied_less (clash less one) = less
tied_less (further less one next) = let more = tied_less next in omega (arith, less, more)

pub tied_node : {jobs : Jobs} {b a : ℕ} → TiedTo jobs b a → a < node_count jobs
tied_node (clash less one) = (clash_live one.1).first_node
tied_node (further less one next) = (clash_live one.1).first_node

-- of the nodes below a number one that a clashes with is tied to b
pub record LeadsBelow (table : List ℕ) (a end b : ℕ) : Type 0 where
  pub node : ℕ
  pub below : node < end
  pub clash : HasPair table a node
  pub tied : HasPair table node b

-- one node more that a clashes with
module _ (jobs : Jobs) (table row between : List ℕ) (a from c : ℕ) (swept : AreSwept jobs table (a + 1)) (bits : (b : ℕ) → HasBit row b ↔ HasPair table a b)
    (here : HasBit row c) (none : (k : ℕ) → from ≤ k → k < c → HasBit row k → ⊥) (low : from ≤ c) (so_far : (b : ℕ) → HasBit between b ↔ LeadsBelow table a from b) where
  wider : (b : ℕ) → LeadsBelow table a from b → LeadsBelow table a (c + 1) b
  wider b leads = record { node = leads.node; below = let below = leads.below in omega (arith, below, low); clash = leads.clash; tied = leads.tied }

  narrower : (b : ℕ) → LeadsBelow table a (c + 1) b → LeadsBelow table a from b ⊎ HasPair table c b
  narrower b leads =
      let below = leads.below in
      elim (cases_lt leads.node from) [
        | inl before ↦ inl (record { node = leads.node; below = before; clash = leads.clash; tied = leads.tied })
        | inr past ↦ elim (cases_lt leads.node c) [
          | inl less ↦ absurd (none leads.node past less ((bits leads.node).1 leads.clash))
          | inr least ↦ inr (subst (λ k. HasPair table k b) (let e : leads.node ≡ c = omega (arith, below, least) in e) leads.tied)
        ]
      ]

  rises : (k : ℕ) → HasPair table a k → a + 1 ≤ k
  rises k has = let less = ((swept.clash a k (omega arith)).0 has).0 in omega (arith, less)

  pub leads_merged : (new : List ℕ) → ((b : ℕ) → HasBit new b ↔ (HasBit between b ⊎ HasPair table c b)) → (b : ℕ) → HasBit new b ↔ LeadsBelow table a (c + 1) b
  leads_merged new added b = (
    λ has. elim ((added b).0 has) [
      | inl before ↦ wider b ((so_far b).0 before)
      | inr tied ↦ record { node = c; below = omega arith; clash = (bits c).0 here; tied = tied }
    ],
    λ leads. (added b).1 (elim (narrower b leads) [ inl before ↦ inl ((so_far b).1 before) | inr tied ↦ inr tied ]),
  )

  pub leads_passed : HasBit between c → (b : ℕ) → HasBit between b ↔ LeadsBelow table a (c + 1) b
  leads_passed known b =
      let first = (so_far c).0 known in
      let up = rises first.node first.clash in
      let tied = (swept.tied first.node c up).0 first.tied in
      let far = tied_less tied in (
        λ has. wider b ((so_far b).0 has),
        λ leads. elim (narrower b leads) [
          | inl before ↦ (so_far b).1 before
          | inr more ↦ (so_far b).1 (record {
            node = first.node;
            below = first.below;
            clash = first.clash;
            tied = (swept.tied first.node b up).1 (tied_on tied ((swept.tied c b (omega (arith, up, far))).0 more));
          })
        ],
      )

-- the row of a, once what it leads on to is added
module _ (jobs : Jobs) (table new between : List ℕ) (a : ℕ) (swept : AreSwept jobs table (a + 1)) (leads : (b : ℕ) → HasBit between b ↔ LeadsOn table a b)
    (merged : (x y : ℕ) → HasPair new x y ↔ (HasPair table x y ⊎ ((x ≡ a) × HasBit between y))) where
  clashes_of : (b : ℕ) → HasPair table a b ↔ ((a < b) × Clash jobs a b)
  clashes_of b = swept.clash a b (omega arith)

  ties_of : (c b : ℕ) → HasPair table a c → HasPair table c b ↔ TiedTo jobs b c
  ties_of c b has = let less = ((clashes_of c).0 has).0 in swept.tied c b (omega (arith, less))

  row_tied : (b : ℕ) → HasPair new a b ↔ TiedTo jobs b a
  row_tied b = (
    λ has. elim ((merged a b).0 has) [
      | inl one ↦ let pair = (clashes_of b).0 one in clash pair.0 pair.1
      | inr bit ↦
          let on = (leads b).0 bit.1 in
          let pair = (clashes_of on.node).0 on.clash in
          further pair.0 pair.1 ((ties_of on.node b on.clash).0 on.tied)
    ],
    λ tied. (merged a b).1 (parts b tied),
  ) where
    parts : (b : ℕ) → TiedTo jobs b a → HasPair table a b ⊎ ((a ≡ a) × HasBit between b)
    parts b (clash less one) = inl ((clashes_of b).1 (less, one))
    parts b (further {c = c} less one next) =
        let has = (clashes_of c).1 (less, one) in
        inr (refl, (leads b).1 (record { node = c; clash = has; tied = (ties_of c b has).1 next }))

  pub swept_more : AreSwept jobs new a
  swept_more = record {
    clash = λ x y below. (
      λ has. elim ((merged x y).0 has) [ inl before ↦ (swept.clash x y (omega (arith, below))).0 before | inr bit ↦ absurd (let e = bit.0 in omega (arith, e, below)) ],
      λ pair. (merged x y).1 (inl ((swept.clash x y (omega (arith, below))).1 pair)),
    );
    tied = λ x y from. elim (cases_eq x a) [
      | inl same ↦ subst (λ k. HasPair new k y ↔ TiedTo jobs y k) (sym same) (row_tied y)
      | inr other ↦
          let past : a + 1 ≤ x = omega (arith, from, other) in (
            λ has. elim ((merged x y).0 has) [ inl before ↦ (swept.tied x y past).0 before | inr bit ↦ absurd (other bit.0) ],
            λ tied. (merged x y).1 (inl ((swept.tied x y past).1 tied)),
          )
    ];
  }

  -- a bit of the row, and none of those that it leads on to, is a neighbour
  pub alone_is : (b : ℕ) → (HasPair table a b × ¬ HasBit between b) ↔ IsNeighbour jobs a b
  alone_is b = (
    λ has.
        let pair = (clashes_of b).0 has.0 in
        record {
          rises = pair.0;
          clash = pair.1;
          alone = λ c less one tied. let there = (clashes_of c).1 (less, one) in has.1 ((leads b).1 (record { node = c; clash = there; tied = (ties_of c b there).1 tied }));
        },
    λ near. (
      (clashes_of b).1 (near.rises, near.clash),
      λ bit.
          let on = (leads b).0 bit in
          let pair = (clashes_of on.node).0 on.clash in
          near.alone on.node pair.0 pair.1 ((ties_of on.node b on.clash).0 on.tied),
    ),
  )

-- one pair more in the table
pub held_rising_pair : (table : List ℕ) (a b : ℕ) → a < b → HasPair table a b → HoldsPair table a b
held_rising_pair table a b less there = record { rising = λ _. there; falling = λ more. absurd (omega (arith, less, more)) }

pub held_falling_pair : (table : List ℕ) (a b : ℕ) → b < a → HasPair table b a → HoldsPair table a b
held_falling_pair table a b more there = record { rising = λ less. absurd (omega (arith, less, more)); falling = λ _. there }

-- a bit that is set is a pair
pub pair_set : (table new : List ℕ) (a b x y : ℕ) → b < cells → ((k : ℕ) → HasBit new k ↔ (HasBit table k ⊎ (k ≡ cells * a + b))) → HasPair new x y ↔ (HasPair table x y ⊎ ((x ≡ a) × (y ≡ b)))
pair_set table new a b x y inside set = (
  λ has. elim ((set (cells * x + y)).0 has.bit) [
    | inl before ↦ inl (record { inside = has.inside; bit = before })
    | inr one ↦ let low = has.inside in inr (omega (arith, one, low, inside), omega (arith, one, low, inside))
  ],
  λ has. elim has [
    | inl before ↦ record { inside = before.inside; bit = (set (cells * x + y)).1 (inl before.bit) }
    | inr one ↦ record {
      inside = let e = one.1 in omega (arith, e, inside);
      bit = (set (cells * x + y)).1 (inr (ap₂ (λ p q. cells * p + q) one.0 one.1));
    }
  ],
)

-- the pairs of all nodes so far that reach one
abbrev pub AllHeldPairs : Jobs → List ℕ → ℕ → Type 0
AllHeldPairs jobs table end = (a b : ℕ) → b < end → a ≢ b → Reaches (uses_of jobs) a b → HoldsPair table a b

pub clashes_are : (jobs : Jobs) (table : List ℕ) → IsWellFormed jobs → HasClashes jobs table → AllHeldPairs jobs table (node_count jobs) → AreClashes jobs table
clashes_are jobs table shape only all a b = (
  only a b,
  λ pair.
      let live = clash_live pair.1.1 in
      let reach = (clash_is_reach jobs a b shape).0 pair.1 in
      elim reach.1 [
        | inl over ↦ (all a b live.second_node reach.0 over).rising pair.0
        | inr over ↦ (all b a live.first_node (λ same. reach.0 (sym same)) over).falling pair.0
      ],
)

-- before the sweep
pub unswept : (jobs : Jobs) (table : List ℕ) → AreClashes jobs table → AreSwept jobs table (node_count jobs)
unswept jobs table are = record {
  clash = λ a b _. are a b;
  tied = λ a b past. (
    λ has. absurd (let inside = (clash_live ((are a b).0 has).1.1).first_node in omega (arith, inside, past)),
    λ tied. absurd (let inside = tied_node tied in omega (arith, inside, past)),
  );
}

-- a fresh row has no bit
pub no_bits : (b : ℕ) → HasBit (replicate width 0) b → ⊥
no_bits b has = clear_bits (replicate width 0) b (All-replicate (λ (word : ℕ). word ≡ 0) width 0 refl) has

-- a fresh table has no pair
pub no_pairs : (jobs : Jobs) (table : List ℕ) → All (λ word. word ≡ 0) table → HasClashes jobs table
no_pairs jobs table clear a b has = absurd (clear_bits table (cells * a + b) clear has.bit)

-- the pairs of a row, so far
module _ (old pairs : List (ℕ × ℕ)) (row between : List ℕ) (a from b : ℕ) (here : HasBit row b) (none : (k : ℕ) → from ≤ k → k < b → HasBit row k → ⊥)
    (low : from ≤ b) (so_far : (x y : ℕ) → Contains pairs (x, y) ↔ (Contains old (x, y) ⊎ ((x ≡ a) × (y < from) × HasBit row y × ¬ HasBit between y))) where
  widened : (x y : ℕ) → Contains pairs (x, y) → Contains old (x, y) ⊎ ((x ≡ a) × (y < b + 1) × HasBit row y × ¬ HasBit between y)
  widened x y there = elim ((so_far x y).0 there) [
    | inl before ↦ inl before
    | inr new ↦ inr (new.0, let less = new.1 in omega (arith, less, low), new.2, new.3)
  ]

  last : (y : ℕ) → from ≤ y → y < b + 1 → HasBit row y → b ≡ y
  last y past below bit = elim (cases_lt y b) [
    | inl less ↦ absurd (none y past less bit)
    | inr least ↦ omega (arith, below, least)
  ]

  pub alone_pushed : ¬ HasBit between b → (x y : ℕ)
      → Contains (pairs ++ (a, b) ∷ []) (x, y) ↔ (Contains old (x, y) ⊎ ((x ≡ a) × (y < b + 1) × HasBit row y × ¬ HasBit between y))
  alone_pushed free x y = (
    λ there. elim (Contains-push_cases pairs (a, b) (x, y) there) [
      | inl before ↦ widened x y before
      | inr same ↦
          let second : b ≡ y = ap (λ (p : ℕ × ℕ). p.1) same in
          inr (ap (λ (p : ℕ × ℕ). p.0) (sym same), omega (arith, second), subst (HasBit row) second here, subst (λ k. ¬ HasBit between k) second free)
    ],
    λ has. elim has [
      | inl before ↦ Contains-append_left pairs ((a, b) ∷ []) (x, y) ((so_far x y).1 (inl before))
      | inr new ↦ elim (cases_lt y from) [
        | inl less ↦ Contains-append_left pairs ((a, b) ∷ []) (x, y) ((so_far x y).1 (inr (new.0, less, new.2, new.3)))
        | inr past ↦ subst (Contains (pairs ++ (a, b) ∷ [])) (ap₂ (λ p q. (p, q)) (sym new.0) (last y past new.1 new.2)) (Contains-push pairs (a, b))
      ]
    ],
  )

  pub alone_passed : HasBit between b → (x y : ℕ)
      → Contains pairs (x, y) ↔ (Contains old (x, y) ⊎ ((x ≡ a) × (y < b + 1) × HasBit row y × ¬ HasBit between y))
  alone_passed known x y = (
    widened x y,
    λ has. elim has [
      | inl before ↦ (so_far x y).1 (inl before)
      | inr new ↦ elim (cases_lt y from) [
        | inl less ↦ (so_far x y).1 (inr (new.0, less, new.2, new.3))
        | inr past ↦ absurd (new.3 (subst (HasBit between) (last y past new.1 new.2) known))
      ]
    ],
  )
