-- Layers that hold texts.
use Rattle.std.proofs.Common.{◌≡◌, ℕ, ◌+◌, ◌<◌, ◌≤◌, ◌≢◌, ◌⊎◌, inl, inr, List, [], ◌∷◌, ◌++◌, Option, Some, None, length, reverse, take, drop, set, get_or, refl, sym, ◌∙◌, ap, subst, arith, append_assoc, length-append, length-set, get_or-set_other, get_or-set_same}
use Rattle.std.proofs.lemmas.Bool.{cases_lt}
use Rattle.std.proofs.lemmas.List.{append-nil, drop-set, drop_more, get_or-take, length-take, reverse-append, take-set, take-take}
use Rattle.mk_name.specs.declared.fault.Halt.{Halt}
use Rattle.mk_name.specs.declared.fault.Halt.TheVariants as halts
use Rattle.mk_macro.specs.Expansion.{byte_limit}
use Rattle.mk_macro.specs.Layer.{Around, Layer, Output, OutputHolds, Passes, Puts, Relays, Settles, StandsFor, TakesIn, Text, grown, longer, size}
use Rattle.mk_macro.specs.Limits.{IsOver}
use Rattle.mk_macro.specs.Reference.{Change}
use Rattle.mk_macro.specs.Substitution.{changed}
use Rattle.mk_macro.specs.Words.{ComesToSame, reach}

within_or_over : (n : ℕ) → (n ≤ byte_limit) ⊎ (byte_limit < n)
within_or_over n = elim (cases_lt byte_limit n) [ inl h ↦ inr h | inr h ↦ inl h ]

-- more bytes at the end of the innermost text
stands_longer : (inner : Layer) (whole more : List ℕ) (layer : Layer) (text : Text) (so_far : List ℕ) → size (longer inner more) ≤ byte_limit → StandsFor inner whole layer text so_far
    → StandsFor (longer inner more) (whole ++ more) layer text so_far
stands_longer inner whole more layer text so_far h s =
    let parts = length-append inner.kept more in
    let short : size inner ≤ byte_limit = omega arith in
    record {
      change_is = s.change_is;
      outwards = λ k. absurd (omega arith);
      over = λ _ k later. subst (λ (xs : List ℕ). byte_limit < length (text.own ++ changed inner.change xs)) (sym (append_assoc whole more later)) (s.over short k (more ++ later));
      size_is = s.size_is;
      same = λ k later.
          ap (λ xs. so_far ++ changed inner.change xs) (append_assoc inner.kept more later) ∙ s.same k (more ++ later)
          ∙ ap (λ xs. text.own ++ changed inner.change xs) (sym (append_assoc whole more later));
    }

around_longer : (done : List ℕ) (inner : Layer) (whole more : List ℕ) (layers : List Layer) (texts : List Text) → size (longer inner more) ≤ byte_limit → Around done inner whole layers texts
    → Around done (longer inner more) (whole ++ more) layers texts
around_longer done inner whole more [] [] h a =
    let parts = length-append inner.kept more in
    let short : size inner ≤ byte_limit = omega arith in
    (a.0, λ _. ap (λ xs. xs ++ more) (a.1 short) ∙ append_assoc done inner.kept more)
around_longer done inner whole more [] (text ∷ texts) h a = absurd a
around_longer done inner whole more (layer ∷ layers) [] h a = absurd a
around_longer done inner whole more (layer ∷ layers) (text ∷ texts) h a = (a.0, stands_longer inner whole more layer text a.0 h a.1, a.2)

pub put : (output : Output) (more : List ℕ) (text : Text) (texts : List Text) → size (longer output.top more) ≤ byte_limit → OutputHolds output text texts
    → OutputHolds (record output { top = longer output.top more }) (grown text more) texts
put output more text texts h o = record {
  change_is = o.change_is;
  within = h;
  size_is = let own = length-append text.own more in let kept = length-append output.top.kept more in let is = o.size_is in omega arith;
  around = around_longer output.done output.top text.own more (reverse output.outer) texts h o.around;
}

-- a text begins inside the innermost
pub opened : (output : Output) (change : Option Change) (loose : ℕ) (text : Text) (texts : List Text) → OutputHolds output text texts
    → OutputHolds (record { done = output.done; outer = output.outer ++ output.top ∷ []; top = record { change = change; kept = []; passed = 0 }; loose = loose }) (record { change = change; own = [] }) (text ∷ texts)
opened output change loose text texts o =
    let inner : Layer = record { change = change; kept = []; passed = 0 } in
    let short = o.within in
    let stands : StandsFor inner [] output.top text text.own = record {
      change_is = o.change_is;
      outwards = λ h. absurd (omega arith);
      over = λ _ h. absurd (omega arith);
      size_is = λ _. o.size_is;
      same = λ _ later. refl;
    } in
    record {
      change_is = refl;
      within = omega arith;
      size_is = refl;
      around = subst (λ (layers : List Layer). Around output.done inner [] layers (text ∷ texts)) (sym (reverse-append output.outer (output.top ∷ []))) (text.own, stands, o.around);
    }

-- the innermost text ends
module _ (output : Output) (front : List Layer) (layer : Layer) (split : output.outer ≡ front ++ layer ∷ []) (text next : Text) (texts : List Text) (o : OutputHolds output text (next ∷ texts)) where
  abbrev coming : List ℕ
  coming = changed output.top.change output.top.kept

  abbrev given : List ℕ
  given = changed text.change text.own

  inside : Around output.done output.top text.own (layer ∷ reverse front) (next ∷ texts)
  inside = subst (λ (layers : List Layer). Around output.done output.top text.own layers (next ∷ texts)) (ap reverse split ∙ reverse-append front (layer ∷ [])) o.around

  given_is : changed output.top.change text.own ≡ given
  given_is = ap (λ c. changed c text.own) o.change_is

  comes : size layer ≤ byte_limit → inside.0 ++ coming ≡ next.own ++ given
  comes h =
      ap (λ xs. inside.0 ++ changed output.top.change xs) (sym (append-nil output.top.kept))
      ∙ inside.1.same h []
      ∙ ap (λ xs. next.own ++ changed output.top.change xs) (append-nil text.own)
      ∙ ap (λ xs. next.own ++ xs) given_is

  pub closed : size (longer layer coming) ≤ byte_limit → OutputHolds (record { done = output.done; outer = front; top = longer layer coming; loose = output.loose }) (grown next given) texts
  closed h =
      let parts = length-append layer.kept coming in
      let short : size layer ≤ byte_limit = omega arith in
      let same = comes short in
      let long = ap length same in
      let first = length-append inside.0 coming in
      let so_far = inside.1.size_is short in
      record {
        change_is = inside.1.change_is;
        within = h;
        size_is = omega arith;
        around = subst (λ (xs : List ℕ). Around output.done (longer layer coming) xs (reverse front) texts) same (around_longer output.done layer inside.0 coming (reverse front) texts h inside.2);
      }

  over_by : (size layer ≤ byte_limit) ⊎ (byte_limit < size layer) → byte_limit < size layer + length coming → byte_limit < length next.own + length given
  over_by (inl short) h =
      let long = ap length (comes short) in
      let first = length-append inside.0 coming in
      let last = length-append next.own given in
      let so_far = inside.1.size_is short in
      omega arith
  over_by (inr long) h =
      let over = inside.1.over o.within long [] in
      let is = ap (λ xs. length (next.own ++ changed output.top.change xs)) (append-nil text.own) in
      let same = ap (λ xs. length (next.own ++ xs)) given_is in
      let last = length-append next.own given in
      omega arith

  pub closed_over : byte_limit < size layer + length coming → byte_limit < length next.own + length given
  closed_over h = over_by (within_or_over (size layer)) h

-- the whole
all_is : (done : List ℕ) (inner : Layer) (whole : List ℕ) (layers : List Layer) → size inner ≤ byte_limit → Around done inner whole layers [] → done ++ inner.kept ≡ whole
all_is done inner whole [] h a = sym (a.1 h)
all_is done inner whole (layer ∷ layers) h a = absurd a

pub finished : (before parts : Output) (text : Text) → parts ≡ before → OutputHolds before text [] → parts.done ++ parts.top.kept ≡ text.own
finished before parts text same o =
    ap (λ (out : Output). out.done ++ out.top.kept) same ∙ all_is before.done before.top text.own (reverse before.outer) o.within o.around

-- what flows to the layers around one
record Meets (inner : Layer) (whole : List ℕ) (flow : Option (List ℕ)) (layer : Layer) (text : Text) (so_far : List ℕ) : Type 0 where
  change_is : layer.change ≡ text.change
  none : flow ≡ None → size inner ≤ byte_limit → (later : List ℕ) → byte_limit < length (text.own ++ changed inner.change (whole ++ later))
  over : size inner ≤ byte_limit → byte_limit < size layer → (later : List ℕ) → byte_limit < length (text.own ++ changed inner.change (whole ++ later))
  outwards : byte_limit < size inner → flow ≡ None
  size_is : size layer ≤ byte_limit → length so_far ≡ size layer
  same : size layer ≤ byte_limit → (more : List ℕ) → flow ≡ Some more → ComesToSame inner.change whole text.own inner.kept (so_far ++ more)

record Leaves (done : List ℕ) (inner : Layer) (whole : List ℕ) (flow : Option (List ℕ)) : Type 0 where
  no_change : inner.change ≡ None
  some : size inner ≤ byte_limit → flow ≡ None → ⊥
  same : size inner ≤ byte_limit → (more : List ℕ) → flow ≡ Some more → whole ≡ done ++ (more ++ inner.kept)

InTransit : List ℕ → Layer → List ℕ → Option (List ℕ) → List Layer → List Text → Type 0
InTransit done inner whole flow [] [] = Leaves done inner whole flow
InTransit done inner whole flow [] (text ∷ texts) = ⊥
InTransit done inner whole flow (layer ∷ layers) [] = ⊥
InTransit done inner whole flow (layer ∷ layers) (text ∷ texts) =
    (so_far : List ℕ) × Meets inner whole flow layer text so_far × Around done layer so_far layers texts

-- what stands behind what was done before, and what flowed out
pub after : List ℕ → Option (List ℕ) → List ℕ
after done None = done
after done (Some more) = done ++ more

-- a layer that is too long keeps nothing for the one around it
gone : (done : List ℕ) (layer new : Layer) (so_far : List ℕ) (layers : List Layer) (texts : List Text) → new.change ≡ layer.change → byte_limit < size new → Around done layer so_far layers texts
    → InTransit done new so_far None layers texts
unfolding InTransit
gone done layer new so_far [] [] same over a = record { no_change = same ∙ a.0; some = λ h. absurd (omega arith); same = λ h. absurd (omega arith) }
gone done layer new so_far [] (text ∷ texts) same over a = absurd a
gone done layer new so_far (next ∷ layers) [] same over a = absurd a
gone done layer new so_far (next ∷ layers) (text ∷ texts) same over a = (
  a.0,
  record {
    change_is = a.1.change_is;
    none = λ _ h. absurd (omega arith);
    over = λ h. absurd (omega arith);
    outwards = λ _. refl;
    size_is = a.1.size_is;
    same = λ _ more none. absurd (cc);
  },
  a.2,
)

-- a layer that took in what came lets flow on what is settled
module _ (done : List ℕ) (layer new : Layer) (so_far came : List ℕ) (next : Option (List ℕ)) (fits : size layer + length came ≤ byte_limit) (s : Settles (longer layer came) new next) where
  fit : size (longer layer came) ≤ byte_limit
  fit = let parts = length-append layer.kept came in omega arith

  short : size layer ≤ byte_limit
  short = omega arith

  meets : (around : Layer) (text : Text) (further : List ℕ) → StandsFor layer so_far around text further → Meets new (so_far ++ came) next around text further
  meets around text further is =
      let grown_is = λ (later : List ℕ). ap (λ c. length (text.own ++ changed c ((so_far ++ came) ++ later))) s.same_change ∙ ap (λ xs. length (text.own ++ changed layer.change xs)) (append_assoc so_far came later) in
      record {
        change_is = is.change_is;
        none = λ none _ later. too_long none later (grown_is later) (within_or_over (size around));
        over = λ _ h later. let far = is.over short h (came ++ later) in let same = grown_is later in omega arith;
        outwards = λ h. absurd (let size = s.size_is fit in let it = fit in omega arith);
        size_is = is.size_is;
        same = λ h more some later.
            append_assoc further more (changed new.change (new.kept ++ later))
            ∙ ap (λ c. further ++ (more ++ changed c (new.kept ++ later))) s.same_change
            ∙ ap (λ xs. further ++ xs) (s.flows more some later)
            ∙ ap (λ xs. further ++ changed layer.change xs) (append_assoc layer.kept came later)
            ∙ is.same h (came ++ later)
            ∙ ap (λ xs. text.own ++ changed layer.change xs) (sym (append_assoc so_far came later))
            ∙ ap (λ c. text.own ++ changed c ((so_far ++ came) ++ later)) (sym s.same_change);
      }
    where
      too_long : next ≡ None → (later : List ℕ) → length (text.own ++ changed new.change ((so_far ++ came) ++ later)) ≡ length (text.own ++ changed layer.change (so_far ++ (came ++ later)))
          → (size around ≤ byte_limit) ⊎ (byte_limit < size around) → byte_limit < length (text.own ++ changed new.change ((so_far ++ came) ++ later))
      too_long none later same (inl h) =
          let far = s.over none fit later in
          let kept = ap (λ xs. length (changed layer.change xs)) (append_assoc layer.kept came later) in
          let is_same = ap length (is.same h (came ++ later)) in
          let parts = length-append further (changed layer.change (layer.kept ++ (came ++ later))) in
          omega arith
      too_long none later same (inr h) = let far = is.over short h (came ++ later) in omega arith

  leaves : layer.change ≡ None → so_far ≡ done ++ layer.kept → Leaves done new (so_far ++ came) next
  leaves no_change is =
      let long = ap (λ c. length (changed c ((layer.kept ++ came) ++ []))) no_change in
      let parts = length-append (layer.kept ++ came) [] in
      let kept = length-append layer.kept came in
      record {
        no_change = s.same_change ∙ no_change;
        some = λ _ none. let far = s.over none fit [] in let it = fit in omega arith;
        same = λ _ more some.
            ap (λ xs. xs ++ came) is ∙ append_assoc done layer.kept came
            ∙ ap (λ xs. done ++ xs) (sym (append-nil (layer.kept ++ came)) ∙ ap (λ c. changed c ((layer.kept ++ came) ++ [])) (sym no_change) ∙ sym (s.flows more some [])
            ∙ ap (λ c. more ++ changed c (new.kept ++ [])) no_change ∙ ap (λ xs. more ++ xs) (append-nil new.kept));
      }

  flows_on : (layers : List Layer) (texts : List Text) → Around done layer so_far layers texts → InTransit done new (so_far ++ came) next layers texts
  unfolding InTransit
  flows_on [] [] a = leaves a.0 (a.1 short)
  flows_on [] (text ∷ texts) a = absurd a
  flows_on (around ∷ layers) [] a = absurd a
  flows_on (around ∷ layers) (text ∷ texts) a = (a.0, meets around text a.0 a.1, a.2)

-- one layer passes on what flows to it
module _ (inner : Layer) (whole : List ℕ) (layer : Layer) (text : Text) (so_far : List ℕ) (new : Layer) (new_is : new.change ≡ layer.change) where
  -- where it comes to be too long
  stands_over : byte_limit < size new → (size inner ≤ byte_limit → (later : List ℕ) → byte_limit < length (text.own ++ changed inner.change (whole ++ later)))
      → layer.change ≡ text.change → StandsFor inner whole new text so_far
  stands_over over long same = record {
    change_is = new_is ∙ same;
    outwards = λ _. over;
    over = λ h _ later. long h later;
    size_is = λ h. absurd (omega arith);
    same = λ h. absurd (omega arith);
  }

  -- where it holds all that came
  stands_on : (came : List ℕ) → size layer + length came ≤ byte_limit → size new ≡ size layer + length came → Meets inner whole (Some came) layer text so_far → StandsFor inner whole new text (so_far ++ came)
  stands_on came fits is m =
      let parts = length-append so_far came in
      let was = m.size_is (omega arith) in
      record {
        change_is = new_is ∙ m.change_is;
        outwards = λ h. absurd (let no_ = m.outwards h in cc);
        over = λ _ h. absurd (omega arith);
        size_is = λ _. omega arith;
        same = λ h. m.same (omega arith) came refl;
      }

  longer_by : (came : List ℕ) → byte_limit < size layer + length came → Meets inner whole (Some came) layer text so_far → (size layer ≤ byte_limit) ⊎ (byte_limit < size layer)
      → size inner ≤ byte_limit → (later : List ℕ) → byte_limit < length (text.own ++ changed inner.change (whole ++ later))
  longer_by came over m (inl short) h later =
      let same = ap length (m.same short came refl later) in
      let parts = length-append (so_far ++ came) (changed inner.change (inner.kept ++ later)) in
      let front = length-append so_far came in
      let was = m.size_is short in
      omega arith
  longer_by came over m (inr long) h later = m.over h long later

-- what a layer that passed on stands for, and what flows on from it
Step : List ℕ → Layer → List ℕ → Layer → Text → Option (List ℕ) → List Layer → List Text → Type 0
Step done inner whole new text next layers texts = (further : List ℕ) × StandsFor inner whole new text further × InTransit done new further next layers texts

module _ (done : List ℕ) (layer new : Layer) (layers : List Layer) (text : Text) (texts : List Text) (inner : Layer) (whole so_far : List ℕ) (next : Option (List ℕ)) (a : Around done layer so_far layers texts) where
  too_long_by : new.change ≡ layer.change → layer.change ≡ text.change → byte_limit < size new → next ≡ None → (size inner ≤ byte_limit → (later : List ℕ) → byte_limit < length (text.own ++ changed inner.change (whole ++ later)))
      → Step done inner whole new text next layers texts
  unfolding Step
  too_long_by new_is same over none long = (
    so_far,
    stands_over inner whole layer text so_far new new_is over long same,
    subst (λ (f : Option (List ℕ)). InTransit done new so_far f layers texts) (sym none) (gone done layer new so_far layers texts new_is over a),
  )

  some_passes : (came : List ℕ) (flow : Option (List ℕ)) → flow ≡ Some came → Meets inner whole (Some came) layer text so_far → (between : Layer) → TakesIn layer between flow → Settles between new next
      → (byte_limit < size layer + length came) ⊎ (size layer + length came ≤ byte_limit) → Step done inner whole new text next layers texts
  unfolding Step
  some_passes came flow is m between takes settles (inl over) =
      let still = settles.still_over (takes.over came is over) in
      too_long_by (settles.same_change ∙ takes.same_change) m.change_is still.0 still.1 (longer_by inner whole layer text so_far new (settles.same_change ∙ takes.same_change) came over m (within_or_over (size layer)))
  some_passes came flow is m between takes settles (inr fits) =
      let now : Settles (longer layer came) new next = subst (λ (l : Layer). Settles l new next) (takes.fits came is fits) settles in
      let parts = length-append layer.kept came in
      let size_now = now.size_is (omega arith) in (
        so_far ++ came,
        stands_on inner whole layer text so_far new now.same_change came fits (omega arith) m,
        flows_on done layer new so_far came next fits now layers texts a,
      )

  one_passes : (flow : Option (List ℕ)) → Meets inner whole flow layer text so_far → Passes layer flow new next → Step done inner whole new text next layers texts
  one_passes None m p =
      let still = p.2.still_over (p.1.all_over refl) in
      too_long_by (p.2.same_change ∙ p.1.same_change) m.change_is still.0 still.1 (m.none refl)
  one_passes (Some came) m p = some_passes came (Some came) refl m p.0 p.1 p.2 (cases_lt byte_limit (size layer + length came))

-- the end of all layers
left_over : (done : List ℕ) (inner : Layer) (whole : List ℕ) (out flow : Option (List ℕ)) → out ≡ flow → Leaves done inner whole flow → Around (after done out) inner whole [] []
unfolding after
left_over done inner whole None flow same l = (l.no_change, λ h. absurd (l.some h (sym same)))
left_over done inner whole (Some more) flow same l = (l.no_change, λ h. l.same h more (sym same) ∙ sym (append_assoc done more inner.kept))

-- all layers pass on what flows to the first
module _ (done : List ℕ) where
  relayed : (layers news : List Layer) (texts : List Text) (inner : Layer) (whole : List ℕ) (flow out : Option (List ℕ)) → InTransit done inner whole flow layers texts → Relays layers flow news out
      → Around (after done out) inner whole news texts
  unfolding InTransit Step
  relayed [] [] [] inner whole flow out t r = left_over done inner whole out flow r t
  relayed [] [] (text ∷ texts) inner whole flow out t r = absurd t
  relayed [] (new ∷ news) texts inner whole flow out t r = absurd r
  relayed (layer ∷ layers) [] texts inner whole flow out t r = absurd r
  relayed (layer ∷ layers) (new ∷ news) [] inner whole flow out t r = absurd t
  relayed (layer ∷ layers) (new ∷ news) (text ∷ texts) inner whole flow out t r =
      let next = r.0 in
      let step = one_passes done layer new layers text texts inner whole t.0 next t.2 flow t.1 r.1 in
      (step.0, step.1, relayed layers news texts new step.0 next out step.2 r.2)

  arriving : (inner : Layer) (whole : List ℕ) (layers : List Layer) (texts : List Text) → size inner ≤ byte_limit → Around done inner whole layers texts → InTransit done inner whole (Some []) layers texts
  unfolding InTransit
  arriving inner whole [] [] h a = record { no_change = a.0; some = λ _ none. absurd (cc); same = λ _ more some. let empty : more ≡ [] = cc in a.1 h ∙ ap (λ xs. done ++ (xs ++ inner.kept)) (sym empty) }
  arriving inner whole [] (text ∷ texts) h a = absurd a
  arriving inner whole (layer ∷ layers) [] h a = absurd a
  arriving inner whole (layer ∷ layers) (text ∷ texts) h a = (
    a.0,
    record {
      change_is = a.1.change_is;
      none = λ none. absurd (cc);
      over = a.1.over;
      outwards = λ k. absurd (omega arith);
      size_is = a.1.size_is;
      same = λ k more some later.
          let empty : more ≡ [] = cc in
          ap (λ xs. xs ++ changed inner.change (inner.kept ++ later)) (ap (λ xs. a.0 ++ xs) empty ∙ append-nil a.0) ∙ a.1.same k later;
    },
    a.2,
  )

  pub all_relayed : (inner : Layer) (whole : List ℕ) (layers news : List Layer) (texts : List Text) (out : Option (List ℕ)) → size inner ≤ byte_limit → Around done inner whole layers texts → Relays layers (Some []) news out
      → Around (after done out) inner whole news texts
  all_relayed inner whole layers news texts out h a r = relayed layers news texts inner whole (Some []) out (arriving inner whole layers texts h a) r

-- the same for what the calls leave
pub put_parts : (before parts : Output) (new_top : Layer) (more : List ℕ) → parts ≡ before → new_top ≡ longer parts.top more → size new_top ≤ byte_limit → Puts before (record parts { top = new_top }) more
put_parts before parts new_top more same is h text texts o =
    subst (λ (top : Layer). OutputHolds (record parts { top = top }) (grown text more) texts) (sym is)
    (put parts more text texts (subst (λ (top : Layer). size top ≤ byte_limit) is h) (subst (λ (out : Output). OutputHolds out text texts) (sym same) o))

pub opened_parts : (before parts : Output) (loose : ℕ) (change : Option Change) (old_top new_top : Layer) (outer : List Layer) → parts ≡ before → old_top ≡ parts.top → outer ≡ parts.outer ++ old_top ∷ [] → new_top ≡ record { change = change; kept = []; passed = 0 }
    → (text : Text) (texts : List Text) → OutputHolds before text texts → OutputHolds (record { done = parts.done; outer = outer; top = new_top; loose = loose }) (record { change = change; own = [] }) (text ∷ texts)
opened_parts before parts loose change old_top new_top outer same old_is outer_is new_is text texts o =
    subst (λ (layers : List Layer). OutputHolds (record { done = parts.done; outer = layers; top = new_top; loose = loose }) (record { change = change; own = [] }) (text ∷ texts)) (sym (outer_is ∙ ap (λ l. parts.outer ++ l ∷ []) old_is))
    (subst (λ (top : Layer). OutputHolds (record { done = parts.done; outer = parts.outer ++ parts.top ∷ []; top = top; loose = loose }) (record { change = change; own = [] }) (text ∷ texts)) (sym new_is)
    (opened parts change loose text texts (subst (λ (out : Output). OutputHolds out text texts) (sym same) o)))

module _ (before parts : Output) (front : List Layer) (layer : Layer) (changed_top : List ℕ) (same : parts ≡ before) (split : parts.outer ≡ front ++ layer ∷ []) (changed_is : changed_top ≡ changed parts.top.change parts.top.kept) where
  pub closed_parts : (new_top : Layer) → new_top ≡ longer layer changed_top → size new_top ≤ byte_limit
      → (text next : Text) (texts : List Text) → OutputHolds before text (next ∷ texts) → OutputHolds (record { done = parts.done; outer = front; top = new_top; loose = parts.loose }) (grown next (changed text.change text.own)) texts
  closed_parts new_top is h text next texts o =
      let top_is = is ∙ ap (λ xs. longer layer xs) changed_is in
      subst (λ (top : Layer). OutputHolds (record { done = parts.done; outer = front; top = top; loose = parts.loose }) (grown next (changed text.change text.own)) texts) (sym top_is)
      (closed parts front layer split text next texts (subst (λ (out : Output). OutputHolds out text (next ∷ texts)) (sym same) o) (subst (λ (top : Layer). size top ≤ byte_limit) top_is h))

  pub closed_parts_over : (halt : Halt) → IsOver halt byte_limit (size layer + length changed_top)
      → (text next : Text) (texts : List Text) → OutputHolds before text (next ∷ texts) → IsOver halt byte_limit (length next.own + length (changed text.change text.own))
  closed_parts_over halts.Memory over text next texts o = tt
  closed_parts_over (halts.Fault fault) over text next texts o =
      let long = ap length changed_is in
      (over.0, closed_over parts front layer split text next texts (subst (λ (out : Output). OutputHolds out text (next ∷ texts)) (sym same) o) (omega (arith, over.1)))

pub settled_parts : (before parts : Output) (loose : ℕ) (outer news : List Layer) (out : Option (List ℕ)) (done : List ℕ) → parts ≡ before → done ≡ after parts.done out → outer ≡ news → Relays (reverse parts.outer) (Some []) (reverse news) out
    → (text : Text) (texts : List Text) → OutputHolds before text texts → OutputHolds (record { done = done; outer = outer; top = parts.top; loose = loose }) text texts
settled_parts before parts loose outer news out done same is left r text texts o =
    let holds = subst (λ (output : Output). OutputHolds output text texts) (sym same) o in
    record {
      change_is = holds.change_is;
      within = holds.within;
      size_is = holds.size_is;
      around =
          subst (λ (layers : List Layer). Around done parts.top text.own (reverse layers) texts) (sym left)
          (subst (λ (d : List ℕ). Around d parts.top text.own (reverse news) texts) (sym is) (all_relayed parts.done parts.top text.own (reverse parts.outer) (reverse news) texts out holds.within holds.around r));
    }

pub after_none : (done : List ℕ) → done ≡ after done None
unfolding after
after_none done = refl

pub after_some : (done more : List ℕ) → done ++ more ≡ after done (Some more)
unfolding after
after_some done more = refl

-- one more layer passes on
relays_more : (olds news : List Layer) (first flow next : Option (List ℕ)) (old new : Layer) → Relays olds first news flow → Passes old flow new next → Relays (olds ++ old ∷ []) first (news ++ new ∷ []) next
relays_more [] [] first flow next old new r p = (next, subst (λ (f : Option (List ℕ)). Passes old f new next) r p, refl)
relays_more [] (n ∷ news) first flow next old new r p = absurd r
relays_more (o ∷ olds) [] first flow next old new r p = absurd r
relays_more (o ∷ olds) (n ∷ news) first flow next old new r p = (r.0, r.1, relays_more olds news r.0 flow next old new r.2 p)

reverse_more : (x : Layer) (xs : List Layer) → reverse (x ∷ xs) ≡ reverse xs ++ x ∷ []
reverse_more x xs = reverse-append (x ∷ []) xs

module _ (olds now : List Layer) (place i : ℕ) (is : place ≡ i + 1) (inside : place ≤ length now) (front : take place now ≡ take place olds) where
  longs : i < length olds
  longs =
      let same = ap length front in
      let one = length-take place now in
      let other = length-take place olds in
      omega arith

  pub front_fewer : (new : Layer) → take i (set now i new) ≡ take i olds
  front_fewer new =
      take-set now i new ∙ sym (take_take now) ∙ ap (take i) front ∙ take_take olds
    where
      take_take : (xs : List Layer) → take i (take place xs) ≡ take i xs
      take_take xs = take-take i place xs (omega arith)

  pub relays_one : (first flow next : Option (List ℕ)) (old new : Layer) → old ≡ get_or now i old → Passes old flow new next
      → Relays (reverse (drop place olds)) first (reverse (drop place now)) flow → Relays (reverse (drop i olds)) first (reverse (drop i (set now i new))) next
  relays_one first flow next old new at p r =
      let old_is : get_or olds i old ≡ old = sym (get_or-take place olds i old (omega arith)) ∙ ap (λ xs. get_or xs i old) (sym front) ∙ get_or-take place now i old (omega arith) ∙ sym at in
      let olds_are : reverse (drop i olds) ≡ reverse (drop place olds) ++ old ∷ [] =
      ap reverse (drop_more olds i old longs) ∙ reverse_more (get_or olds i old) (drop (i + 1) olds) ∙ ap (λ x. reverse (drop (i + 1) olds) ++ x ∷ []) old_is ∙ ap (λ n. reverse (drop n olds) ++ old ∷ []) (sym is) in
      let news_are : reverse (drop i (set now i new)) ≡ reverse (drop place now) ++ new ∷ [] =
      ap reverse (drop-set now i new (omega arith)) ∙ reverse_more new (drop (i + 1) now) ∙ ap (λ n. reverse (drop n now) ++ new ∷ []) (sym is) in
      subst (λ (xs : List Layer). Relays xs first (reverse (drop i (set now i new))) next) (sym olds_are)
      (subst (λ (xs : List Layer). Relays (reverse (drop place olds) ++ old ∷ []) first xs next) (sym news_are)
      (relays_more (reverse (drop place olds)) (reverse (drop place now)) first flow next old new r p))

-- all layers from one on are short
pub all_short : (layers : List Layer) (place i : ℕ) → place ≡ i + 1 → place ≤ length layers → (new : Layer) → length new.kept ≤ reach new.change
    → ((k : ℕ) (d : Layer) → place ≤ k → k < length layers → length (get_or layers k d).kept ≤ reach (get_or layers k d).change)
    → (k : ℕ) (d : Layer) → i ≤ k → k < length (set layers i new) → length (get_or (set layers i new) k d).kept ≤ reach (get_or (set layers i new) k d).change
all_short layers place i is within new small shorts k d from below = by_place (cases_lt i k)
  where
    size : length (set layers i new) ≡ length layers
    size = length-set layers i new

    by_place : (i < k) ⊎ (k ≤ i) → length (get_or (set layers i new) k d).kept ≤ reach (get_or (set layers i new) k d).change
    by_place (inl after_i) =
        let other : k ≢ i = omega arith in
        subst (λ (l : Layer). length l.kept ≤ reach l.change) (sym (get_or-set_other layers i k new d other)) (shorts k d (omega arith) (omega (arith, size)))
    by_place (inr at_i) =
        let here : k ≡ i = omega arith in
        subst (λ (l : Layer). length l.kept ≤ reach l.change) (sym (ap (λ n. get_or (set layers i new) n d) here ∙ get_or-set_same layers i new d (omega arith))) small
