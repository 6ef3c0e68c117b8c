-- Steps, one after another.
use Rattle.std.proofs.Common.{◌≡◌, List, [], ◌∷◌, ◌++◌, Result, Ok, Err, refl, sym, subst}
use Rattle.mk_name.specs.declared.fault.Halt.{Halt}
use Rattle.mk_name.specs.declared.fault.Halt.TheVariants as halts
use Rattle.mk_macro.specs.Macros.{Macros}
use Rattle.mk_rules.specs.Reading.{Ended, EndsAt, Leads, LeadsOn, Point, ReadingResult, Steps}

-- what ends by one way ends by another that it leads to
pub ends_by : (halt : Halt) (macros : Macros) (one other : ReadingResult → Type 0) → ((ended : Ended) → one (Err ended) → other (Err ended)) → EndsAt halt macros one → EndsAt halt macros other
ends_by halts.Memory macros one other to h = tt
ends_by (halts.Fault fault) macros one other to h = to (record { fault = fault; macros = macros }) h

-- what leads by one way leads by another
pub leads_by : {Y : Type 0} (result : Result Y Halt) (at : Point) (one other : ReadingResult → Type 0) → ((outcome : ReadingResult) → one outcome → other outcome) → Leads result at one → Leads result at other
leads_by (Ok y) at one other to h = to (Ok at) h
leads_by (Err halt) at one other to h = ends_by halt at.macros one other (λ ended. to (Err ended)) h

module _ {A : Type 0} (step : Point → A → ReadingResult → Type 0) where
  -- what the rest of a list leads to, the whole does
  abbrev pub Comes : Point → List A → Point → List A → Type 0
  Comes start xs now rest = (answer : ReadingResult) → Steps step now rest answer → Steps step start xs answer

  pub comes_more : (start : Point) (xs : List A) (now next : Point) (x : A) (rest : List A) → Comes start xs now (x ∷ rest) → step now x (Ok next) → Comes start xs next rest
  comes_more start xs now next x rest comes says = λ answer h. comes answer (Ok next, says, h)

  pub comes_to_end : (start : Point) (xs : List A) (now : Point) (x : A) (rest : List A) → Comes start xs now (x ∷ rest) → (ended : Ended) → step now x (Err ended) → Steps step start xs (Err ended)
  comes_to_end start xs now x rest comes ended says = comes (Err ended) (Err ended, says, refl)

  -- steps at a list, and then at another
  module _ (x : A) (front back : List A) (start mid : Point) (answer : ReadingResult) (rest : (next : Point) → Steps step next front (Ok mid) → Steps step next (front ++ back) answer) where
    onward : (said : ReadingResult) → step start x said → LeadsOn (λ next rest. Steps step next front rest) said (Ok mid) → Steps step start (x ∷ front ++ back) answer
    onward (Err ended) says h = absurd (cc)
    onward (Ok next) says h = (Ok next, says, rest next h)

  pub steps_both : (front back : List A) (start mid : Point) (answer : ReadingResult) → Steps step start front (Ok mid) → Steps step mid back answer → Steps step start (front ++ back) answer
  steps_both [] back start mid answer h more = let same : mid ≡ start = cc in subst (λ (p : Point). Steps step p back answer) same more
  steps_both (x ∷ front) back start mid answer h more =
      onward x front back start mid answer (λ next inner. steps_both front back next mid answer inner more) h.0 h.1 h.2

  module _ (x : A) (front back : List A) (start : Point) (ended : Ended) (rest : (next : Point) → Steps step next front (Err ended) → Steps step next (front ++ back) (Err ended)) where
    ending : (said : ReadingResult) → step start x said → LeadsOn (λ next rest. Steps step next front rest) said (Err ended) → Steps step start (x ∷ front ++ back) (Err ended)
    ending (Err end) says h = (Err end, says, h)
    ending (Ok next) says h = (Ok next, says, rest next h)

  -- what ends the steps at a list ends those at more
  pub steps_stop : (front back : List A) (start : Point) (ended : Ended) → Steps step start front (Err ended) → Steps step start (front ++ back) (Err ended)
  steps_stop [] back start ended h = absurd (cc)
  steps_stop (x ∷ front) back start ended h = ending x front back start ended (λ next inner. steps_stop front back next ended inner) h.0 h.1 h.2

  module _ (start : Point) (xs : List A) (now : Point) (left : List A) (comes : Comes start xs now left) where
    pub comes_out : left ≡ [] → Steps step start xs (Ok now)
    comes_out none = comes (Ok now) (subst (λ (rest : List A). Steps step now rest (Ok now)) (sym none) refl)

    module _ (x : A) (rest : List A) (is : left ≡ x ∷ rest) where
      here : Comes start xs now (x ∷ rest)
      here = subst (λ (l : List A). Comes start xs now l) is comes

      pub ends_here : (halt : Halt) (macros : Macros) → EndsAt halt macros (step now x) → EndsAt halt macros (λ answer. Steps step start xs answer)
      ends_here halt macros h = ends_by halt macros (step now x) (λ answer. Steps step start xs answer) (comes_to_end start xs now x rest here) h

      pub goes_on : (next : Point) → step now x (Ok next) → Comes start xs next rest
      goes_on next says = comes_more start xs now next x rest here says
