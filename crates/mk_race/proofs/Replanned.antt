-- Whether a plan keeps the nodes of jobs.
use Rattle.std.proofs.Common.{ℕ, zero, suc, ◌≡◌, ◌<◌, ◌≤◌, ◌↔◌, ◌+◌, Bool, List, [], ◌∷◌, Option, Some, None, Ok, Err, map, length, get_or, refl, sym, ap, subst, ◌∙◌, add-one, arith}
use Rattle.std.specs.Prelude.{IsTrue}
use Rattle.std.proofs.lemmas.List.Sums.{fold-append}
use Rattle.std.proofs.lemmas.Option.{slice_get_past}
use Rattle.std.specs.BTreeSet.{insert_key}
use Rattle.std.specs.Cmp.Lexicographic.{slice_cmp}
use Rattle.std.specs.Ordering.{nat_cmp}
use Rattle.mk_name.specs.Names.{Name}
use Rattle.mk_name.specs.Gives.{HaltsAmong}
use Rattle.mk_name.specs.Reported.{Reported}
use Rattle.mk_name.specs.declared.fault.Halt.{Halt}
use Rattle.mk_name.specs.declared.fault.Halt.TheVariants.{Fault}
use Rattle.mk_jobs.specs.Jobs.{Jobs, name_of, node_count}
use Rattle.mk_jobs.specs.Numbered.{number_of}
use Rattle.mk_jobs.specs.Plan.{Node, names_of}
use Rattle.mk_jobs.proofs.Numberings.{number_some}
use Rattle.mk_text.specs.Listing.{put_among}
use Rattle.mk_race.specs.Again.{IsAlike, IsAlikeIfAny, IsChangeWith, KeepsNode, product_name, product_names}
use Rattle.mk_race.specs.Parts.{IsPlannedWith}
use Rattle.mk_race.specs.Stages.{Texts}
use Rattle.mk_race.specs.declared.again.BuildChange.{BuildChange}
use Rattle.mk_race.specs.declared.again.BuildChange.TheVariants as changes

-- the number of a name is below that of the nodes
pub number_inside : (nodes : List Node) (x : Name) (o : Option ℕ) (m : ℕ) → o ≡ number_of (names_of nodes) x → o ≡ Some m → m < length nodes
number_inside nodes x o m is some =
    let inside = (number_some (names_of nodes) x m (sym is ∙ some)).0 in
    subst (λ (k : ℕ). m < k) (names_many nodes) inside
  where
    names_many : (nodes : List Node) → length (names_of nodes) ≡ length nodes
    names_many [] = refl
    names_many (node ∷ nodes) = ap suc (names_many nodes)

-- the first of two lists of numbers have the same names, place by place
abbrev pub AreSameBelow : (ℕ → Name) → (ℕ → Name) → List ℕ → List ℕ → ℕ → Type 0
AreSameBelow f g xs ys n = (k : ℕ) → k < n → f (get_or xs k 0) ≡ g (get_or ys k 0)

-- so lists of the same length have the same names
pub names_same : (f g : ℕ → Name) (xs ys : List ℕ) (n : ℕ) → length xs ≡ length ys → length xs ≤ n → AreSameBelow f g xs ys n → map f xs ≡ map g ys
names_same f g [] [] n same end each = refl
names_same f g [] (y ∷ ys) n same end each = absurd (omega (arith, same))
names_same f g (x ∷ xs) [] n same end each = absurd (omega (arith, same))
names_same f g (x ∷ xs) (y ∷ ys) zero same end each = absurd (omega (arith, end))
names_same f g (x ∷ xs) (y ∷ ys) (suc n) same end each =
    cons_same (each zero (omega arith)) (names_same f g xs ys n (omega (arith, same)) (omega (arith, end)) (λ k less. each (suc k) (omega (arith, less))))
  where
    cons_same : {a b : Name} {xs ys : List Name} → a ≡ b → xs ≡ ys → (a ∷ xs) ≡ (b ∷ ys)
    cons_same one more = cc

-- and lists with the same names have the same length, and the same name at each place
pub same_length : (f g : ℕ → Name) (xs ys : List ℕ) → map f xs ≡ map g ys → length xs ≡ length ys
same_length f g [] [] is = refl
same_length f g [] (y ∷ ys) is = absurd (cc is)
same_length f g (x ∷ xs) [] is = absurd (cc is)
same_length f g (x ∷ xs) (y ∷ ys) is = ap suc (same_length f g xs ys (rest is))
  where
    rest : {a b : Name} {xs ys : List Name} → (a ∷ xs) ≡ (b ∷ ys) → xs ≡ ys
    rest is = cc

pub same_name_at : (f g : ℕ → Name) (xs ys : List ℕ) (k : ℕ) → k < length xs → map f xs ≡ map g ys → f (get_or xs k 0) ≡ g (get_or ys k 0)
same_name_at f g [] ys k inside is = absurd (omega (arith, inside))
same_name_at f g (x ∷ xs) [] k inside is = absurd (cc is)
same_name_at f g (x ∷ xs) (y ∷ ys) zero inside is = first is
  where
    first : {a b : Name} {xs ys : List Name} → (a ∷ xs) ≡ (b ∷ ys) → a ≡ b
    first is = cc
same_name_at f g (x ∷ xs) (y ∷ ys) (suc k) inside is = same_name_at f g xs ys k (omega (arith, inside)) (rest is)
  where
    rest : {a b : Name} {xs ys : List Name} → (a ∷ xs) ≡ (b ∷ ys) → xs ≡ ys
    rest is = cc

-- what is no node has no name
pub no_name : (jobs : Jobs) (n : ℕ) → node_count jobs ≤ n → name_of jobs n ≡ []
unfolding node_count name_of
no_name jobs n past = rw (slice_get_past jobs.plan.nodes n past, name_of) refl

-- a node that a plan lacks is not kept
pub lost_is : (jobs : Jobs) (nodes : List Node) (n : ℕ) (x : Name) (o : Option ℕ) → o ≡ number_of (names_of nodes) x → x ≡ name_of jobs n → o ≡ None
    → KeepsNode jobs nodes n → ⊥
lost_is jobs nodes n x o is named none kept =
    subst (IsAlikeIfAny jobs n nodes) (ap (number_of (names_of nodes)) (sym named) ∙ sym is ∙ none) kept

-- and one that it has is kept where it is made alike
pub kept_if : (jobs : Jobs) (nodes : List Node) (n m : ℕ) (x : Name) (o : Option ℕ) (result : Bool) → o ≡ number_of (names_of nodes) x → x ≡ name_of jobs n → o ≡ Some m
    → IsTrue result ↔ IsAlike jobs n nodes m → IsTrue result ↔ KeepsNode jobs nodes n
kept_if jobs nodes n m x o result is named some alike =
    let same = ap (number_of (names_of nodes)) (sym named) ∙ sym is ∙ some in (
      λ yes. subst (IsAlikeIfAny jobs n nodes) (sym same) (alike.0 yes),
      λ kept. alike.1 (subst (IsAlikeIfAny jobs n nodes) same kept),
    )

-- a build whose texts are refused is a change
pub refused_is : (texts : Texts) (listed : List Name) (jobs : Jobs) (halt : Halt) (fault : Reported) (change : Option BuildChange)
    → HaltsAmong halt (IsPlannedWith texts (Ok listed)) → halt ≡ Fault fault → change ≡ Some changes.Refused → IsChangeWith texts listed jobs change
refused_is texts listed jobs halt fault change h is refused =
    (Err fault, subst (λ (x : Halt). HaltsAmong x (IsPlannedWith texts (Ok listed))) is h, refused)

-- the names of one node more are put among those that are there
pub product_more : (listed so_far new : List Name) (jobs : Jobs) (n : ℕ) → so_far ≡ put_among listed (product_names jobs n)
    → new ≡ put_among so_far (product_name jobs n) → new ≡ put_among listed (product_names jobs (n + 1))
product_more listed so_far new jobs n is put =
    rw add-one (put ∙ ap (λ (names : List Name). put_among names (product_name jobs n)) is
    ∙ sym (fold-append (insert_key (slice_cmp nat_cmp)) listed (product_names jobs n) (product_name jobs n)))
