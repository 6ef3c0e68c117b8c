-- The steps of the walk.
use Rattle.std.proofs.Common.{◌≡◌, ℕ, zero, suc, ◌+◌, ◌<◌, ◌≤◌, Bool, true, false, cond, List, [], ◌∷◌, ◌++◌, length, get_or, set, sym, ◌∙◌, ap, subst, inl, inr, refl, arith, append_assoc, length-append}
use Rattle.std.specs.Prelude.{◌⊎◌, ◌||◌, if◌then◌else◌, IsTrue, nat_eq, map}
use Rattle.std.specs.List.{flat_map}
use Rattle.std.proofs.lemmas.Bool.{cases_lt, cases_Bool, both_ways, cases_eq, eq-eqb, ne_eqb}
use Rattle.std.proofs.lemmas.List.{take-append-le, take_at, get_or_push, get_or_append_left, length_push, get_or-set_same, get_or-set_other, length-set, append-nil}
use Rattle.mk_name.specs.Names.{has, kept, firsts, IsDistinct}
use Rattle.mk_name.proofs.Names.{nat_is_exact, in_head, in_tail, in_cons_cases, in_left, in_right, in_cases, in_push, in_push_cases, not_in, has-push_other, joined_within, kept_new, kept_skip}
use Rattle.mk_graph.specs.Graph.{Leads, IsNode, IsTreeOfNeeds, IsSerialOrder, HasNoCycle, EachNeedsNext}
use Rattle.mk_graph.specs.Rows.{IsRing, StandAfterNeeds}
use Rattle.mk_graph.specs.Steps.{ring_to}
use Rattle.mk_graph.specs.declared.serial.Mark.{Mark}
use Rattle.mk_graph.specs.declared.serial.Mark.TheVariants.{Fresh, Open, Done}
use Rattle.mk_graph.specs.declared.serial.Step.{Step}
use Rattle.mk_graph.specs.declared.serial.Step.TheVariants.{Enter, Leave}

abbrev pub In : List ℕ → ℕ → Type 0
In xs x = IsTrue (has nat_eq xs x)

abbrev pub Within : List ℕ → List ℕ → Type 0
Within xs ys = (x : ℕ) → In xs x → In ys x

-- the nodes to be left, the last entered first
abbrev pub opens : List Step → List ℕ
opens [] = []
opens (Enter n ∷ steps) = opens steps
opens (Leave n ∷ steps) = n ∷ opens steps

-- all nodes on the stack
abbrev pub nodes : List Step → List ℕ
nodes [] = []
nodes (Enter n ∷ steps) = n ∷ nodes steps
nodes (Leave n ∷ steps) = n ∷ nodes steps

-- the mark of a node, where some are done and some are open
abbrev pub mark_of : List ℕ → List ℕ → ℕ → Mark
mark_of done opened n = cond (has nat_eq done n) Done (cond (has nat_eq opened n) Open Fresh)

abbrev pub Marked : List Mark → List ℕ → List ℕ → Type 0
Marked marks done opened = (n : ℕ) → n < length marks → get_or marks n Fresh ≡ mark_of done opened n

-- the first node to be left below a step needs its node; with none below it is a goal
abbrev pub IsNeeded : (ℕ → List ℕ) → List ℕ → ℕ → List Step → Type 0
IsNeeded needs goals n [] = In goals n
IsNeeded needs goals n (Enter m ∷ steps) = IsNeeded needs goals n steps
IsNeeded needs goals n (Leave m ∷ steps) = In (needs m) n

abbrev pub AllNeeded : (ℕ → List ℕ) → List ℕ → List Step → Type 0
AllNeeded needs goals [] = Unit {0}
AllNeeded needs goals (Enter n ∷ steps) = IsNeeded needs goals n steps × AllNeeded needs goals steps
AllNeeded needs goals (Leave n ∷ steps) = IsNeeded needs goals n steps × AllNeeded needs goals steps

-- what a node to be left needs is done or stands above it, and so do all goals
abbrev pub Promises : (ℕ → List ℕ) → List ℕ → List ℕ → List Step → Type 0
Promises needs goals known [] = Within goals known
Promises needs goals known (Enter n ∷ steps) = Promises needs goals (n ∷ known) steps
Promises needs goals known (Leave n ∷ steps) = Within (needs n) known × Promises needs goals (n ∷ known) steps

-- what the stack owes
abbrev pub owed : (ℕ → List ℕ) → List Step → List ℕ
owed tree [] = []
owed tree (Enter n ∷ steps) = tree n ++ owed tree steps
owed tree (Leave n ∷ steps) = n ∷ owed tree steps

-- a set that needs nothing else, with a tree at each
pub record Trees (needs : ℕ → List ℕ) (set : ℕ → Bool) (tree : ℕ → List ℕ) : Type 0 where
  pub closed : (n p : ℕ) → set n ≡ true → In (needs n) p → set p ≡ true
  pub at : (n : ℕ) → set n ≡ true → IsTreeOfNeeds needs tree n

-- what is done and what is owed, each where it first stands, is the whole
pub record Owes (goals order : List ℕ) (steps : List Step) (set : ℕ → Bool) (tree : ℕ → List ℕ) : Type 0 where
  pub whole : (n : ℕ) → In order n → Within (tree n) order
  pub inside : (n : ℕ) → In (nodes steps) n → set n ≡ true
  pub rest : kept nat_eq order (owed tree steps) ≡ firsts nat_eq (flat_map tree goals)

pub record Walks (needs : ℕ → List ℕ) (size : ℕ) (goals : List ℕ) (marks : List Mark) (order : List ℕ) (steps : List Step) : Type 0 where
  pub long : length marks ≡ size
  pub marked : Marked marks order (opens steps)
  pub closed : (n p : ℕ) → In order n → In (needs n) p → In order p
  pub tree : ℕ → List ℕ
  pub trees : (n : ℕ) → In order n → IsTreeOfNeeds needs tree n
  pub distinct : IsDistinct nat_eq (opens steps)
  pub apart : (n : ℕ) → In (opens steps) n → In order n → ⊥
  pub needed : AllNeeded needs goals steps
  pub promises : Promises needs goals order steps
  pub small : (n : ℕ) → In (nodes steps) n → n < size
  pub reached : (n : ℕ) → In (nodes steps) n → IsNode nat_eq needs goals n
  pub rising : StandAfterNeeds needs order
  pub done_nodes : (n : ℕ) → In order n → IsNode nat_eq needs goals n
  pub owes : (set : ℕ → Bool) (tree : ℕ → List ℕ) → Trees needs set tree → ((g : ℕ) → In goals g → set g ≡ true) → Owes goals order steps set tree

-- marks
fresh_is : (done opened : Bool) → cond done Done (cond opened Open Fresh) ≡ Fresh → (done ≡ false) × (opened ≡ false)
fresh_is true opened h = absurd (cc)
fresh_is false true h = absurd (cc)
fresh_is false false h = (refl, refl)

done_is : (done opened : Bool) → cond done Done (cond opened Open Fresh) ≡ Done → done ≡ true
done_is true opened h = refl
done_is false true h = absurd (cc)
done_is false false h = absurd (cc)

open_is : (done opened : Bool) → cond done Done (cond opened Open Fresh) ≡ Open → opened ≡ true
open_is true opened h = absurd (cc)
open_is false true h = refl
open_is false false h = absurd (cc)

-- all goals, or all prerequisites of a node, put on the stack
abbrev pub enters : List ℕ → List Step
enters ns = map Enter ns

opens_enters : (ns : List ℕ) (steps : List Step) → opens (enters ns ++ steps) ≡ opens steps
opens_enters [] steps = refl
opens_enters (n ∷ ns) steps = opens_enters ns steps

nodes_enters : (ns : List ℕ) (steps : List Step) → nodes (enters ns ++ steps) ≡ ns ++ nodes steps
nodes_enters [] steps = refl
nodes_enters (n ∷ ns) steps = ap (λ z. n ∷ z) (nodes_enters ns steps)

owed_enters : (tree : ℕ → List ℕ) (ns : List ℕ) (steps : List Step) → owed tree (enters ns ++ steps) ≡ flat_map tree ns ++ owed tree steps
owed_enters tree [] steps = refl
owed_enters tree (n ∷ ns) steps = ap (λ z. tree n ++ z) (owed_enters tree ns steps) ∙ sym (append_assoc (tree n) (flat_map tree ns) (owed tree steps))

needed_enters : (needs : ℕ → List ℕ) (goals ns : List ℕ) (steps : List Step) → ((n : ℕ) → In ns n → IsNeeded needs goals n steps) → AllNeeded needs goals steps → AllNeeded needs goals (enters ns ++ steps)
needed_enters needs goals [] steps h a = a
needed_enters needs goals (n ∷ ns) steps h a =
    (below ns n (h n (in_head nat_eq nat_is_exact n ns)), needed_enters needs goals ns steps (λ m i. h m (in_tail nat_eq nat_is_exact n m ns i)) a)
  where
    below : (ms : List ℕ) (k : ℕ) → IsNeeded needs goals k steps → IsNeeded needs goals k (enters ms ++ steps)
    below [] k q = q
    below (m ∷ ms) k q = below ms k q

promises_more : (needs : ℕ → List ℕ) (goals known more : List ℕ) (steps : List Step) → Within known more → Promises needs goals known steps → Promises needs goals more steps
promises_more needs goals known more [] w p = λ g i. w g (p g i)
promises_more needs goals known more (Enter n ∷ steps) w p = promises_more needs goals (n ∷ known) (n ∷ more) steps (wider n) p
  where
    wider : (n : ℕ) → Within (n ∷ known) (n ∷ more)
    wider n x h = elim (in_cons_cases nat_eq nat_is_exact n x known h) [ inl e ↦ subst (λ (z : ℕ). In (n ∷ more) z) e (in_head nat_eq nat_is_exact n more) | inr i ↦ in_tail nat_eq nat_is_exact n x more (w x i) ]
promises_more needs goals known more (Leave n ∷ steps) w p = (λ x i. w x (p.0 x i), promises_more needs goals (n ∷ known) (n ∷ more) steps (wider n) p.1)
  where
    wider : (n : ℕ) → Within (n ∷ known) (n ∷ more)
    wider n x h = elim (in_cons_cases nat_eq nat_is_exact n x known h) [ inl e ↦ subst (λ (z : ℕ). In (n ∷ more) z) e (in_head nat_eq nat_is_exact n more) | inr i ↦ in_tail nat_eq nat_is_exact n x more (w x i) ]

promises_enters : (needs : ℕ → List ℕ) (goals ns known : List ℕ) (steps : List Step) → ((more : List ℕ) → Within ns more → Within known more → Promises needs goals more steps) → Promises needs goals known (enters ns ++ steps)
promises_enters needs goals [] known steps k = k known (λ x h. absurd (both_ways _ refl h)) (λ x h. h)
promises_enters needs goals (n ∷ ns) known steps k =
    promises_enters needs goals ns (n ∷ known) steps (λ more all old. k more
    (λ x h. elim (in_cons_cases nat_eq nat_is_exact n x ns h) [ inl e ↦ subst (λ (z : ℕ). In more z) e (old n (in_head nat_eq nat_is_exact n known)) | inr i ↦ all x i ])
    (λ x h. old x (in_tail nat_eq nat_is_exact n x known h)))

in_opens : (steps : List Step) (n : ℕ) → In (opens steps) n → In (nodes steps) n
in_opens [] n h = h
in_opens (Enter m ∷ steps) n h = in_tail nat_eq nat_is_exact m n (nodes steps) (in_opens steps n h)
in_opens (Leave m ∷ steps) n h =
    elim (in_cons_cases nat_eq nat_is_exact m n (opens steps) h) [
      | inl e ↦ subst (λ (z : ℕ). In (m ∷ nodes steps) z) e (in_head nat_eq nat_is_exact m (nodes steps))
      | inr i ↦ in_tail nat_eq nat_is_exact m n (nodes steps) (in_opens steps n i)
    ]

-- a prerequisite of a node is a node
pub node_next : (needs : ℕ → List ℕ) (goals : List ℕ) (n p : ℕ) → IsNode nat_eq needs goals n → In (needs n) p → IsNode nat_eq needs goals p
node_next needs goals n p h i = (h.0, suc h.1, h.2, (n, h.3, i))

pub goal_node : (needs : ℕ → List ℕ) (goals : List ℕ) (n : ℕ) → In goals n → IsNode nat_eq needs goals n
goal_node needs goals n h = (n, zero, h, refl)

none_done : (opened : List ℕ) (n : ℕ) → opened ≡ [] → Fresh ≡ mark_of [] opened n
none_done opened n e = subst (λ (xs : List ℕ). Fresh ≡ mark_of [] xs n) (sym e) refl

-- the start: all goals are on the stack
pub begin : (needs : ℕ → List ℕ) (size : ℕ) (goals : List ℕ) (marks : List Mark) (order : List ℕ) (steps : List Step) → length marks ≡ size → ((n : ℕ) → n < length marks → get_or marks n Fresh ≡ Fresh) → order ≡ [] → steps ≡ enters goals ++ [] → ((g : ℕ) → In goals g → g < size) → Walks needs size goals marks order steps
begin needs size goals marks order steps long fresh none on small =
    subst (λ (os : List ℕ). Walks needs size goals marks os steps) (sym none) (subst (λ (fs : List Step). Walks needs size goals marks [] fs) (sym on) (record {
      long = long;
      marked = λ n h. fresh n h ∙ none_done (opens (enters goals ++ [])) n (opens_enters goals []);
      closed = λ n p h i. absurd (both_ways _ refl h);
      tree = λ n. [];
      trees = λ n h. absurd (both_ways _ refl h);
      distinct = subst (λ (xs : List ℕ). IsDistinct nat_eq xs) (sym (opens_enters goals [])) tt;
      apart = λ n h i. both_ways _ refl i;
      needed = needed_enters needs goals goals [] (λ n h. h) tt;
      promises = promises_enters needs goals goals [] [] (λ more all old. all);
      small = λ n h. small n (all_in n h);
      reached = λ n h. goal_node needs goals n (all_in n h);
      rising = λ i p h. absurd (omega arith);
      done_nodes = λ n h. absurd (both_ways _ refl h);
      owes = λ set tree trees inside. record {
        whole = λ n h. absurd (both_ways _ refl h);
        inside = λ n h. inside n (all_in n h);
        rest = ap (kept nat_eq []) (owed_enters tree goals [] ∙ append-nil (flat_map tree goals));
      };
    }))
  where
    all_in : (n : ℕ) → In (nodes (enters goals ++ [])) n → In goals n
    all_in n h = subst (λ (xs : List ℕ). In xs n) (nodes_enters goals [] ∙ append-nil goals) h

-- a node that is done already
pub skip : (needs : ℕ → List ℕ) (size : ℕ) (goals : List ℕ) (marks : List Mark) (order : List ℕ) (n : ℕ) (steps : List Step) → Walks needs size goals marks order (Enter n ∷ steps) → get_or marks n Fresh ≡ Done → Walks needs size goals marks order steps
skip needs size goals marks order n steps w h =
    record {
      long = w.long;
      marked = w.marked;
      closed = w.closed;
      tree = w.tree;
      trees = w.trees;
      distinct = w.distinct;
      apart = w.apart;
      needed = w.needed.1;
      promises = promises_more needs goals (n ∷ order) order steps (λ x i. elim (in_cons_cases nat_eq nat_is_exact n x order i) [ inl e ↦ subst (λ (z : ℕ). In order z) e done | inr j ↦ j ]) w.promises;
      small = λ m i. w.small m (in_tail nat_eq nat_is_exact n m (nodes steps) i);
      reached = λ m i. w.reached m (in_tail nat_eq nat_is_exact n m (nodes steps) i);
      rising = w.rising;
      done_nodes = w.done_nodes;
      owes = λ set tree trees inside. let o = w.owes set tree trees inside in record {
        whole = o.whole;
        inside = λ m i. o.inside m (in_tail nat_eq nat_is_exact n m (nodes steps) i);
        rest = sym (kept_skip nat_eq nat_is_exact order (tree n) (owed tree steps) (o.whole n done)) ∙ o.rest;
      };
    }
  where
    long_enough : n < length marks
    long_enough = let a = w.small n (in_head nat_eq nat_is_exact n (nodes steps)) in let b = w.long in omega arith

    done : In order n
    done = done_is _ _ (sym (w.marked n long_enough) ∙ h)

mark_enter : (marks : List Mark) (order opened : List ℕ) (n : ℕ) → n < length marks → has nat_eq order n ≡ false → Marked marks order opened → Marked (set marks n Open) order (n ∷ opened)
mark_enter marks order opened n small fresh m k h =
    elim (cases_eq k n) [
      | inl e ↦ subst (λ (z : ℕ). get_or (set marks n Open) z Fresh ≡ mark_of order (n ∷ opened) z) (sym e)
          (get_or-set_same marks n Open Fresh small ∙ sym (ap (λ b. cond b Done (cond (has nat_eq (n ∷ opened) n) Open Fresh)) fresh ∙ ap (λ b. cond b Open Fresh) (in_head nat_eq nat_is_exact n opened)))
      | inr ne ↦ get_or-set_other marks n k Open Fresh ne ∙ m k (let l = length-set marks n Open in omega arith) ∙ ap (λ b. cond (has nat_eq order k) Done (cond b Open Fresh)) (other k ne)
    ]
  where
    other : (k : ℕ) → (k ≡ n → ⊥) → has nat_eq opened k ≡ has nat_eq (n ∷ opened) k
    other k ne = sym (ap (λ b. b || has nat_eq opened k) (ne_eqb n k (λ e. ne (sym e))))

mark_leave : (marks : List Mark) (order opened : List ℕ) (n : ℕ) → n < length marks → Marked marks order (n ∷ opened) → Marked (set marks n Done) (order ++ n ∷ []) opened
mark_leave marks order opened n small m k h =
    elim (cases_eq k n) [
      | inl e ↦ subst (λ (z : ℕ). get_or (set marks n Done) z Fresh ≡ mark_of (order ++ n ∷ []) opened z) (sym e)
          (get_or-set_same marks n Done Fresh small ∙ sym (ap (λ b. cond b Done (cond (has nat_eq opened n) Open Fresh)) (in_push nat_eq nat_is_exact order n)))
      | inr ne ↦ get_or-set_other marks n k Done Fresh ne ∙ m k (let l = length-set marks n Done in omega arith)
          ∙ ap (λ b. cond (has nat_eq order k) Done (cond (b || has nat_eq opened k) Open Fresh)) (ne_eqb n k (λ e. ne (sym e)))
          ∙ ap (λ b. cond b Done (cond (has nat_eq opened k) Open Fresh)) (has-push_other nat_eq nat_is_exact order n k (λ e. ne (sym e)))
    ]

-- a fresh node: all that it needs goes on the stack, above the node itself
pub enter : (needs : ℕ → List ℕ) (size : ℕ) (goals : List ℕ) (marks : List Mark) (order : List ℕ) (n : ℕ) (steps after : List Step) → Walks needs size goals marks order (Enter n ∷ steps) → get_or marks n Fresh ≡ Fresh → ((p : ℕ) → In (needs n) p → p < size) → after ≡ enters (needs n) ++ Leave n ∷ steps → Walks needs size goals (set marks n Open) order after
enter needs size goals marks order n steps after w h range e =
    subst (λ (fs : List Step). Walks needs size goals (set marks n Open) order fs) (sym e) (record {
      long = length-set marks n Open ∙ w.long;
      marked = subst (λ (xs : List ℕ). Marked (set marks n Open) order xs) (sym (opens_enters (needs n) (Leave n ∷ steps))) (mark_enter marks order (opens steps) n long_enough fresh.0 w.marked);
      closed = w.closed;
      tree = w.tree;
      trees = w.trees;
      distinct = subst (λ (xs : List ℕ). IsDistinct nat_eq xs) (sym (opens_enters (needs n) (Leave n ∷ steps))) (fresh.1, w.distinct);
      apart = λ m i j. elim (in_cons_cases nat_eq nat_is_exact n m (opens steps) (subst (λ (xs : List ℕ). In xs m) (opens_enters (needs n) (Leave n ∷ steps)) i)) [
        | inl q ↦ both_ways _ fresh.0 (subst (λ (z : ℕ). In order z) (sym q) j)
        | inr l ↦ w.apart m l j
      ];
      needed = needed_enters needs goals (needs n) (Leave n ∷ steps) (λ p i. i) w.needed;
      promises = promises_enters needs goals (needs n) order (Leave n ∷ steps) (λ more all old. (all, promises_more needs goals (n ∷ order) (n ∷ more) steps (wider more old) w.promises));
      small = λ m i. elim (node_cases m i) [ inl l ↦ range m l | inr r ↦ w.small m r ];
      reached = λ m i. elim (node_cases m i) [ inl l ↦ node_next needs goals n m (w.reached n top) l | inr r ↦ w.reached m r ];
      rising = w.rising;
      done_nodes = w.done_nodes;
      owes = λ set tree trees inside. let o = w.owes set tree trees inside in record {
        whole = o.whole;
        inside = λ m i. elim (node_cases m i) [ inl l ↦ trees.closed n m (o.inside n top) l | inr r ↦ o.inside m r ];
        rest = ap (kept nat_eq order) (owed_enters tree (needs n) (Leave n ∷ steps) ∙ sym (append_assoc (flat_map tree (needs n)) (n ∷ []) (owed tree steps)) ∙ ap (λ xs. xs ++ owed tree steps) (sym (trees.at n (o.inside n top)))) ∙ o.rest;
      };
    })
  where
    top : In (nodes (Enter n ∷ steps)) n
    top = in_head nat_eq nat_is_exact n (nodes steps)

    long_enough : n < length marks
    long_enough = let a = w.small n top in let b = w.long in omega arith

    fresh : (has nat_eq order n ≡ false) × (has nat_eq (opens steps) n ≡ false)
    fresh = fresh_is _ _ (sym (w.marked n long_enough) ∙ h)

    node_cases : (m : ℕ) → In (nodes (enters (needs n) ++ Leave n ∷ steps)) m → In (needs n) m ⊎ In (nodes (Enter n ∷ steps)) m
    node_cases m i = in_cases nat_eq nat_is_exact (needs n) (n ∷ nodes steps) m (subst (λ (xs : List ℕ). In xs m) (nodes_enters (needs n) (Leave n ∷ steps)) i)

    wider : (more : List ℕ) → Within order more → Within (n ∷ order) (n ∷ more)
    wider more old x i = elim (in_cons_cases nat_eq nat_is_exact n x order i) [ inl q ↦ subst (λ (z : ℕ). In (n ∷ more) z) q (in_head nat_eq nat_is_exact n more) | inr j ↦ in_tail nat_eq nat_is_exact n x more (old x j) ]

rising_push : (needs : ℕ → List ℕ) (order : List ℕ) (n : ℕ) → StandAfterNeeds needs order → Within (needs n) order → StandAfterNeeds needs (order ++ n ∷ [])
rising_push needs order n r w i p h m =
    elim (cases_lt i (length order)) [
      | inl l ↦ subst (λ (xs : List ℕ). In xs p) (sym (take-append-le i order (n ∷ []) (omega arith))) (r i p l (subst (λ (k : ℕ). In (needs k) p) (get_or_append_left order (n ∷ []) 0 i l) m))
      | inr g ↦
          let here : i ≡ length order = (let l = length_push order n in omega arith) in
          subst (λ (xs : List ℕ). In xs p) (sym (take_at order (n ∷ []) i (sym here))) (w p (subst (λ (k : ℕ). In (needs k) p) (get_or_push order n 0 i (sym here)) m))
    ]

-- the trees, with one for the node
abbrev tree_with : (ℕ → List ℕ) → (ℕ → List ℕ) → ℕ → ℕ → List ℕ
tree_with needs tree n m = cond (nat_eq m n) (flat_map tree (needs n) ++ n ∷ []) (tree m)

tree_old : (needs tree : ℕ → List ℕ) (order : List ℕ) (n m : ℕ) → has nat_eq order n ≡ false → In order m → tree_with needs tree n m ≡ tree m
tree_old needs tree order n m absent h =
    ap (λ b. cond b (flat_map tree (needs n) ++ n ∷ []) (tree m)) (ne_eqb m n (λ e. both_ways _ absent (subst (λ (z : ℕ). In order z) e h)))

tree_new : (needs tree : ℕ → List ℕ) (n : ℕ) → tree_with needs tree n n ≡ flat_map tree (needs n) ++ n ∷ []
tree_new needs tree n = ap (λ b. cond b (flat_map tree (needs n) ++ n ∷ []) (tree n)) (eq-eqb n n refl)

trees_agree : (needs tree : ℕ → List ℕ) (order : List ℕ) (n : ℕ) (ps : List ℕ) → has nat_eq order n ≡ false → Within ps order → flat_map tree ps ≡ flat_map (tree_with needs tree n) ps
trees_agree needs tree order n [] absent h = refl
trees_agree needs tree order n (p ∷ ps) absent h =
    ap (λ xs. xs ++ flat_map tree ps) (sym (tree_old needs tree order n p absent (h p (in_head nat_eq nat_is_exact p ps))))
    ∙ ap (λ xs. tree_with needs tree n p ++ xs) (trees_agree needs tree order n ps absent (λ q i. h q (in_tail nat_eq nat_is_exact p q ps i)))

-- the tree of a node whose prerequisites are done lies in what is done with it
tree_within : (needs tree : ℕ → List ℕ) (order : List ℕ) (n : ℕ) → IsTreeOfNeeds needs tree n → Within (needs n) order → ((m : ℕ) → In order m → Within (tree m) order) → Within (tree n) (order ++ n ∷ [])
tree_within needs tree order n at w whole x i =
    elim (in_cases nat_eq nat_is_exact (flat_map tree (needs n)) (n ∷ []) x (subst (λ (xs : List ℕ). In xs x) at i)) [
      | inl l ↦ in_left nat_eq nat_is_exact order (n ∷ []) x (joined_within nat_eq nat_is_exact nat_eq nat_is_exact tree (needs n) order (λ p j. whole p (w p j)) x l)
      | inr r ↦ in_right nat_eq nat_is_exact order (n ∷ []) x r
    ]

-- a node all of whose prerequisites are done
pub leave : (needs : ℕ → List ℕ) (size : ℕ) (goals : List ℕ) (marks : List Mark) (order : List ℕ) (n : ℕ) (steps : List Step) → Walks needs size goals marks order (Leave n ∷ steps) → Walks needs size goals (set marks n Done) (order ++ n ∷ []) steps
leave needs size goals marks order n steps w =
    record {
      long = length-set marks n Done ∙ w.long;
      marked = mark_leave marks order (opens steps) n long_enough w.marked;
      closed = λ m p h i. in_left nat_eq nat_is_exact order (n ∷ []) p (elim (in_push_cases nat_eq nat_is_exact order n m h) [
        | inl j ↦ w.closed m p j i
        | inr e ↦ w.promises.0 p (subst (λ (z : ℕ). In (needs z) p) (sym e) i)
      ]);
      tree = tree_with needs w.tree n;
      trees = λ m h. elim (in_push_cases nat_eq nat_is_exact order n m h) [
        | inl j ↦ tree_old needs w.tree order n m absent j ∙ w.trees m j ∙ ap (λ xs. xs ++ m ∷ []) (trees_agree needs w.tree order n (needs m) absent (λ p i. w.closed m p j i))
        | inr e ↦ subst (λ (z : ℕ). IsTreeOfNeeds needs (tree_with needs w.tree n) z) e (tree_new needs w.tree n ∙ ap (λ xs. xs ++ n ∷ []) (trees_agree needs w.tree order n (needs n) absent w.promises.0))
      ];
      distinct = w.distinct.1;
      apart = λ m i j. elim (in_push_cases nat_eq nat_is_exact order n m j) [
        | inl k ↦ w.apart m (in_tail nat_eq nat_is_exact n m (opens steps) i) k
        | inr e ↦ both_ways _ w.distinct.0 (subst (λ (z : ℕ). In (opens steps) z) (sym e) i)
      ];
      needed = w.needed.1;
      promises = promises_more needs goals (n ∷ order) (order ++ n ∷ []) steps (λ x i. elim (in_cons_cases nat_eq nat_is_exact n x order i) [
        | inl e ↦ subst (λ (z : ℕ). In (order ++ n ∷ []) z) e (in_push nat_eq nat_is_exact order n)
        | inr j ↦ in_left nat_eq nat_is_exact order (n ∷ []) x j
      ]) w.promises.1;
      small = λ m i. w.small m (in_tail nat_eq nat_is_exact n m (nodes steps) i);
      reached = λ m i. w.reached m (in_tail nat_eq nat_is_exact n m (nodes steps) i);
      rising = rising_push needs order n w.rising w.promises.0;
      done_nodes = λ m h. elim (in_push_cases nat_eq nat_is_exact order n m h) [ inl j ↦ w.done_nodes m j | inr e ↦ subst (λ (k : ℕ). IsNode nat_eq needs goals k) e (w.reached n top) ];
      owes = λ set tree trees inside. let o = w.owes set tree trees inside in record {
        whole = λ m h x i. elim (in_push_cases nat_eq nat_is_exact order n m h) [
          | inl j ↦ in_left nat_eq nat_is_exact order (n ∷ []) x (o.whole m j x i)
          | inr e ↦ tree_within needs tree order n (trees.at n (o.inside n top)) w.promises.0 o.whole x (subst (λ (z : ℕ). In (tree z) x) (sym e) i)
        ];
        inside = λ m i. o.inside m (in_tail nat_eq nat_is_exact n m (nodes steps) i);
        rest = sym (kept_new nat_eq nat_is_exact order n (owed tree steps) absent) ∙ o.rest;
      };
    }
  where
    top : In (nodes (Leave n ∷ steps)) n
    top = in_head nat_eq nat_is_exact n (nodes steps)

    long_enough : n < length marks
    long_enough = let a = w.small n top in let b = w.long in omega arith

    absent : has nat_eq order n ≡ false
    absent = not_in nat_eq nat_is_exact order n (λ h. w.apart n (in_head nat_eq nat_is_exact n (opens steps)) h)

-- lengths of trees
length_joined : (tree : ℕ → List ℕ) (xs : List ℕ) (y : ℕ) → In xs y → length (tree y) ≤ length (flat_map tree xs)
length_joined tree [] y h = absurd (both_ways _ refl h)
length_joined tree (x ∷ xs) y h =
    elim (in_cons_cases nat_eq nat_is_exact x y xs h) [
      | inl e ↦ subst (λ (z : ℕ). length (tree z) ≤ length (tree x ++ flat_map tree xs)) e (omega (arith, length-append (tree x) (flat_map tree xs)))
      | inr i ↦ let r = length_joined tree xs y i in omega (arith, length-append (tree x) (flat_map tree xs))
    ]

node_leads : (needs : ℕ → List ℕ) (goals : List ℕ) (edges a b : ℕ) → IsNode nat_eq needs goals a → Leads nat_eq needs edges a b → IsNode nat_eq needs goals b
node_leads needs goals zero a b h l = subst (λ (z : ℕ). IsNode nat_eq needs goals z) l h
node_leads needs goals (suc edges) a b h l = node_next needs goals l.0 b (node_leads needs goals edges a l.0 h l.1) l.2

smaller : (needs : ℕ → List ℕ) (goals : List ℕ) (tree : ℕ → List ℕ) → ((n : ℕ) → IsNode nat_eq needs goals n → IsTreeOfNeeds needs tree n) → (edges a b : ℕ) → IsNode nat_eq needs goals a → Leads nat_eq needs edges a b → length (tree b) + edges ≤ length (tree a)
smaller needs goals tree trees zero a b h l = subst (λ (z : ℕ). length (tree z) + 0 ≤ length (tree a)) l (omega arith)
smaller needs goals tree trees (suc edges) a b h l =
    let before = smaller needs goals tree trees edges a l.0 h l.1 in
    let is = ap length (trees l.0 (node_leads needs goals edges a l.0 h l.1)) in
    let part = length_joined tree (needs l.0) b l.2 in
    let more = length-append (flat_map tree (needs l.0)) (l.0 ∷ []) in
    omega arith

pub order_has_no_cycle : (needs : ℕ → List ℕ) (goals order : List ℕ) → IsSerialOrder nat_eq needs goals order → HasNoCycle nat_eq needs goals
order_has_no_cycle needs goals order s n edges h l = let less = smaller needs goals s.tree s.trees (suc edges) n n h l in absurd (omega arith)

closed_leads : (needs : ℕ → List ℕ) (order : List ℕ) → ((n p : ℕ) → In order n → In (needs n) p → In order p) → (edges a b : ℕ) → In order a → Leads nat_eq needs edges a b → In order b
closed_leads needs order closed zero a b h l = subst (λ (z : ℕ). In order z) l h
closed_leads needs order closed (suc edges) a b h l = closed l.0 b (closed_leads needs order closed edges a l.0 h l.1) l.2

-- the end: nothing is on the stack
pub finish : (needs : ℕ → List ℕ) (size : ℕ) (goals : List ℕ) (marks : List Mark) (order : List ℕ) → Walks needs size goals marks order [] → IsSerialOrder nat_eq needs goals order
finish needs size goals marks order w =
    record {
      tree = w.tree;
      trees = λ n h. w.trees n (closed_leads needs order w.closed h.1 h.0 n (w.promises h.0 h.2) h.3);
      order_is = (w.owes (has nat_eq order) w.tree (record { closed = w.closed; at = w.trees }) w.promises).rest;
    }

-- the ring of a node that is open already
ring_more : (back : ℕ) (xs ys : List ℕ) (steps : List Step) → ring_to back (xs ++ ys) steps ≡ ring_to back xs steps ++ ys
ring_more back xs ys [] = refl
ring_more back xs ys (Enter m ∷ steps) = ring_more back xs ys steps
ring_more back xs ys (Leave m ∷ steps) =
    elim (cases_Bool (nat_eq m back)) [
      | inl t ↦ at_true (xs ++ ys) t ∙ ap (λ zs. zs ++ ys) (sym (at_true xs t))
      | inr f ↦ at_false (xs ++ ys) f ∙ ring_more back (m ∷ xs) ys steps ∙ ap (λ zs. zs ++ ys) (sym (at_false xs f))
    ]
  where
    at_true : (zs : List ℕ) → nat_eq m back ≡ true → ring_to back zs (Leave m ∷ steps) ≡ m ∷ zs
    at_true zs t = ap (λ b. if b then m ∷ zs else ring_to back (m ∷ zs) steps) t

    at_false : (zs : List ℕ) → nat_eq m back ≡ false → ring_to back zs (Leave m ∷ steps) ≡ ring_to back (m ∷ zs) steps
    at_false zs f = ap (λ b. if b then m ∷ zs else ring_to back (m ∷ zs) steps) f

pub ring_here : (back m : ℕ) (rest : List ℕ) (steps : List Step) → m ≡ back → ring_to back rest (Leave m ∷ steps) ≡ m ∷ rest
ring_here back m rest steps e = ap (λ b. if b then m ∷ rest else ring_to back (m ∷ rest) steps) (eq-eqb m back e)

pub ring_past : (back m : ℕ) (rest : List ℕ) (steps : List Step) → (m ≡ back → ⊥) → ring_to back rest (Leave m ∷ steps) ≡ ring_to back (m ∷ rest) steps
ring_past back m rest steps n = ap (λ b. if b then m ∷ rest else ring_to back (m ∷ rest) steps) (ne_eqb m back n)

ring_chain : (needs : ℕ → List ℕ) (goals : List ℕ) (back x : ℕ) (rest : List ℕ) (steps : List Step) → IsNeeded needs goals x steps → AllNeeded needs goals steps → EachNeedsNext nat_eq needs (x ∷ rest) → EachNeedsNext nat_eq needs (ring_to back (x ∷ rest) steps)
ring_chain needs goals back x rest [] n a c = c
ring_chain needs goals back x rest (Enter m ∷ steps) n a c = ring_chain needs goals back x rest steps n a.1 c
ring_chain needs goals back x rest (Leave m ∷ steps) n a c =
    elim (cases_eq m back) [
      | inl e ↦ subst (λ (xs : List ℕ). EachNeedsNext nat_eq needs xs) (sym (ring_here back m (x ∷ rest) steps e)) (n, c)
      | inr d ↦ subst (λ (xs : List ℕ). EachNeedsNext nat_eq needs xs) (sym (ring_past back m (x ∷ rest) steps d)) (ring_chain needs goals back m (x ∷ rest) steps a.0 a.1 (n, c))
    ]

ring_first : (back : ℕ) (rest : List ℕ) (steps : List Step) → In (opens steps) back → (others : List ℕ) × (ring_to back rest steps ≡ back ∷ others)
ring_first back rest [] h = absurd (both_ways _ refl h)
ring_first back rest (Enter m ∷ steps) h = ring_first back rest steps h
ring_first back rest (Leave m ∷ steps) h =
    elim (cases_eq m back) [
      | inl e ↦ (rest, ring_here back m rest steps e ∙ ap (λ z. z ∷ rest) e)
      | inr d ↦ let r = ring_first back (m ∷ rest) steps (elim (in_cons_cases nat_eq nat_is_exact m back (opens steps) h) [ inl e ↦ absurd (d e) | inr i ↦ i ]) in
          (r.0, ring_past back m rest steps d ∙ r.1)
    ]

ring_cases : (back : ℕ) (rest : List ℕ) (steps : List Step) (n : ℕ) → In (ring_to back rest steps) n → In rest n ⊎ In (opens steps) n
ring_cases back rest [] n h = inl h
ring_cases back rest (Enter m ∷ steps) n h = ring_cases back rest steps n h
ring_cases back rest (Leave m ∷ steps) n h =
    elim (cases_eq m back) [
      | inl e ↦ from (inl (subst (λ (xs : List ℕ). In xs n) (ring_here back m rest steps e) h))
      | inr d ↦ from (ring_cases back (m ∷ rest) steps n (subst (λ (xs : List ℕ). In xs n) (ring_past back m rest steps d) h))
    ]
  where
    from : In (m ∷ rest) n ⊎ In (opens steps) n → In rest n ⊎ In (m ∷ opens steps) n
    from (inl l) = elim (in_cons_cases nat_eq nat_is_exact m n rest l) [ inl e ↦ inr (subst (λ (z : ℕ). In (m ∷ opens steps) z) e (in_head nat_eq nat_is_exact m (opens steps))) | inr i ↦ inl i ]
    from (inr r) = inr (in_tail nat_eq nat_is_exact m n (opens steps) r)

ring_distinct : (back : ℕ) (rest : List ℕ) (steps : List Step) → IsDistinct nat_eq rest → IsDistinct nat_eq (opens steps) → ((n : ℕ) → In rest n → In (opens steps) n → ⊥) → IsDistinct nat_eq (ring_to back rest steps)
ring_distinct back rest [] d o a = d
ring_distinct back rest (Enter m ∷ steps) d o a = ring_distinct back rest steps d o a
ring_distinct back rest (Leave m ∷ steps) d o a =
    elim (cases_eq m back) [
      | inl e ↦ subst (λ (xs : List ℕ). IsDistinct nat_eq xs) (sym (ring_here back m rest steps e)) more
      | inr n ↦ subst (λ (xs : List ℕ). IsDistinct nat_eq xs) (sym (ring_past back m rest steps n)) (ring_distinct back (m ∷ rest) steps more o.1 (λ k i j. elim (in_cons_cases nat_eq nat_is_exact m k rest i) [
        | inl e ↦ both_ways _ o.0 (subst (λ (z : ℕ). In (opens steps) z) (sym e) j)
        | inr l ↦ a k l (in_tail nat_eq nat_is_exact m k (opens steps) j)
      ]))
    ]
  where
    more : IsDistinct nat_eq (m ∷ rest)
    more = (not_in nat_eq nat_is_exact rest m (λ h. a m h (in_head nat_eq nat_is_exact m (opens steps))), d)

pub closes : (needs : ℕ → List ℕ) (size : ℕ) (goals : List ℕ) (marks : List Mark) (order : List ℕ) (n : ℕ) (steps : List Step) → Walks needs size goals marks order (Enter n ∷ steps) → get_or marks n Fresh ≡ Open → IsRing needs goals (ring_to n [] steps)
closes needs size goals marks order n steps w h =
    record {
      first = n;
      others = first.0;
      ring_is = first.1;
      chain = subst (λ (xs : List ℕ). EachNeedsNext nat_eq needs xs) (ring_more n [] (n ∷ []) steps) (ring_chain needs goals n n [] steps w.needed.0 w.needed.1 tt);
      distinct = ring_distinct n [] steps tt w.distinct (λ k i j. both_ways _ refl i);
      nodes = λ m i. elim (ring_cases n [] steps m i) [ inl l ↦ absurd (both_ways _ refl l) | inr o ↦ w.reached m (in_tail nat_eq nat_is_exact n m (nodes steps) (in_opens steps m o)) ];
    }
  where
    long_enough : n < length marks
    long_enough = let a = w.small n (in_head nat_eq nat_is_exact n (nodes steps)) in let b = w.long in omega arith

    first : (others : List ℕ) × (ring_to n [] steps ≡ n ∷ others)
    first = ring_first n [] steps (open_is _ _ (sym (w.marked n long_enough) ∙ h))

pub enter_small : (needs : ℕ → List ℕ) (size : ℕ) (goals : List ℕ) (marks : List Mark) (order : List ℕ) (n : ℕ) (steps : List Step) → Walks needs size goals marks order (Enter n ∷ steps) → (n < length marks) × (n < size)
enter_small needs size goals marks order n steps w = let a = w.small n (in_head nat_eq nat_is_exact n (nodes steps)) in let b = w.long in (omega arith, a)

pub leave_small : (needs : ℕ → List ℕ) (size : ℕ) (goals : List ℕ) (marks : List Mark) (order : List ℕ) (n : ℕ) (steps : List Step) → Walks needs size goals marks order (Leave n ∷ steps) → n < length marks
leave_small needs size goals marks order n steps w = let a = w.small n (in_head nat_eq nat_is_exact n (nodes steps)) in let b = w.long in omega arith
