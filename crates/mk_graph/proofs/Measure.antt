-- The measure of the walk, and what it reads.
use Rattle.std.proofs.Common.{◌≡◌, ℕ, zero, suc, ◌+◌, ◌<◌, ◌≤◌, List, [], ◌∷◌, ◌++◌, length, get_or, set, sym, ◌∙◌, ap, subst, arith, length-append}
use Rattle.std.specs.Prelude.{map, reverse, Vec}
use Rattle.std.specs.Global.{Global}
use Rattle.std.proofs.lemmas.List.{reverse-append, length-reverse, nil_from_length, get_or_default}
use Rattle.mk_graph.specs.Rows.{row}
use Rattle.mk_graph.specs.declared.serial.Mark.{Mark}
use Rattle.mk_graph.specs.declared.serial.Mark.TheVariants.{Fresh, Open, Done}
use Rattle.mk_graph.specs.declared.serial.Step.{Step}
use Rattle.mk_graph.specs.declared.serial.Step.TheVariants.{Enter, Leave}
use Rattle.mk_graph.proofs.Steps.{Walks, enters}

-- at a fresh node, a step for it and one for each prerequisite
abbrev pub work_at : Mark → List ℕ → ℕ
work_at Fresh ps = length ps + 1
work_at Open ps = 0
work_at Done ps = 0

abbrev pub fresh_work : List Mark → List (Vec ℕ Global) → ℕ
fresh_work [] graph = 0
fresh_work (m ∷ ms) [] = 0
fresh_work (m ∷ ms) (v ∷ vs) = work_at m v.items + fresh_work ms vs

pub work_enter : (marks : List Mark) (graph : List (Vec ℕ Global)) (p : ℕ) → p < length marks → p < length graph → get_or marks p Fresh ≡ Fresh → fresh_work (set marks p Open) graph + (length (row graph p) + 1) ≡ fresh_work marks graph
work_enter [] graph p h g e = absurd (omega arith)
work_enter (m ∷ ms) [] p h g e = absurd (omega arith)
work_enter (m ∷ ms) (v ∷ vs) zero h g e = let f : work_at m v.items ≡ length v.items + 1 = ap (λ k. work_at k v.items) e in omega arith
work_enter (m ∷ ms) (v ∷ vs) (suc p) h g e = let r = work_enter ms vs p (omega arith) (omega arith) e in omega arith

pub work_leave : (marks : List Mark) (graph : List (Vec ℕ Global)) (p : ℕ) → fresh_work (set marks p Done) graph ≤ fresh_work marks graph
work_leave [] graph p = omega arith
work_leave (m ∷ ms) [] zero = omega arith
work_leave (m ∷ ms) [] (suc p) = omega arith
work_leave (m ∷ ms) (v ∷ vs) zero = omega arith
work_leave (m ∷ ms) (v ∷ vs) (suc p) = let r = work_leave ms vs p in omega arith

pub reverse_push : {X : Type 0} (xs : List X) (x : X) → reverse (xs ++ x ∷ []) ≡ x ∷ reverse xs
reverse_push xs x = reverse-append xs (x ∷ [])

pub row_read : (graph : List (Vec ℕ Global)) (n : ℕ) (v : Vec ℕ Global) → n < length graph → v ≡ get_or graph n v → v.items ≡ row graph n
row_read [] n v h e = absurd (omega arith)
row_read (w ∷ ws) zero v h e = ap (λ (u : Vec ℕ Global). u.items) e
row_read (w ∷ ws) (suc n) v h e = row_read ws n v (omega arith) e

pub popped : (needs : ℕ → List ℕ) (size : ℕ) (goals : List ℕ) (marks : List Mark) (order : List ℕ) (old new : List Step) (s step : Step) → old ≡ new ++ s ∷ [] → s ≡ step → Walks needs size goals marks order (reverse old) → Walks needs size goals marks order (step ∷ reverse new)
popped needs size goals marks order old new s step e is w =
    subst (λ (fs : List Step). Walks needs size goals marks order fs) (ap reverse e ∙ reverse_push new s ∙ ap (λ (t : Step). t ∷ reverse new) is) w

pub length_pushed : {X : Type 0} (old new more : List X) → reverse new ≡ more ++ reverse old → length new ≡ length more + length old
length_pushed old new more e = sym (length-reverse new) ∙ ap length e ∙ length-append more (reverse old) ∙ ap (λ n. length more + n) (length-reverse old)

pub empty_from_none : {X : Type 0} (xs : List X) → length xs ≡ 0 → reverse xs ≡ []
empty_from_none xs e = ap reverse (nil_from_length xs e)

pub mark_read : (marks : List Mark) (n : ℕ) (m mark : Mark) → n < length marks → m ≡ get_or marks n m → m ≡ mark → get_or marks n Fresh ≡ mark
mark_read marks n m mark h e is = get_or_default marks n Fresh m h ∙ sym e ∙ is

-- the stack after a fresh node
pub entered : (graph : List (Vec ℕ Global)) (n : ℕ) (v : Vec ℕ Global) (ps : List ℕ) (popped_steps pushed_steps : List Step) (after : List Step) → n < length graph → v ≡ get_or graph n v → ps ≡ v.items → pushed_steps ≡ popped_steps ++ Leave n ∷ [] → after ≡ map Enter ps ++ reverse pushed_steps → after ≡ enters (row graph n) ++ Leave n ∷ reverse popped_steps
entered graph n v ps popped_steps pushed_steps after h is value pushed entered_all =
    entered_all
    ∙ ap (λ xs. map Enter xs ++ reverse pushed_steps) (value ∙ row_read graph n v h is)
    ∙ ap (λ xs. enters (row graph n) ++ xs) (ap reverse pushed ∙ reverse_push popped_steps (Leave n))
