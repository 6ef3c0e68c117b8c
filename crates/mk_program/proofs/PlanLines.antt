-- Lemmas on the lines of a plan.
use Rattle.std.proofs.Common.{eq-eqb, ◌||◌, get_or, true, nat_eq, inl, inr, length, ◌<◌, ◌≤◌, Option, None, zero-add, ◌≡◌, ◌∙◌, ℕ, zero, suc, ◌+◌, List, [], ◌∷◌, ◌++◌, take, Some, ap, sym, refl, arith, append-nil, append_assoc, add-one}
use Rattle.std.specs.Prelude.{slice_get, option_map, IfSome, unwrap_or}
use Rattle.std.specs.Fmt.{decimal}
use Rattle.std.specs.List.{enumerate_from, flat_map}
use Rattle.std.proofs.lemmas.Bool.{or_right}
use Rattle.std.proofs.lemmas.List.{take_more}
use Rattle.std.proofs.lemmas.Grind.{flat_map-append}
use Rattle.std.proofs.lemmas.Option.{none-some, same_Some, slice_get-get_or, slice_get_cases}
use Rattle.mk_name.specs.Names.{Name, has}
use Rattle.mk_name.specs.Shown.{shown}
use Rattle.mk_jobs.specs.Plan.{Node, node_at, nobody}
use Rattle.mk_jobs.specs.declared.maker.Maker.{Maker}
use Rattle.mk_program.specs.PlanText.{behind_space, kind_word, lines_of, name_at, needs, node_line}

-- what is not found stands past the end
none_past : {X : Type 0} (xs : List X) (i : ℕ) → slice_get xs i ≡ None → length xs ≤ i
none_past xs i e = elim (slice_get_cases xs i).1 [ inl found ↦ absurd (none-some _ (sym e ∙ found.2)) | inr past ↦ past.0 ]

-- the text of one element more, each reported with its number
one_more : {X : Type 0} (f : ℕ × X → List ℕ) (xs : List X) (first i : ℕ) (x : X) → slice_get xs i ≡ Some x
    → flat_map f (enumerate_from first (take (suc i) xs)) ≡ flat_map f (enumerate_from first (take i xs)) ++ f (first + i, x)
one_more f [] first i x e = absurd (none-some x e)
one_more f (y ∷ ys) first zero x e =
    let same : y ≡ x = same_Some y x e in
    let place : first ≡ first + 0 = omega arith in
    append-nil (f (first, y)) ∙ ap (λ n. f (n, y)) place ∙ ap (λ z. f (first + 0, z)) same
one_more f (y ∷ ys) first (suc i) x e =
    let rest = one_more f ys (first + 1) i x e in
    let place : first + 1 + i ≡ first + suc i = omega arith in
    ap (λ l. f (first, y) ++ l) (rest ∙ ap (λ n. flat_map f (enumerate_from (first + 1) (take i ys)) ++ f (n, x)) place)
    ∙ sym (append_assoc (f (first, y)) (flat_map f (enumerate_from (first + 1) (take i ys))) (f (first + suc i, x)))

lines_more : (nodes : List Node) (i : ℕ) (node : Node) → slice_get nodes i ≡ Some node
    → lines_of nodes (take (i + 1) nodes) ≡ lines_of nodes (take i nodes) ++ node_line nodes i node
lines_more nodes i node e =
    rw add-one (one_more (λ (numbered : ℕ × Node). node_line nodes numbered.0 numbered.1) nodes 0 i node e ∙ ap (λ n. lines_of nodes (take i nodes) ++ node_line nodes n node) (zero-add i))

-- the line of the next node, behind those of the nodes before it
pub lines_step : (nodes : List Node) (i : ℕ) (before after : List ℕ) → i < length nodes → before ≡ lines_of nodes (take i nodes)
    → IfSome (slice_get nodes i) (λ node. after ≡ before ++ node_line nodes i node) → after ≡ lines_of nodes (take (i + 1) nodes)
lines_step nodes i before after within so_far line = go (slice_get nodes i) refl line
  where
    go : (o : Option Node) → slice_get nodes i ≡ o → IfSome o (λ node. after ≡ before ++ node_line nodes i node) → after ≡ lines_of nodes (take (i + 1) nodes)
    go None none line = absurd (omega (arith, none_past nodes i none))
    go (Some node) is line = line ∙ ap (λ l. l ++ node_line nodes i node) so_far ∙ sym (lines_more nodes i node is)

-- a line that is reported in parts is the node's
pub line_reported : (nodes : List Node) (i : ℕ) (maker : Maker) (name : Name) (prerequisites : List ℕ) (old head new : List ℕ)
    → maker ≡ (node_at nodes i).maker → name ≡ (node_at nodes i).name → prerequisites ≡ (node_at nodes i).prerequisites
    → head ≡ decimal i ++ (32 ∷ (kind_word maker ++ 32 ∷ []))
    → new ≡ (((old ++ head) ++ shown name) ++ needs nodes prerequisites) ++ 10 ∷ []
    → IfSome (slice_get nodes i) (λ node. new ≡ old ++ node_line nodes i node)
line_reported nodes i maker name prerequisites old head new m n p h e = go (slice_get nodes i) refl
  where
    go : (o : Option Node) → slice_get nodes i ≡ o → IfSome o (λ node. new ≡ old ++ node_line nodes i node)
    go None is = tt
    go (Some node) is =
        let at : node_at nodes i ≡ node = ap (λ (o : Option Node). unwrap_or o nobody) is in
        let maker_is : maker ≡ node.maker = m ∙ ap (λ (x : Node). x.maker) at in
        let name_is : name ≡ node.name = n ∙ ap (λ (x : Node). x.name) at in
        let prerequisites_is : prerequisites ≡ node.prerequisites = p ∙ ap (λ (x : Node). x.prerequisites) at in
        rw (e, h, maker_is, name_is, prerequisites_is) (simp append_assoc)

-- the name of a node is the one at its number
pub name_at_is : (nodes : List Node) (n : ℕ) (name : Name) → n < length nodes → name ≡ (node_at nodes n).name → name_at nodes n ≡ name
name_at_is nodes n name within is =
    let there = slice_get-get_or nodes n nobody within in
    ap (λ (o : Option Node). unwrap_or (option_map (λ node. node.name) o) []) there
    ∙ sym (is ∙ ap (λ (o : Option Node). (unwrap_or o nobody).name) there)

-- what stands at a place stands in the list
pub in_at : (xs : List ℕ) (i d : ℕ) → i < length xs → has nat_eq xs (get_or xs i d) ≡ true
in_at [] i d within = absurd (omega arith)
in_at (x ∷ xs) zero d within = ap (λ b. b || has nat_eq xs x) (eq-eqb x x refl)
in_at (x ∷ xs) (suc i) d within = or_right _ _ (in_at xs i d (omega arith))

-- one more name behind those that are there
pub needs_step : (nodes : List Node) (numbers : List ℕ) (i : ℕ) (start old mid new : List ℕ) (name : Name) → i < length numbers
    → old ≡ start ++ flat_map (λ number. behind_space (name_at nodes number)) (take i numbers) → mid ≡ old ++ 32 ∷ [] → new ≡ mid ++ shown name
    → name_at nodes (get_or numbers i 0) ≡ name → new ≡ start ++ flat_map (λ number. behind_space (name_at nodes number)) (take (i + 1) numbers)
needs_step nodes numbers i start old mid new name within so_far space shown_too is =
    let f : ℕ → List ℕ = λ number. behind_space (name_at nodes number) in
    let last : flat_map f (get_or numbers i 0 ∷ []) ≡ 32 ∷ shown name = append-nil _ ∙ ap (λ (x : Name). behind_space x) is in
    let front : flat_map f (take (i + 1) numbers) ≡ flat_map f (take i numbers) ++ 32 ∷ shown name =
    ap (flat_map f) (take_more numbers i 0 within) ∙ flat_map-append f (take i numbers) (get_or numbers i 0 ∷ []) ∙ ap (λ l. flat_map f (take i numbers) ++ l) last in
    rw (shown_too, space, so_far, front) (simp append_assoc)
