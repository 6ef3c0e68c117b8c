-- Nodes whose names were put into a table.
use Rattle.std.proofs.Common.{◌≡◌, ℕ, ◌+◌, ◌<◌, ◌≤◌, List, [], ◌∷◌, ◌++◌, length, get_or, sym, ◌∙◌, ap, subst, refl, arith, append_assoc, length-append, All}
use Rattle.std.specs.Prelude.{IsTrue, nat_eq}
use Rattle.std.proofs.lemmas.List.{append-nil, get_or-append-add, get_or-map, length-map}
use Rattle.std.proofs.lemmas.Option.{unwrap_or-slice_get}
use Rattle.std.proofs.lemmas.List.Elements.{All-cons, All-nil}
use Rattle.mk_name.specs.Names.{Name, has, kept, same_name, IsDistinct}
use Rattle.mk_name.proofs.Names.{name_is_exact, kept_new}
use Rattle.mk_jobs.specs.Numbered.{name_at}
use Rattle.mk_jobs.specs.Plan.{HaveNames, NeedsStandBefore, Node, NumberedNode, names_of, nobody, node_at, with_name, with_names}
use Rattle.mk_jobs.proofs.NodeNames.{absent}

-- a node whose name has this number
abbrev pub without_name : ℕ → Node → NumberedNode
without_name n node = record { name = n; prerequisites = node.prerequisites; maker = node.maker; phony = node.phony; listed = node.listed }

-- nodes whose names have numbers in turn
pub without_names : ℕ → List Node → List NumberedNode
without_names n [] = []
without_names n (node ∷ nodes) = without_name n node ∷ without_names (n + 1) nodes

-- with their names they are the nodes again
names_back : (front : List Name) (n : ℕ) (nodes : List Node) → n ≡ length front → with_names (front ++ names_of nodes) (without_names n nodes) ≡ nodes
unfolding without_names
names_back front n [] is = refl
names_back front n (node ∷ nodes) is =
    ap (λ (x : Name). record node { name = x } ∷ with_names (front ++ names_of (node ∷ nodes)) (without_names (n + 1) nodes)) here
    ∙ ap (λ (rest : List Node). node ∷ rest)
    (ap (λ (ns : List Name). with_names ns (without_names (n + 1) nodes)) (sym (append_assoc front (node.name ∷ []) (names_of nodes)))
    ∙ names_back (front ++ node.name ∷ []) (n + 1) nodes (omega (arith, is, length-append front (node.name ∷ []))))
  where
    here : name_at (front ++ names_of (node ∷ nodes)) n ≡ node.name
    here = ap (name_at (front ++ names_of (node ∷ nodes))) (let same : n ≡ length front + 0 = omega (arith, is) in same)
        ∙ get_or-append-add front (names_of (node ∷ nodes)) 0 []

below : (n count : ℕ) (nodes : List Node) → n + length nodes ≤ count → All (λ (node : NumberedNode). node.name < count) (without_names n nodes)
unfolding without_names
below n count [] few = All-nil (λ (node : NumberedNode). node.name < count)
below n count (node ∷ nodes) few =
    All-cons (λ (node : NumberedNode). node.name < count) (without_name n node) (without_names (n + 1) nodes) (omega (arith, few)) (below (n + 1) count nodes (omega (arith, few)))

-- all names taken
pub all_taken : (nodes : List Node) (names : List Name) (taken : List NumberedNode) → names ≡ names_of nodes → taken ≡ without_names 0 nodes → with_names names taken ≡ nodes
all_taken nodes names taken same is = ap (λ ns. with_names ns taken) same ∙ ap (with_names (names_of nodes)) is ∙ names_back [] 0 nodes refl

pub all_have : (nodes : List Node) (names : List Name) (taken : List NumberedNode) → names ≡ names_of nodes → taken ≡ without_names 0 nodes → HaveNames names taken
all_have nodes names taken same is =
    subst (λ (ts : List NumberedNode). HaveNames names ts) (sym is)
    (below 0 (length names) nodes (omega (arith, ap length same, length-map nodes (λ (d : Node). d.name))))

-- one more name taken
pub name_taken : (done new : List Name) (node : Node) (left rest all : List Node) → IsDistinct same_name (names_of all) → left ≡ node ∷ rest → done ++ names_of left ≡ names_of all
    → new ≡ kept same_name done (node.name ∷ []) → new ++ names_of rest ≡ names_of all
name_taken done new node left rest all distinct is before step =
    let whole : done ++ node.name ∷ names_of rest ≡ names_of all = ap (λ ns. done ++ names_of ns) (sym is) ∙ before in
    let other = absent done node.name (names_of rest) (subst (λ (ns : List Name). IsDistinct same_name ns) (sym whole) distinct) in
    ap (λ ns. ns ++ names_of rest) (step ∙ kept_new same_name name_is_exact done node.name [] other) ∙ append_assoc done (node.name ∷ []) (names_of rest) ∙ whole

-- one more node without its name
pub node_taken : (done new : List NumberedNode) (node : Node) (left rest all : List Node) → left ≡ node ∷ rest → done ++ without_names (length done) left ≡ without_names 0 all
    → new ≡ done ++ without_name (length done) node ∷ [] → new ++ without_names (length new) rest ≡ without_names 0 all
unfolding without_names
node_taken done new node left rest all is before step =
    ap (λ ns. ns ++ without_names (length new) rest) step ∙ append_assoc done (without_name (length done) node ∷ []) (without_names (length new) rest)
    ∙ ap (λ n. done ++ without_name (length done) node ∷ without_names n rest) (let long : length new ≡ length done + 1 = omega (arith, ap length step, length-append done (without_name (length done) node ∷ [])) in long)
    ∙ ap (λ ns. done ++ without_names (length done) ns) (sym is) ∙ before

-- the node that was put is the one that came
pub put_is : (done new : List NumberedNode) (n : ℕ) (view node : Node) → new ≡ done ++ without_name n view ∷ [] → n ≡ length done → view ≡ node → new ≡ done ++ without_name (length done) node ∷ []
put_is done new n view node is long same =
    is ∙ ap (λ k. done ++ without_name k view ∷ []) long ∙ ap (λ (d : Node). done ++ without_name (length done) d ∷ []) same

-- where no node is left
pub no_names_left : (done : List Name) (left all : List Node) → left ≡ [] → done ++ names_of left ≡ names_of all → done ≡ names_of all
no_names_left done left all is before = sym (append-nil done) ∙ ap (λ ns. done ++ names_of ns) (sym is) ∙ before

pub none_left : (done : List NumberedNode) (left all : List Node) → left ≡ [] → done ++ without_names (length done) left ≡ without_names 0 all → done ≡ without_names 0 all
unfolding without_names
none_left done left all is before = sym (append-nil done) ∙ ap (λ ns. done ++ without_names (length done) ns) (sym is) ∙ before

-- what is read at a place is the node of its number, with its name
pub node_there : (names : List Name) (nodes : List NumberedNode) (n : ℕ) (d : NumberedNode) → n < length (with_names names nodes) → d ≡ get_or nodes n d → with_name names d ≡ node_at (with_names names nodes) n
node_there names nodes n d inside is =
    ap (with_name names) is ∙ sym (get_or-map (with_name names) nodes n d nobody (omega (arith, inside, length-map nodes (with_name names))))
    ∙ sym (unwrap_or-slice_get (with_names names nodes) n nobody)

-- what a node needs stands before it
pub needs_before : (nodes : List Node) (n p : ℕ) (needs : List ℕ) → NeedsStandBefore nodes → n < length nodes → needs ≡ (node_at nodes n).prerequisites → IsTrue (has nat_eq needs p) → p < n
needs_before nodes n p needs rising inside is has_it =
    rising n p nobody inside (subst (λ (ps : List ℕ). IsTrue (has nat_eq ps p)) (is ∙ ap (λ (d : Node). d.prerequisites) (unwrap_or-slice_get nodes n nobody)) has_it)
