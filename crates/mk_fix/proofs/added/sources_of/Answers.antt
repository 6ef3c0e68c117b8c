use Rattle.std.proofs.Common.{ℕ, ◌≡◌, ◌<◌, ◌+◌, ◌∙◌, List, [], ◌∷◌, ◌++◌, Vec, length, take, get_or, map, set, sym, ap, subst, arith, length-append}
use Rattle.std.specs.Global.{Global}
use Rattle.std.proofs.lemmas.List.{get_or-map, length-map, length-set, map-append, map-set, take_all, take_more}
use Rattle.std.proofs.lemmas.List.Elements.{Contains-get_or}
use Rattle.mk_jobs.specs.Jobs.{node_count}
use Rattle.mk_fix.specs.Added.{sources_to}
use Rattle.mk_fix.proofs.Made.{sources_more}
use Rattle.mk_fix.proofs.Musting.{none_more}
use Rattle.mk_fix.proofs.added.sources_of.Goals as goal

pub loop-n-preserved : goal.loop-n-preserved
loop-n-preserved c =
    let rows = map (λ (v : Vec ℕ Global). v.items) c.loop-n.rows.items in
    let is : map (λ (v : Vec ℕ Global). v.items) c.push.new.self.items ≡ rows ++ [] ∷ [] =
    ap (map (λ (v : Vec ℕ Global). v.items)) c.in_ok-push.ensures.items
    ∙ map-append (λ (v : Vec ℕ Global). v.items) c.loop-n.rows.items (c.new.result ∷ [])
    ∙ ap (λ (row : List ℕ). rows ++ row ∷ []) c.new.ensures.items in
    record {
      count = let long = ap length c.in_ok-push.ensures.items in let more = length-append c.loop-n.rows.items (c.new.result ∷ []) in let count = c.loop-n.invariant.count in
          long ∙ more ∙ ap (λ n. n + 1) count;
      none = λ b. ap (λ (rs : List (List ℕ)). get_or rs b []) is ∙ none_more rows c.loop-n.invariant.none b;
    }

pub loop-first-init : goal.loop-first-init
loop-first-init c = record {
  count = let count = c.loop-n.invariant.count in let most = c.loop-n.auto._n-end in let least = c.loop-n-test.false in let is = c.count-n-end.ensures.count in omega (arith, count, most, least, is);
  rows = c.loop-n.invariant.none;
}

pub index_mut-requires : goal.index_mut-requires
index_mut-requires c =
    let edges = c.args.edges.now in
    let node = c.requires (get_or edges c.loop-first.first-index (0, 0)).0 (get_or edges c.loop-first.first-index (0, 0)).1
    (Contains-get_or edges c.loop-first.first-index (0, 0) c.loop-first-test.true) in
    let count = c.loop-first.invariant.count in
    omega (arith, node, count)

pub loop-first-preserved : goal.loop-first-preserved
loop-first-preserved c =
    let edges = c.args.edges.now in
    let i = c.loop-first.first-index in
    let e = get_or edges i (0, 0) in
    let node = c.requires e.0 e.1 (Contains-get_or edges i (0, 0) c.loop-first-test.true) in
    let count = c.loop-first.invariant.count in
    let lists = c.loop-first.rows.items in
    let rows = map (λ (v : Vec ℕ Global). v.items) lists in
    let inside : e.1 < length lists = omega (arith, node, count) in
    let was : c.index_mut.result.now.items ≡ get_or rows e.1 [] =
    ap (λ (v : Vec ℕ Global). v.items) c.index_mut.ensures.value
    ∙ sym (get_or-map (λ (v : Vec ℕ Global). v.items) lists e.1 c.index_mut.result.now [] inside) in
    let new : map (λ (v : Vec ℕ Global). v.items) (set lists e.1 c.push-in-loop-first.new.self) ≡ set rows e.1 (get_or rows e.1 [] ++ e.0 ∷ []) =
    map-set (λ (v : Vec ℕ Global). v.items) lists e.1 c.push-in-loop-first.new.self
    ∙ ap (set rows e.1) (c.in_ok-push-2.ensures.items ∙ ap (λ (row : List ℕ). row ++ e.0 ∷ []) was) in
    let more = sources_more rows (take i edges) e (let long = length-map lists (λ (v : Vec ℕ Global). v.items) in omega (arith, inside, long)) c.loop-first.invariant.rows in
    record {
      count = length-set lists e.1 c.push-in-loop-first.new.self ∙ count;
      rows = λ n.
          ap (λ (rs : List (List ℕ)). get_or rs n []) new ∙ more n
          ∙ ap (λ (es : List (ℕ × ℕ)). sources_to es n) (sym (take_more edges i (0, 0) c.loop-first-test.true));
    }

pub returns-clause-rows : goal.returns-clause-rows
returns-clause-rows c = λ n below.
    c.loop-first.invariant.rows n ∙ ap (λ (es : List (ℕ × ℕ)). sources_to es n) (take_all c.loop-first.first-index c.args.edges.now c.loop-first-test.false)
