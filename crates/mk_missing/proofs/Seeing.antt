-- A node watches a file always, by its last writer, or by its name.
use Rattle.std.proofs.Common.{ℕ, ◌≡◌, ◌<◌, ◌||◌, ◌↔◌, Bool, true, false, Option, Some, None, sym, subst, ◌∙◌, inl, inr, arith, lt_trans}
use Rattle.std.proofs.lemmas.Bool.{both_ways, or_cases, or_left, or_right}
use Rattle.mk_path.specs.declared.path.Path.{Path}
use Rattle.mk_jobs.specs.Jobs.{Jobs, IsValid, name_of, node_count}
use Rattle.mk_jobs.specs.Shape.{IsWellFormed}
use Rattle.mk_jobs.proofs.JobsLemmas.{live_node}
use Rattle.mk_missing.specs.Watching.{Carries, RunsAlways, is_never_there}
use Rattle.mk_missing.specs.Files.{IsLastIfAny, IsLastWriterOf, WatchesFile, by_chain, by_name, by_writer, not_there, often}
use Rattle.mk_missing.specs.Finding.{WatchesName, WatchesWriter}
use Rattle.mk_missing.specs.Hearing.{Hears, itself, carried}

module _ (jobs : Jobs) (valid : IsValid jobs) (n : ℕ) (p : Path) (inside : n < node_count jobs) where
  pub seen_name : WatchesName jobs n p → WatchesFile jobs n p
  seen_name name = elim name.heard [
    | inl nowhere ↦ not_there name.file name.inside name.is nowhere
    | inr heard ↦ elim heard [
      | itself step ↦ by_name name.file (name.node, step, name.is)
      | carried live step way ↦ by_chain name.file live (name.node, step, name.is) way
    ]
  ]

  pub seen_writer : (last : Option ℕ) → IsLastIfAny jobs p last → WatchesWriter jobs last n → WatchesFile jobs n p
  seen_writer (Some w) last way = by_writer last way
  seen_writer None last way = absurd way

  its_writer : (last : Option ℕ) (w : ℕ) → IsLastIfAny jobs p last → IsLastWriterOf jobs w p → Carries jobs w n → WatchesWriter jobs last n
  its_writer (Some v) w last is way = subst (λ m. Carries jobs m n) (let one = last.last w is.writes in let other = is.last v last.writes in omega (arith, one, other)) way
  its_writer None w last is way = absurd (last w is.writes)

  pub watches_is : (mark a b : Bool) (last : Option ℕ) → (mark ≡ true) ↔ RunsAlways jobs n → IsLastIfAny jobs p last → (a ≡ true) ↔ WatchesWriter jobs last n → (b ≡ true) ↔ WatchesName jobs n p
      → (mark || a || b ≡ true) ↔ WatchesFile jobs n p
  watches_is mark a b last runs is writer name = (
    λ test. elim (or_cases (mark || a) b test) [
      | inl first ↦ elim (or_cases mark a first) [ inl so ↦ often (runs.0 so) | inr so ↦ seen_writer last is (writer.0 so) ]
      | inr so ↦ seen_name (name.0 so)
    ],
    λ watches.
        let third : WatchesName jobs n p → (mark || a || b ≡ true) = λ at. or_right (mark || a) b (name.1 at) in
        elim watches [
          | often runs' ↦ or_left (mark || a) b (or_left mark a (runs.1 runs'))
          | by_name file at ↦ third (record { file = file; node = at.0; inside = lt_trans (valid.smaller n at.0 at.1) inside; is = at.2; heard = inr (itself at.1) })
          | by_chain {k = k} file live at way ↦ third (record { file = file; node = at.0; inside = lt_trans (valid.smaller k at.0 at.1) (live_node jobs k live); is = at.2; heard = inr (carried live at.1 way) })
          | by_writer {w = w} at way ↦ or_left (mark || a) b (or_right mark a (writer.1 (its_writer last w is at way)))
          | not_there {k = k} file below at nowhere ↦ third (record { file = file; node = k; inside = below; is = at; heard = inl nowhere })
        ],
  )

-- a node watches a file by its name, where the name is that of a node which may be there
pub name_heard : (jobs : Jobs) (n : ℕ) (p : Path) (k : ℕ) (test : Bool) → IsWellFormed jobs → k < node_count jobs → name_of jobs k ≡ p.name → p.tree ≡ false → is_never_there jobs k ≡ false
    → (test ≡ true) ↔ Hears jobs k n → (test ≡ true) ↔ WatchesName jobs n p
name_heard jobs n p k test shape inside is file there heard = (
  λ so. record { file = file; node = k; inside = inside; is = is; heard = inr (heard.0 so) },
  λ name.
      let same : name.node ≡ k = shape.distinct name.node k name.inside inside (name.is ∙ sym is) in
      heard.1 (elim name.heard [
        | inl nowhere ↦ absurd (both_ways (is_never_there jobs k) there (subst (λ m. is_never_there jobs m ≡ true) same nowhere))
        | inr old ↦ subst (λ m. Hears jobs m n) same old
      ]),
)
