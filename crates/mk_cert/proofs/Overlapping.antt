-- Where paths of two nodes overlap, the nodes clash.
use Rattle.std.proofs.Common.{ℕ, ◌≡◌, ◌&&◌, ◌||◌, ◌++◌, ◌⊎◌, true, List, [], Contains, inl, inr, refl, sym, subst, arith}
use Rattle.std.proofs.lemmas.Bool.{and_from, cases_Bool, or_left, or_right}
use Rattle.std.proofs.lemmas.List.Elements.{Contains-append_cases, Contains-append_left, Contains-append_right}
use Rattle.std.proofs.lemmas.List.Folds.{list_any-from_Any}
use Rattle.mk_path.specs.declared.path.Path.{Path}
use Rattle.mk_path.specs.Paths.{is_over}
use Rattle.mk_path.specs.Texts.{text_of}
use Rattle.mk_index.specs.Uses.{ReachesPath}
use Rattle.mk_path.proofs.Overs.{over_self}
use Rattle.mk_jobs.specs.Jobs.{Jobs, IsValid, is_live, reads_of, writes_of}
use Rattle.mk_proof.specs.Shapes.{Trace}
use Rattle.mk_jobs.specs.Reaching.{uses_of}
use Rattle.mk_jobs.specs.Shape.{IsWellFormed}
use Rattle.mk_cert.proofs.Racing.{is_sure}
use Rattle.mk_cert.specs.Laws.{OverlapsClash}
use Rattle.mk_cert.specs.Races.{IsOfRace}
use Rattle.mk_cert.specs.Sure.{IsSure}
use Rattle.mk_cert.specs.Traces.{clash_over, some_over, touches_over, writes_over}

no_element : {X : Type 0} (xs : List X) (x : X) → xs ≡ [] → Contains xs x → ⊥
no_element xs x none there = let some : Contains [] x = subst (λ (ys : List _). Contains ys x) none there in omega (arith, some.1)

-- who has a path is live
reader_live : (jobs : Jobs) (n : ℕ) (p : Path) → IsWellFormed jobs → Contains (reads_of jobs n) p → is_live jobs n ≡ true
reader_live jobs n p shape there = elim (cases_Bool (is_live jobs n)) [
  | inl live ↦ live
  | inr dead ↦ absurd (no_element (reads_of jobs n) p (shape.no_reads n dead) there)
]

writer_live : (jobs : Jobs) (n : ℕ) (p : Path) → IsWellFormed jobs → Contains (writes_of jobs n) p → is_live jobs n ≡ true
writer_live jobs n p shape there = elim (cases_Bool (is_live jobs n)) [
  | inl live ↦ live
  | inr dead ↦ absurd (no_element (writes_of jobs n) p (shape.no_writes n dead) there)
]

one_over : (root : List ℕ) (paths : List Path) (q p : Path) → Contains paths q → is_over root q p ≡ true → some_over root paths p ≡ true
one_over root paths q p there over = list_any-from_Any (λ r. is_over root r p) paths (there.0, q, there.1, there.2, over)

-- who reads or writes a path that is over p
reader_over : (jobs : Jobs) (n : ℕ) (q p : Path) → IsWellFormed jobs → Contains (reads_of jobs n) q → is_over jobs.root q p ≡ true → touches_over jobs n p ≡ true
reader_over jobs n q p shape there over =
    and_from _ _ (reader_live jobs n q shape there) (or_left (some_over jobs.root (reads_of jobs n) p) _ (one_over jobs.root (reads_of jobs n) q p there over))

writer_over : (jobs : Jobs) (n : ℕ) (q p : Path) → IsWellFormed jobs → Contains (writes_of jobs n) q → is_over jobs.root q p ≡ true → writes_over jobs n p ≡ true
writer_over jobs n q p shape there over = and_from _ _ (writer_live jobs n q shape there) (one_over jobs.root (writes_of jobs n) q p there over)

toucher_over : (jobs : Jobs) (n : ℕ) (q p : Path) → IsWellFormed jobs → Contains (writes_of jobs n) q → is_over jobs.root q p ≡ true → touches_over jobs n p ≡ true
toucher_over jobs n q p shape there over =
    and_from _ _ (writer_live jobs n q shape there) (or_right (some_over jobs.root (reads_of jobs n) p) _ (one_over jobs.root (writes_of jobs n) q p there over))

-- a path of a node's own
own_over : (jobs : Jobs) (n : ℕ) (p : Path) → IsWellFormed jobs → Contains (reads_of jobs n ++ writes_of jobs n) p → touches_over jobs n p ≡ true
own_over jobs n p shape there = elim (Contains-append_cases (reads_of jobs n) (writes_of jobs n) p there) [
  | inl read ↦ reader_over jobs n p p shape read (over_self jobs.root p)
  | inr wrote ↦ toucher_over jobs n p p shape wrote (over_self jobs.root p)
]

both : (jobs : Jobs) (a b : ℕ) (p : Path) → touches_over jobs a p ≡ true → touches_over jobs b p ≡ true → (writes_over jobs a p || writes_over jobs b p) ≡ true → clash_over jobs a b p ≡ true
both jobs a b p first second written = and_from (touches_over jobs a p && touches_over jobs b p) _ (and_from (touches_over jobs a p) (touches_over jobs b p) first second) written

-- a reaches a path of b
record IsReached (jobs : Jobs) (a b : ℕ) (p : Path) : Type 0 where
  pub named : Contains (reads_of jobs b ++ writes_of jobs b) p
  pub first : touches_over jobs a p ≡ true
  pub second : touches_over jobs b p ≡ true
  pub written : (writes_over jobs a p ≡ true) ⊎ (writes_over jobs b p ≡ true)

reached : (jobs : Jobs) (a b : ℕ) (p : Path) → IsWellFormed jobs → ReachesPath (uses_of jobs) a b p → IsReached jobs a b p
unfolding reads_of writes_of
reached jobs a b p shape reach = elim reach.touches [
  | inl written ↦ record {
    named = written.1;
    first = toucher_over jobs a reach.upper p shape written.0 reach.over;
    second = own_over jobs b p shape written.1;
    written = inl (writer_over jobs a reach.upper p shape written.0 reach.over);
  }
  | inr read ↦ record {
    named = Contains-append_right (reads_of jobs b) (writes_of jobs b) p read.1;
    first = reader_over jobs a reach.upper p shape read.0 reach.over;
    second = toucher_over jobs b p p shape read.1 (over_self jobs.root p);
    written = inr (writer_over jobs b p p shape read.1 (over_self jobs.root p));
  }
]

pub overlaps : OverlapsClash
overlaps jobs a b p shape apart (inl reach) =
    let there = reached jobs a b p shape reach in
    record {
      different = apart;
      path = p;
      named = Contains-append_right (reads_of jobs a ++ writes_of jobs a) (reads_of jobs b ++ writes_of jobs b) p there.named;
      spells = refl;
      clash = both jobs a b p there.first there.second (elim there.written [
        | inl left ↦ or_left (writes_over jobs a p) _ left
        | inr right ↦ or_right (writes_over jobs a p) _ right
      ]);
    }
overlaps jobs a b p shape apart (inr reach) =
    let there = reached jobs b a p shape reach in
    record {
      different = apart;
      path = p;
      named = Contains-append_left (reads_of jobs a ++ writes_of jobs a) (reads_of jobs b ++ writes_of jobs b) p there.named;
      spells = refl;
      clash = both jobs a b p there.second there.first (elim there.written [
        | inl left ↦ or_right (writes_over jobs a p) _ left
        | inr right ↦ or_left (writes_over jobs a p) _ right
      ]);
    }

-- the trace of a race is sure
pub of_race : (jobs : Jobs) (trace : Trace) → IsWellFormed jobs → IsValid jobs → IsOfRace jobs trace → IsSure jobs trace
of_race jobs trace shape valid of =
    let clash = overlaps jobs trace.first trace.second of.path shape of.different of.overlap in
    subst (IsSure jobs) (sym of.is) (is_sure jobs of.early trace.first trace.second (text_of of.path) valid clash of.not_before of.not_after of.reports)
