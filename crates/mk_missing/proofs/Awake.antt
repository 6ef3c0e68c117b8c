-- Which nodes run always, in rising number.
use Rattle.std.proofs.Common.{ℕ, ◌≡◌, ◌+◌, ◌&&◌, ◌||◌, ◌↔◌, Bool, true, false, List, [], ◌∷◌, ◌++◌, length, length-append, get_or, sym, subst, ◌∙◌, ap, inl, inr, arith}
use Rattle.std.specs.List.{list_any, Any}
use Rattle.std.proofs.lemmas.Bool.{and_from, and_parts, or_cases, or_left, or_right, cases_order}
use Rattle.std.proofs.lemmas.List.{get_or_append_left}
use Rattle.std.proofs.Math.Seq.{get_or-append_seam}
use Rattle.std.proofs.lemmas.List.Folds.{Any-from_list_any, list_any-from_Any}
use Rattle.mk_jobs.specs.Jobs.{Jobs, IsPrerequisite, IsValid, is_live, prerequisites_of}
use Rattle.mk_missing.specs.Watching.{RunsAlways, itself, needs, behind, is_restless, makes_own}
use Rattle.mk_missing.specs.Hearing.{AreAlways}

-- a prerequisite that makes each run that needs it
abbrev pub wakes : Jobs → List Bool → ℕ → Bool
wakes jobs marks p = is_restless jobs p || (get_or marks p false && makes_own jobs p)

abbrev always_test : Jobs → List Bool → ℕ → Type 0
always_test jobs marks n = is_live jobs n && (is_restless jobs n || list_any (wakes jobs marks) (prerequisites_of jobs n)) ≡ true

wakes_one : (jobs : Jobs) (marks : List Bool) (n p : ℕ) → is_live jobs n ≡ true → IsPrerequisite jobs p n → wakes jobs marks p ≡ true → always_test jobs marks n
wakes_one jobs marks n p live step test = and_from (is_live jobs n) _ live (or_right (is_restless jobs n) _ (list_any-from_Any (wakes jobs marks) (prerequisites_of jobs n) (step.0, p, step.1, step.2, test)))

runs_test : (jobs : Jobs) (marks : List Bool) (n : ℕ) → IsValid jobs → AreAlways jobs marks n → RunsAlways jobs n → always_test jobs marks n
runs_test jobs marks n valid are (itself live restless) = and_from (is_live jobs n) _ live (or_left (is_restless jobs n) _ restless)
runs_test jobs marks n valid are (needs {p = p} live step restless) = wakes_one jobs marks n p live step (or_left (is_restless jobs p) _ restless)
runs_test jobs marks n valid are (behind {p = p} live step often makes) =
    wakes_one jobs marks n p live step (or_right (is_restless jobs p) _ (and_from (get_or marks p false) _ ((are.marked p (valid.smaller n p step)).1 often) makes))

pub runs_is : (jobs : Jobs) (marks : List Bool) (n : ℕ) → IsValid jobs → AreAlways jobs marks n
    → (is_live jobs n && (is_restless jobs n || list_any (wakes jobs marks) (prerequisites_of jobs n)) ≡ true) ↔ RunsAlways jobs n
runs_is jobs marks n valid are =
    let nodes = prerequisites_of jobs n in (
      λ all.
          let parts = and_parts (is_live jobs n) _ all in
          elim (or_cases (is_restless jobs n) _ parts.1) [
            | inl restless ↦ itself parts.0 restless
            | inr woken ↦
                let any : Any (λ p. wakes jobs marks p ≡ true) nodes = Any-from_list_any (wakes jobs marks) nodes woken in
                let step : IsPrerequisite jobs any.1 n = (any.0, any.2, any.3) in
                elim (or_cases (is_restless jobs any.1) _ any.4) [
                  | inl restless ↦ needs parts.0 step restless
                  | inr both ↦
                      let two = and_parts (get_or marks any.1 false) _ both in
                      behind parts.0 step ((are.marked any.1 (valid.smaller n any.1 step)).0 two.0) two.1
                ]
          ],
      runs_test jobs marks n valid are,
    )

-- a live node that is not restless runs always just where one of its prerequisites wakes it
pub runs_if_woken : (jobs : Jobs) (marks : List Bool) (n : ℕ) (test : Bool) (nodes : List ℕ) → IsValid jobs → AreAlways jobs marks n → is_live jobs n ≡ true → is_restless jobs n ≡ false
    → nodes ≡ prerequisites_of jobs n → test ≡ list_any (wakes jobs marks) nodes → (test ≡ true) ↔ RunsAlways jobs n
runs_if_woken jobs marks n test nodes valid are live calm same is =
    let any = list_any (wakes jobs marks) (prerequisites_of jobs n) in
    let all : (is_live jobs n && (is_restless jobs n || any)) ≡ test =
    ap (λ (b : Bool). b && (is_restless jobs n || any)) live ∙ ap (λ (b : Bool). b || any) calm ∙ ap (λ (ns : List ℕ). list_any (wakes jobs marks) ns) (sym same) ∙ sym is in
    subst (λ (b : Bool). (b ≡ true) ↔ RunsAlways jobs n) all (runs_is jobs marks n valid are)

-- one mark more
pub always_more : (jobs : Jobs) (marks new : List Bool) (n : ℕ) (mark : Bool) → AreAlways jobs marks n → new ≡ marks ++ mark ∷ [] → (mark ≡ true) ↔ RunsAlways jobs n → AreAlways jobs new (n + 1)
always_more jobs marks new n mark are is here = record {
  count = ap length is ∙ length-append marks (mark ∷ []) ∙ ap (λ k. k + 1) are.count;
  marked = λ x below. elim (cases_order x n) [
    | inl same ↦ subst (λ y. (get_or new y false ≡ true) ↔ RunsAlways jobs y) (sym same)
        (subst (λ (b : Bool). (b ≡ true) ↔ RunsAlways jobs n) (sym (ap (λ (ms : List Bool). get_or ms n false) is ∙ ap (λ k. get_or (marks ++ mark ∷ []) k false) (sym are.count) ∙ get_or-append_seam marks mark [] false)) here)
    | inr (inl less) ↦ subst (λ (b : Bool). (b ≡ true) ↔ RunsAlways jobs x) (sym (ap (λ (ms : List Bool). get_or ms x false) is ∙ get_or_append_left marks (mark ∷ []) false x (omega (arith, less, are.count)))) (are.marked x less)
    | inr (inr more) ↦ absurd (omega (arith, below, more))
  ];
}
