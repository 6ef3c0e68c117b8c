-- What a recipe watches: the names whose change makes it run. Declared jobs watch all that they read.
use Rattle.std.specs.Prelude.{ℕ, ◌≡◌, ◌<◌, ◌≤◌, ◌⊎◌, ◌&&◌, ◌||◌, not, Bool, true, false}
use Rattle.mk_name.specs.Names.{Name}
use Rattle.mk_jobs.specs.Jobs.{Jobs, IsPrerequisite, Before, node_count, name_of, is_phony, is_listed, is_live, may_read, may_write}

-- n makes its own file: its recipe may write it
abbrev pub makes_own : Jobs → ℕ → Bool
makes_own jobs n = may_write jobs n (name_of jobs n)

-- n's file is never there: it is not listed, and n does not make it
abbrev pub is_never_there : Jobs → ℕ → Bool
is_never_there jobs n = not (is_listed jobs n) && not (makes_own jobs n)

-- n is restless: it is phony or never there, so it is always out of date, and so is each node that needs it at once
abbrev pub is_restless : Jobs → ℕ → Bool
is_restless jobs n = is_phony jobs n || is_never_there jobs n

-- n runs in every complete build: it is restless; or a prerequisite of it is restless, or runs always and makes its own file
pub data RunsAlways (jobs : Jobs) : ℕ → Type 0 where
  itself : {n : ℕ} → is_live jobs n ≡ true → is_restless jobs n ≡ true → RunsAlways jobs n
  needs : {n p : ℕ} → is_live jobs n ≡ true → IsPrerequisite jobs p n → is_restless jobs p ≡ true → RunsAlways jobs n
  behind : {n p : ℕ} → is_live jobs n ≡ true → IsPrerequisite jobs p n → RunsAlways jobs p → makes_own jobs p ≡ true → RunsAlways jobs n

-- m carries to n, so that n runs in each build in which m does: edges lead from m to n, and each node on the way except n makes its own file
pub data Carries (jobs : Jobs) (m : ℕ) : ℕ → Type 0 where
  edge : {n : ℕ} → is_live jobs n ≡ true → IsPrerequisite jobs m n → makes_own jobs m ≡ true → Carries jobs m n
  further : {k n : ℕ} → Carries jobs m k → is_live jobs n ≡ true → IsPrerequisite jobs k n → makes_own jobs k ≡ true → Carries jobs m n

-- n runs with m: it runs always, or m carries to it
abbrev pub RunsWith : Jobs → ℕ → ℕ → Type 0
RunsWith jobs m n = RunsAlways jobs n ⊎ Carries jobs m n

-- w is the last writer of x: it may write x, and nobody with a greater number may
pub record IsLastWriter (jobs : Jobs) (w : ℕ) (x : Name) : Type 0 where
  pub writes : may_write jobs w x ≡ true
  pub last : (m : ℕ) → may_write jobs m x ≡ true → m ≤ w

-- n names x: a prerequisite of it has this name
abbrev pub IsNamed : Jobs → ℕ → Name → Type 0
IsNamed jobs n x = (p : ℕ) × IsPrerequisite jobs p n × (name_of jobs p ≡ x)

-- n watches x: it runs always; or it names x; or a live node that names x carries to it; or the last writer of x carries to it; or x is a
-- node's name and never there, so that nothing changes
pub data Watches (jobs : Jobs) (n : ℕ) (x : Name) : Type 0 where
  always : RunsAlways jobs n → Watches jobs n x
  named : IsNamed jobs n x → Watches jobs n x
  through : {k : ℕ} → is_live jobs k ≡ true → IsNamed jobs k x → Carries jobs k n → Watches jobs n x
  written : {w : ℕ} → IsLastWriter jobs w x → Carries jobs w n → Watches jobs n x
  never : {p : ℕ} → p < node_count jobs → name_of jobs p ≡ x → is_never_there jobs p ≡ true → Watches jobs n x

-- x is an input of n: n may read it, and may not write it
pub record IsInput (jobs : Jobs) (n : ℕ) (x : Name) : Type 0 where
  pub reads : may_read jobs n x ≡ true
  pub foreign : may_write jobs n x ≡ false

-- jobs are declared, where the fixed names are those that no edit changes
pub record IsDeclared (jobs : Jobs) (fixed : Name → Bool) : Type 0 where
  -- a recipe watches each of its inputs that is not fixed
  pub watched : (n : ℕ) (x : Name) → IsInput jobs n x → (fixed x ≡ true) ⊎ Watches jobs n x
  -- whoever may write an input of a recipe comes before it
  pub earlier : (n m : ℕ) (x : Name) → IsInput jobs n x → may_write jobs m x ≡ true → Before jobs m n
  -- the last writer of a name runs with each other writer of it
  pub last : (n w : ℕ) (x : Name) → may_write jobs n x ≡ true → IsLastWriter jobs w x → (n ≡ w) ⊎ RunsWith jobs n w
  -- what a recipe may write is not fixed
  pub made : (n : ℕ) (x : Name) → may_write jobs n x ≡ true → fixed x ≡ false
  -- the listing has no live node, except phony ones: it is that of a clean tree
  pub absent : (n : ℕ) → is_live jobs n ≡ true → is_phony jobs n ≡ false → is_listed jobs n ≡ false
