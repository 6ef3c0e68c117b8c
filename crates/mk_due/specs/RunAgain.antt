-- A worked case, computed: an old tree in which a task is not due, and the same tree with a newer source, in which it is.
use Rattle.std.specs.Prelude.{ℕ, ◌≡◌, ◌==◌, true, false, List, [], ◌∷◌, ◌++◌, map, reverse, codes, Ok, None, Some, if◌then◌else◌}
use Rattle.mk_name.specs.Names.{Name, same_name}
use Rattle.mk_jobs.specs.Jobs.{Jobs, IsValid}
use Rattle.mk_sched.specs.Stores.{Store}
use Rattle.mk_sched.specs.Events.{Start, Skip, Look, Put, Finish, Event, is_started, phase}
use Rattle.mk_sched.specs.MissingHeader.{by, file, made, source}
use Rattle.mk_sched.specs.Runs.{IsComplete, IsRun}
use Rattle.mk_task.specs.Started.{HasNoOwnNames}
use Rattle.mk_due.specs.Items.{always_node, order_item, order_name}
use Rattle.mk_due.specs.JobsOf.{AreJobsIn}
use Rattle.mk_due.specs.Lines.{Due, DueLine}
use Rattle.mk_due.specs.Running.{IsDue, IsSaid, LetsRest}

-- a text in which an apostrophe stands for each quotation mark
abbrev pub quoted : List ℕ → List ℕ
quoted text = map (λ b. if b == 39 then 34 else b) text

-- `m` always runs; `o` is made of `t`, behind `m`
abbrev pub first_line : List ℕ
first_line = quoted (codes "{'task':'m','after':[],'reads':[],'writes':[]}")

abbrev pub second_line : List ℕ
second_line = quoted (codes "{'task':'o','makes':'o','needs':['t'],'after':['m'],'reads':['t'],'writes':['o']}")

abbrev pub two_lines : List ℕ
two_lines = first_line ++ 10 ∷ second_line

-- the bytes of `m`, `o` and `t`
abbrev pub m : Name
m = 109 ∷ []

abbrev pub o : Name
o = 111 ∷ []

abbrev pub t : Name
t = 116 ∷ []

-- what the second line says
abbrev pub of_source : Due
of_source = record { makes = o; needs = t ∷ [] }

abbrev pub said_second : DueLine
said_second = record {
  task = record { label = o; after = m ∷ []; reads = file t ∷ []; writes = file o ∷ [] };
  due = Some of_source;
}

-- the jobs of both lines, where the listing has `t`
abbrev pub two_tasks : Jobs
two_tasks = record {
  plan = record { nodes = always_node m [] ∷ source t ∷ (order_item 2 o (0 ∷ [])).node ∷ made o (1 ∷ 2 ∷ []) ∷ []; wait_uses = 0 };
  root = codes "/";
  reads = [] ∷ [] ∷ [] ∷ (file t ∷ []) ∷ [];
  writes = [] ∷ [] ∷ [] ∷ (file o ∷ []) ∷ [];
}

-- a tree in which `o` has the time 2, and `t` has this one
abbrev pub old_tree : ℕ → Store
old_tree time x =
    if same_name t x then Some (record { bytes = []; time = time })
    else (if same_name o x then Some (record { bytes = []; time = 2 })
    else (if same_name (order_name o) x then Some (record { bytes = []; time = 0 }) else None))

-- a build in which `o` stays as it is, and one that makes it again
abbrev pub at_rest : List Event
at_rest = reverse (by 0 Start ∷ by 0 Finish ∷ by 1 Skip ∷ by 2 Skip ∷ by 3 Skip ∷ [])

abbrev pub made_again : List Event
made_again =
    reverse (by 0 Start ∷ by 0 Finish ∷ by 1 Skip ∷ by 2 Skip ∷ by 3 Start ∷ by 3 (Look t (Some [])) ∷ by 3 (Put o [] 4) ∷ by 3 Finish ∷ [])

-- all premises are met, of both builds: where `t` is older than `o`, the task of `o` does not run, though `m` does; and where it is newer,
-- the task is due, and runs
pub record RunAgain : Type 0 where
  pub meant : AreJobsIn (codes "/") (t ∷ []) two_lines (Ok two_tasks)
  pub valid : IsValid two_tasks
  pub said : IsSaid (codes "/") two_lines said_second
  pub no_own : (time : ℕ) → HasNoOwnNames (old_tree time)
  pub rests : (time : ℕ) → LetsRest false (old_tree time) said_second
  pub fresh : IsRun two_tasks false 1 (old_tree 1) at_rest
  pub fresh_complete : IsComplete two_tasks at_rest
  pub is_at_rest : is_started (phase at_rest 3) ≡ false
  pub newer : IsRun two_tasks false 1 (old_tree 3) made_again
  pub newer_complete : IsComplete two_tasks made_again
  pub is_due : IsDue two_tasks false (old_tree 3) made_again (Some of_source)
  pub runs : is_started (phase made_again 3) ≡ true
