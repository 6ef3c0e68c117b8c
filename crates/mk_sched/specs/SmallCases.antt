-- Worked cases, computed: files of equal times, and a parallel run put in order.
use Rattle.std.specs.Prelude.{◌≡◌, true, false, List, [], ◌∷◌, reverse, codes, Some, None, if◌then◌else◌}
use Rattle.mk_name.specs.Names.{Name, same_name}
use Rattle.mk_jobs.specs.declared.maker.Maker.TheVariants.{Rule}
use Rattle.mk_jobs.specs.Jobs.{Jobs}
use Rattle.mk_sched.specs.Stores.{Store}
use Rattle.mk_sched.specs.Events.{Skip, Start, Look, Put, Finish, Event}
use Rattle.mk_sched.specs.Runs.{IsRun}
use Rattle.mk_sched.specs.Serial.{serial}
use Rattle.mk_sched.specs.MissingHeader.{file, source, by}

-- `a` is made of `b`
abbrev pub two_files : Jobs
two_files = record {
  plan = record {
    nodes = source (98 ∷ []) ∷ record { name = 97 ∷ []; prerequisites = 0 ∷ []; maker = Rule; phony = false; listed = true } ∷ [];
    wait_uses = 0;
  };
  root = codes "/";
  reads = [] ∷ (file (98 ∷ []) ∷ []) ∷ [];
  writes = [] ∷ (file (97 ∷ []) ∷ []) ∷ [];
}

-- both are there, of the time 5
abbrev pub same_age : Store
same_age x =
    if same_name (97 ∷ []) x then Some (record { bytes = 97 ∷ []; time = 5 })
    else if same_name (98 ∷ []) x then Some (record { bytes = 98 ∷ []; time = 5 }) else None

-- after `b` is skipped, `a` may start with `tie` and may not without; without, it may be skipped
pub record EqualTimes : Type 0 where
  pub with_tie : IsRun two_files true 1 same_age (by 1 Start ∷ by 0 Skip ∷ [])
  pub without_tie : IsRun two_files false 1 same_age (by 1 Start ∷ by 0 Skip ∷ []) → ⊥
  pub skipped : IsRun two_files false 1 same_age (by 1 Skip ∷ by 0 Skip ∷ [])

-- a parallel run of `a.o` (1, of `a.c`, 0), `b.o` (3, of `b.c`, 2) and their link (4), in the order of time
abbrev pub interleaved : Name → Name → Name → Name → List Event
interleaved c_file object other program =
    by 2 Skip ∷ by 3 Start ∷ by 0 Skip ∷ by 1 Start ∷ by 1 (Look c_file (Some (97 ∷ [])))
    ∷ by 3 (Put other (66 ∷ []) 5) ∷ by 1 (Put object (65 ∷ []) 9) ∷ by 1 Finish ∷ by 3 Finish
    ∷ by 4 Start ∷ by 4 (Look object (Some (65 ∷ []))) ∷ by 4 (Put program (112 ∷ []) 10) ∷ by 4 Finish ∷ []

-- the same, node after node, the puts at 2, 3 and 4
abbrev pub in_rising_number : Name → Name → Name → Name → List Event
in_rising_number c_file object other program =
    by 0 Skip ∷ by 1 Start ∷ by 1 (Look c_file (Some (97 ∷ []))) ∷ by 1 (Put object (65 ∷ []) 2) ∷ by 1 Finish
    ∷ by 2 Skip ∷ by 3 Start ∷ by 3 (Put other (66 ∷ []) 3) ∷ by 3 Finish
    ∷ by 4 Start ∷ by 4 (Look object (Some (65 ∷ []))) ∷ by 4 (Put program (112 ∷ []) 4) ∷ by 4 Finish ∷ []

-- where the greatest time of the opening is 1, the serial list of the first is the second
abbrev pub InterleavedInOrder : Type 0
InterleavedInOrder =
    (c_file object other program : Name)
    → serial 1 (reverse (interleaved c_file object other program)) 5 ≡ reverse (in_rising_number c_file object other program)
