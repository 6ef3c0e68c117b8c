use Rattle.std.proofs.Common.{◌≡◌, ◌+◌, [], length}
use Rattle.std.specs.Option.{option_map_or}
use Rattle.mk_text.specs.Lexical.{physical_lines}
use Rattle.mk_task.specs.Good.{IsTally}
use Rattle.mk_task.specs.Tasks.{tasks_from, tasks_of}
use Rattle.mk_task.proofs.reading.tasks_in.Given as goal

-- the tasks so far, with those of the lines that are left, are all of them
abbrev pub invariant-lines : goal.invariant-lines
invariant-lines l = record {
  tally : IsTally l.tally;
  tasks : tasks_from l.root l.place l.tally.tasks (option_map_or (λ rest. physical_lines rest.now) l.rest []) ≡ tasks_of l.root l.fn.text;
}

abbrev pub decreases-lines : goal.decreases-lines
decreases-lines l = option_map_or (λ rest. length rest.now + 1) l.rest 0
