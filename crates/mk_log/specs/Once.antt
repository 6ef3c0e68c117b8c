-- A law of reading logs.
use Rattle.std.specs.Prelude.{ℕ, ◌≡◌, List, Result}
use Rattle.mk_name.specs.Reported.{Reported}
use Rattle.mk_jobs.specs.Jobs.{Jobs}
use Rattle.mk_log.specs.Logs.{Log}
use Rattle.mk_log.specs.Reading.{IsLogRead}

-- a text has one answer: two that it may have are equal
abbrev pub ReadOnce : Type 0
ReadOnce =
    (jobs : Jobs) (root text : List ℕ) (one other : Result Log Reported)
    → IsLogRead jobs root text one → IsLogRead jobs root text other → one ≡ other
