-- How a log grows by an entry, and by a physical line.
use Rattle.std.specs.Prelude.{ℕ, ◌≡◌, Bool, true, List, [], ◌∷◌, ◌++◌}
use Rattle.mk_jobs.specs.Jobs.{Jobs}
use Rattle.mk_log.specs.Reading.{IsLogOf, entries_of, is_good, may_follow}
use Rattle.mk_log.specs.declared.entry.Entry.{Entry}
use Rattle.mk_log.specs.Logs.{Log}

-- the log of some entries becomes that of the same and one more, if it may follow them
abbrev pub AddsEntry : Log → Entry → Bool → Log → Type 0
AddsEntry old entry follows new =
    (before : List Entry) → IsLogOf before old
    → (follows ≡ may_follow before entry) × (follows ≡ true → IsLogOf (before ++ entry ∷ []) new)

-- the log of some physical lines becomes that of the same and one more, if it is good behind them
abbrev pub AddsLine : Jobs → List ℕ → Log → List ℕ → Bool → Log → Type 0
AddsLine jobs root old text good new =
    (before : List (List ℕ)) → IsLogOf (entries_of jobs root before) old
    → (good ≡ is_good jobs root before text) × (good ≡ true → IsLogOf (entries_of jobs root (before ++ text ∷ [])) new)
