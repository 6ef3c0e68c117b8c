-- A law of plans: what the goals of a book and a listing lead to is one plan, or one fault except for the choice of a cycle.
use Rattle.std.specs.Prelude.{◌≡◌, ◌⊎◌, List, Result, Ok, Err}
use Rattle.mk_name.specs.Names.{Name}
use Rattle.mk_name.specs.Reported.{Reported}
use Rattle.mk_name.specs.declared.fault.Kind.TheVariants.{Cycle}
use Rattle.mk_rules.specs.Book.{Book}
use Rattle.mk_graph.specs.Answer.{IsAnswer}
use Rattle.mk_jobs.specs.Plan.{Plan}

-- the same fault, or two cycles: a graph may have several, and no rule says which is reported
abbrev pub IsSameFault : Reported → Reported → Type 0
IsSameFault reported other = (reported ≡ other) ⊎ ((reported.kind ≡ Cycle) × (other.kind ≡ Cycle))

-- the same value, or the same fault in this sense
abbrev pub Agree : {X : Type 0} → Result X Reported → Result X Reported → Type 0
Agree (Ok one) (Ok other) = one ≡ other
Agree (Err reported) (Err other) = IsSameFault reported other
Agree (Ok one) (Err reported) = ⊥
Agree (Err reported) (Ok one) = ⊥

-- any two answers agree
abbrev pub PlannedOnce : Type 0
PlannedOnce =
    (book : Book) (listing goals : List Name) (one other : Result Plan Reported)
    → IsAnswer book listing goals one → IsAnswer book listing goals other → Agree one other
