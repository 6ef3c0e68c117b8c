-- How labels find the number of a name.
use Rattle.std.specs.Prelude.{◌≡◌, ℕ, List}
use Rattle.std.specs.BTreeMap.{get}
use Rattle.std.specs.declared.collections.BTreeMap.{BTreeMap}
use Rattle.std.specs.Global.{Global}
use Rattle.std.specs.Cmp.Lexicographic.{slice_cmp}
use Rattle.std.specs.Ordering.{nat_cmp}
use Rattle.mk_name.specs.Names.{Name}
use Rattle.mk_jobs.specs.Numbered.{number_of}

-- the index has the number of each name
abbrev pub AreNumbered : List Name → BTreeMap Name ℕ Global → Type 0
AreNumbered names numbers = (x : Name) → get (slice_cmp nat_cmp) numbers x ≡ number_of names x
