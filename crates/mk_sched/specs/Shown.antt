-- How a refusal is reported.
use Rattle.std.specs.Prelude.{ℕ, List, codes}
use Rattle.mk_sched.specs.declared.refusal.Refusal.{Refusal}
use Rattle.mk_sched.specs.declared.refusal.Refusal.TheVariants as refusals

-- the number by which reports show a refusal
abbrev pub number_of : Refusal → ℕ
number_of refusals.NotReady = 1
number_of refusals.NotStale = 2
number_of refusals.Stale = 3
number_of refusals.NoRecipe = 4
number_of refusals.TwicePassed = 5
number_of refusals.NotRunning = 6
number_of refusals.OutsideFootprint = 7
number_of refusals.WrongBytes = 8
number_of refusals.NotNewer = 9
number_of refusals.TooManyJobs = 10
number_of refusals.StoreNotListing = 11
number_of refusals.NoNode = 12

-- the word by which reports show it
abbrev pub word_of : Refusal → List ℕ
word_of refusals.NotReady = codes "NotReady"
word_of refusals.NotStale = codes "NotStale"
word_of refusals.Stale = codes "Stale"
word_of refusals.NoRecipe = codes "NoRecipe"
word_of refusals.TwicePassed = codes "TwicePassed"
word_of refusals.NotRunning = codes "NotRunning"
word_of refusals.OutsideFootprint = codes "OutsideFootprint"
word_of refusals.WrongBytes = codes "WrongBytes"
word_of refusals.NotNewer = codes "NotNewer"
word_of refusals.TooManyJobs = codes "TooManyJobs"
word_of refusals.StoreNotListing = codes "StoreNotListing"
word_of refusals.NoNode = codes "NoNode"
