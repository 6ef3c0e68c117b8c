-- Listings that come in pieces: what was taken in of their lines.
use Rattle.std.specs.Prelude.{◌≡◌, ℕ, suc, List, [], Result, Ok}
use Rattle.mk_name.specs.Reported.{Reported}
use Rattle.mk_text.specs.Listing.{names_from, with_names}
use Rattle.mk_text.specs.Spelling.{path_length}

-- the root, and the names of the lines so far
pub record Listed : Type 0 where
  pub root : List ℕ
  pub names : List (List ℕ)

-- the bytes that are kept of a line: one more than a path may have
abbrev pub kept_length : ℕ
kept_length = suc path_length

-- the names that some lines list, each once, or the first fault
abbrev pub listed : List ℕ → List (List ℕ) → Result (List (List ℕ)) Reported
listed root lines = with_names [] (names_from root 1 lines)

-- these are the names of the lines so far
pub record HasListed (root : List ℕ) (sink : Listed) (lines : List (List ℕ)) : Type 0 where
  pub root_is : sink.root ≡ root
  pub names : listed root lines ≡ Ok sink.names
