-- Lines of JSON: what footprints and logs are written in.
use Rattle.std.specs.Prelude.{ℕ, Bool, List, Option, None, Some, option_and_then, ◌==◌, ◌||◌, if◌then◌else◌}
use Rattle.std.specs.List.{list_all}
use Rattle.std.specs.Str.{is_utf8}
use Rattle.serde_json.specs.Data.{Data}
use Rattle.serde_json.specs.Find.{get, as_str}
use Rattle.serde_json.specs.Read.{read}
use Rattle.mk_name.specs.Names.{Name}
use Rattle.mk_text.specs.Spelling.{is_path, plain_name}

-- no byte but spaces, tabs and carriage returns
abbrev pub is_blank : List ℕ → Bool
is_blank text = list_all (λ b. b == 32 || b == 9 || b == 13) text

-- what a text of JSON means: it has to be UTF-8
abbrev pub value_of : List ℕ → Option Data
value_of text = if is_utf8 text then read text else None

-- the name that a text spells, if it is a path
abbrev pub path_named : List ℕ → List ℕ → Option Name
path_named root text = if is_path text then Some (plain_name root text) else None

-- the name that the text under a key of an object spells
abbrev pub path_under : List ℕ → List ℕ → Data → Option Name
path_under root key d = option_and_then (path_named root) (option_and_then as_str (get key d))
