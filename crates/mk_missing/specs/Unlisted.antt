-- Unlisted files: a recipe reads or looks for the file, no recipe makes it, and the listing does not have it.
use Rattle.std.specs.Prelude.{◌&&◌, not, Bool, List}
use Rattle.std.specs.List.{list_any}
use Rattle.mk_name.specs.Names.{Name, has, same_name}
use Rattle.mk_path.specs.declared.path.Path.{Path}
use Rattle.mk_path.specs.Paths.{covered}
use Rattle.mk_jobs.specs.Jobs.{Jobs}

-- a path is the file of this name
abbrev pub is_file_of : Name → Path → Bool
is_file_of x p = not p.tree && same_name p.name x

-- a recipe looks for the file of this name
abbrev pub is_sought : Jobs → Name → Bool
is_sought jobs x = list_any (λ (paths : List Path). list_any (is_file_of x) paths) jobs.reads

-- a recipe writes the name
abbrev pub is_made : Jobs → Name → Bool
is_made jobs x = list_any (λ (paths : List Path). covered jobs.root paths x) jobs.writes

-- the unlisted names: a recipe looks for the file, none writes it, and the listing does not have it
abbrev pub unlisted_names : Jobs → List Name → Name → Bool
unlisted_names jobs listing x = is_sought jobs x && not (is_made jobs x) && not (has same_name listing x)

-- a path is a file whose name is unlisted
abbrev pub is_unlisted : Jobs → List Name → Path → Bool
is_unlisted jobs listing p = not p.tree && unlisted_names jobs listing p.name
