-- The report of what keeps jobs from being declared. Every line ends in a newline.
use Rattle.std.specs.Prelude.{ℕ, ◌+◌, ◌&&◌, Bool, true, not, List, [], ◌++◌, Option, Some, None, codes, get_or, length, nat_lt, slice_get, zip, if◌then◌else◌}
use Rattle.std.specs.List.{flat_map}
use Rattle.mk_name.specs.Names.{Name, has, same_name}
use Rattle.mk_name.specs.Shown.{line, shown}
use Rattle.mk_path.specs.declared.path.Path.{Path}
use Rattle.mk_path.specs.Texts.{text_of}
use Rattle.mk_jobs.specs.Jobs.{Jobs, name_of}
use Rattle.mk_jobs.specs.Numbered.{number_of}
use Rattle.mk_jobs.specs.Plan.{names_of}
use Rattle.mk_missing.specs.Watching.{makes_own}
use Rattle.mk_missing.specs.declared.violations.Violations.{Violations}
use Rattle.mk_report.specs.FixText.{has_word, is_makefile_word}
use Rattle.mk_report.specs.ReportText.{counts_text, name_text, number_line}

-- how a line begins: what is wrong, and with which path
abbrev pub path_text : List ℕ → Path → List ℕ
path_text kind path = kind ++ codes " " ++ shown (text_of path) ++ codes " :"

-- a node reads the path
abbrev pub reads_text : Jobs → ℕ → List ℕ
reads_text jobs n = name_text jobs n ++ codes " reads"

-- a node writes it
abbrev pub writes_text : Jobs → ℕ → List ℕ
writes_text jobs n = name_text jobs n ++ codes " writes"

-- its last writer, if there is one
abbrev pub last_text : Jobs → Option ℕ → List ℕ
last_text jobs None = []
last_text jobs (Some w) = writes_text jobs w

-- the name of n and another are words of a makefile
abbrev pub are_words : Jobs → ℕ → Name → Bool
are_words jobs n name = has_word jobs n && is_makefile_word jobs name

-- the line that gives n this prerequisite, where it is wanted and a makefile can have it
abbrev pub add_line : Bool → Jobs → ℕ → Name → List ℕ
add_line wanted jobs n name = if wanted && are_words jobs n name then line (codes "add " ++ name_of jobs n ++ codes ": " ++ name) else []

-- the node, if there is one, has a smaller number than n
abbrev pub is_below : Option ℕ → ℕ → Bool
is_below None n = true
is_below (Some k) n = nat_lt k n

-- a path is a file that is listed, and if a node has its name, that node has a smaller number than n
abbrev pub is_there_for : Jobs → List Name → Path → ℕ → Bool
is_there_for jobs listing path n = not path.tree && has same_name listing path.name && is_below (number_of (names_of jobs.plan.nodes) path.name) n

-- w makes its own file, and has a smaller number than n
abbrev pub is_made_for : Jobs → ℕ → ℕ → Bool
is_made_for jobs w n = nat_lt w n && makes_own jobs w

-- what declares an input that is missing: its last writer as a prerequisite, or, without one, the path itself
abbrev pub missing_add : Jobs → List Name → Path → ℕ → Option ℕ → List ℕ
missing_add jobs listing path n None = add_line (is_there_for jobs listing path n) jobs n path.name
missing_add jobs listing path n (Some w) = add_line (is_made_for jobs w n) jobs n (name_of jobs w)

-- what makes the last writer of a shared file run with n: n as its prerequisite
abbrev pub shared_add : Jobs → ℕ → Option ℕ → List ℕ
shared_add jobs n None = []
shared_add jobs n (Some w) = add_line (makes_own jobs n) jobs w (name_of jobs n)

-- n reads the path, and does not watch it
abbrev pub missing_lines : Jobs → List Name → ℕ → Option ℕ → Path → List ℕ
missing_lines jobs listing n last path = line (path_text (codes "missing") path ++ reads_text jobs n ++ last_text jobs last) ++ missing_add jobs listing path n last

-- n reads the path, and the writer is not before it
abbrev pub late_line : Jobs → ℕ → ℕ → Path → List ℕ
late_line jobs n writer path = line (path_text (codes "late") path ++ reads_text jobs n ++ writes_text jobs writer)

-- n writes the path, and so does its last writer, which does not run with n
abbrev pub shared_lines : Jobs → ℕ → Option ℕ → Path → List ℕ
shared_lines jobs n last path = line (path_text (codes "shared") path ++ writes_text jobs n ++ last_text jobs last) ++ shared_add jobs n last

-- n's file is listed
abbrev pub present_line : Jobs → ℕ → List ℕ
present_line jobs n = line (codes "present" ++ name_text jobs n)

-- so is another file that a recipe writes
abbrev pub output_line : Path → List ℕ
output_line path = line (codes "present " ++ shown (text_of path))

-- the path is a tree that its last writer writes
abbrev pub tree_line : Jobs → Option ℕ → Path → List ℕ
tree_line jobs last path = line (path_text (codes "tree") path ++ last_text jobs last)

-- what is written of a file; nothing where there is none
abbrev pub of_file : Option Path → (Path → List ℕ) → List ℕ
of_file None text = []
of_file (Some path) text = text path

-- the file at a place, and its last writer
abbrev pub file_at : Violations → ℕ → Option Path
file_at found k = slice_get found.files.items k

abbrev pub last_at : Violations → ℕ → Option ℕ
last_at found k = get_or found.last.items k None

-- what is written of a pair of a file's place and a node, by what is wrong with them
abbrev pub missing_pair : Jobs → List Name → Violations → ℕ × ℕ → List ℕ
missing_pair jobs listing found pair = of_file (file_at found pair.0) (missing_lines jobs listing pair.1 (last_at found pair.0))

abbrev pub late_pair : Jobs → Violations → (ℕ × ℕ) × ℕ → List ℕ
late_pair jobs found late = of_file (file_at found late.0.0) (late_line jobs late.0.1 late.1)

abbrev pub shared_pair : Jobs → Violations → ℕ × ℕ → List ℕ
shared_pair jobs found pair = of_file (file_at found pair.0) (shared_lines jobs pair.1 (last_at found pair.0))

-- what is written of the place of a file, by what is wrong with it
abbrev pub output_at : Violations → ℕ → List ℕ
output_at found k = of_file (file_at found k) output_line

abbrev pub tree_at : Jobs → Violations → ℕ → List ℕ
tree_at jobs found k = of_file (file_at found k) (tree_line jobs (last_at found k))

-- how many there are of each kind, how many unlisted inputs and races there are, and the counts
abbrev pub missing_head : Jobs → ℕ → Violations → List ℕ
missing_head jobs races found =
    number_line (codes "missing") (length found.missing.items)
    ++ number_line (codes "late") (length found.late.items)
    ++ number_line (codes "shared") (length found.shared.items)
    ++ number_line (codes "present") (length found.present.items + length found.outputs.items)
    ++ number_line (codes "tree") (length found.trees.items)
    ++ number_line (codes "unlisted") found.unlisted
    ++ number_line (codes "races") races
    ++ counts_text jobs

-- the report of what was found in jobs with this listing and so many races, kind by kind, in the order in which it was found
abbrev pub missing_text : Jobs → List Name → ℕ → Violations → List ℕ
missing_text jobs listing races found =
    missing_head jobs races found
    ++ flat_map (missing_pair jobs listing found) found.missing.items
    ++ flat_map (late_pair jobs found) (zip found.late.items found.late_by.items)
    ++ flat_map (shared_pair jobs found) found.shared.items
    ++ flat_map (present_line jobs) found.present.items
    ++ flat_map (output_at found) found.outputs.items
    ++ flat_map (tree_at jobs found) found.trees.items
