-- The lines that fix a makefile or tasks, and the text where there are none. Every line ends in a newline.
use Rattle.std.specs.Prelude.{ℕ, ◌≡◌, ◌-◌, ◌<◌, ◌==◌, ◌&&◌, ◌||◌, Bool, true, false, not, List, [], ◌∷◌, ◌++◌, Option, Some, None, codes, get_or, is_ok, length, if◌then◌else◌}
use Rattle.std.specs.List.{flat_map, list_all}
use Rattle.mk_name.specs.Names.{Name}
use Rattle.mk_name.specs.Shown.{kind_line, line, name_line, place_line, shown}
use Rattle.mk_name.specs.Reported.{Reported}
use Rattle.mk_path.specs.declared.path.Path.{Path}
use Rattle.mk_path.specs.Texts.{text_of}
use Rattle.mk_index.specs.Uses.{IsLeastOverlap}
use Rattle.mk_lines.specs.LogicalLines.{text_limit}
use Rattle.mk_text.specs.Spelling.{word_name}
use Rattle.mk_jobs.specs.Jobs.{Clash, Jobs, is_listed, is_phony, maker_of, name_of}
use Rattle.mk_jobs.specs.Reaching.{uses_of}
use Rattle.mk_jobs.specs.declared.maker.Maker.{Maker}
use Rattle.mk_jobs.specs.declared.maker.Maker.TheVariants.{Rule, Inferred, Default, Nothing}
use Rattle.mk_report.specs.ReportText.{label_text, name_text, number_line, writes_whole}
use Rattle.mk_report.specs.declared.fixes.FixLines.{FixLines}
use Rattle.mk_report.specs.declared.fixes.FixLines.TheVariants.{NoRoom, NoWord, Text}
use Rattle.mk_report.specs.declared.fixes.Form.{Form}
use Rattle.mk_report.specs.declared.fixes.Form.TheVariants.{Makefile, Tasks}

-- a name is a word of a makefile
abbrev pub is_makefile_word : Jobs → Name → Bool
is_makefile_word jobs name = is_ok (word_name jobs.root name)

-- so is the name of a node
abbrev pub has_word : Jobs → ℕ → Bool
has_word jobs n = is_makefile_word jobs (name_of jobs n)

-- so it is of both nodes of an edge
abbrev pub has_words : Jobs → ℕ × ℕ → Bool
has_words jobs edge = has_word jobs edge.0 && has_word jobs edge.1

-- a path is written, which this node reads before it
abbrev pub reader_text : Jobs → ℕ → List ℕ → List ℕ
reader_text jobs n path = codes "writes " ++ shown path ++ codes ", which " ++ label_text jobs n ++ codes " reads before it"

-- what the two nodes of an edge do with a path
abbrev pub clash_text : Jobs → ℕ × ℕ → Path → List ℕ
clash_text jobs edge path =
    if writes_whole jobs edge.0 path
    then (if writes_whole jobs edge.1 path then codes "both write " else codes "reads ") ++ shown (text_of path)
    else reader_text jobs edge.0 (text_of path)

-- what a prerequisite that is phony does
abbrev pub phony_text : Jobs → ℕ × ℕ → List ℕ
phony_text jobs edge =
    if is_phony jobs edge.0
    then codes "; " ++ label_text jobs edge.0 ++ codes " is phony, so " ++ label_text jobs edge.1 ++ codes " is made each time"
    else []

-- how a line names a node: for a makefile by its name; for tasks by its label, as it is shown
abbrev pub written_name : Form → Jobs → ℕ → List ℕ
written_name Makefile jobs n = name_of jobs n
written_name Tasks jobs n = label_text jobs n

-- what ends the remark of a line; for tasks nothing does, since each of them always runs
abbrev pub remark_end : Form → Jobs → ℕ × ℕ → List ℕ
remark_end Makefile jobs edge = phony_text jobs edge
remark_end Tasks jobs edge = []

-- the line of an edge: its second node gets its first as a prerequisite; a remark has a path on which they clash
abbrev pub fix_line : Form → Jobs → Path → ℕ × ℕ → List ℕ
fix_line form jobs path edge =
    line (written_name form jobs edge.1 ++ codes ": " ++ written_name form jobs edge.0 ++ codes " # " ++ clash_text jobs edge path ++ remark_end form jobs edge)

-- what stands for an edge: its line, with the least path on which its nodes clash; and nothing where they do not clash
pub record IsFixLine (form : Form) (jobs : Jobs) (edge : ℕ × ℕ) (text : List ℕ) : Type 0 where
  pub given : Clash jobs edge.0 edge.1 → (path : Path) × IsLeastOverlap (uses_of jobs) edge.0 edge.1 path × (text ≡ fix_line form jobs path edge)
  pub left_out : (Clash jobs edge.0 edge.1 → ⊥) → text ≡ []

-- what stands for the edges, in their order
abbrev pub AreFixLines : Form → Jobs → List (ℕ × ℕ) → List ℕ → Type 0
AreFixLines form jobs [] text = text ≡ []
AreFixLines form jobs (edge ∷ edges) text = (own : List ℕ) × (rest : List ℕ)
    × IsFixLine form jobs edge own × AreFixLines form jobs edges rest × (text ≡ own ++ rest)

-- the last line of a makefile is open: no newline ends it, or a backslash stands before that newline
abbrev pub is_open : List ℕ → Bool
is_open makefile = not (get_or makefile (length makefile - 1) 0 == 10) || get_or makefile (length makefile - 2) 0 == 92

-- what ends an open line
abbrev pub gap_text : List ℕ → List ℕ
gap_text makefile = if is_open makefile then codes "\n\n" else []

-- how many lines follow
abbrev pub lines_count : ℕ → List ℕ
lines_count count = number_line (codes "# race fix: lines") count

-- what stands before the lines of so many edges
abbrev pub fix_head : List ℕ → ℕ → List ℕ
fix_head makefile count = gap_text makefile ++ lines_count count

-- the text that goes behind a makefile: nothing where there is no edge
abbrev pub IsFixText : List ℕ → Jobs → List (ℕ × ℕ) → List ℕ → Type 0
IsFixText makefile jobs [] text = text ≡ []
IsFixText makefile jobs (edge ∷ edges) text =
    (lines : List ℕ) × AreFixLines Makefile jobs (edge ∷ edges) lines × (text ≡ fix_head makefile (length (edge ∷ edges)) ++ lines)

-- the text for tasks: nothing where there is no edge
abbrev pub IsTaskLines : Jobs → List (ℕ × ℕ) → List ℕ → Type 0
IsTaskLines jobs [] text = text ≡ []
IsTaskLines jobs (edge ∷ edges) text =
    (lines : List ℕ) × AreFixLines Tasks jobs (edge ∷ edges) lines × (text ≡ lines_count (length (edge ∷ edges)) ++ lines)

-- no text that is read has room for the lines: those of the first edges alone are too long
pub record HasNoRoom (makefile : List ℕ) (jobs : Jobs) (edges : List (ℕ × ℕ)) : Type 0 where
  pub front : List (ℕ × ℕ)
  pub back : List (ℕ × ℕ)
  pub lines : List ℕ
  pub parts : edges ≡ front ++ back
  pub are : AreFixLines Makefile jobs front lines
  pub long : text_limit < length (fix_head makefile (length edges) ++ lines)

-- the lines of edges were put behind an old text: all of them; or those of the first edges, behind which no text that is read has
-- room for more
abbrev pub HasPushed : Jobs → List (ℕ × ℕ) → List ℕ → List ℕ → Bool → Type 0
HasPushed jobs edges old new true = (lines : List ℕ) × AreFixLines Makefile jobs edges lines × (new ≡ old ++ lines)
HasPushed jobs edges old new false =
    (front : List (ℕ × ℕ)) × (back : List (ℕ × ℕ)) × (lines : List ℕ) × (edges ≡ front ++ back) × AreFixLines Makefile jobs front lines
    × (new ≡ old ++ lines) × (text_limit < length new)

-- what the lines of some edges come to: their text; or a name of a node is no word; or there is no room
abbrev pub IsFixLinesOf : List ℕ → Jobs → List (ℕ × ℕ) → FixLines → Type 0
IsFixLinesOf makefile jobs edges (Text text) = IsFixText makefile jobs edges text.items × (list_all (has_words jobs) edges ≡ true)
IsFixLinesOf makefile jobs edges NoWord = list_all (has_words jobs) edges ≡ false
IsFixLinesOf makefile jobs edges NoRoom = HasNoRoom makefile jobs edges

-- what keeps the line of an edge from being just that edge: a name that is no word; a target that .DEFAULT makes, which the line
-- would make a target without commands; a target that is inferred and not listed, which other inference rules would find
abbrev pub maker_obstacle : Maker → Bool → List ℕ
maker_obstacle Rule listed = []
maker_obstacle Inferred listed = if listed then [] else codes " exists"
maker_obstacle Default listed = codes " default"
maker_obstacle Nothing listed = []

-- what keeps it, where it is known whether both names are words
abbrev pub obstacle_of : Jobs → ℕ → Bool → List ℕ
obstacle_of jobs n words = if words then maker_obstacle (maker_of jobs n) (is_listed jobs n) else codes " name"

-- for tasks nothing keeps it
abbrev pub obstacle_text : Form → Jobs → ℕ × ℕ → List ℕ
obstacle_text Makefile jobs edge = obstacle_of jobs edge.1 (has_words jobs edge)
obstacle_text Tasks jobs edge = []

-- the line of an edge that is needed, with its obstacle
abbrev pub need_line : Form → Jobs → ℕ × ℕ → List ℕ
need_line form jobs edge = line (codes "# needs " ++ label_text jobs edge.1 ++ name_text jobs edge.0 ++ obstacle_text form jobs edge)

-- the lines of needed edges, behind the word that nothing is fixed
abbrev pub needs_text : Form → Jobs → List (ℕ × ℕ) → List ℕ
needs_text form jobs edges = line (codes "# not fixed") ++ flat_map (need_line form jobs) edges

-- a line behind a sign, which makes it a comment
abbrev pub behind_sign : List ℕ → List ℕ
behind_sign text = codes "# " ++ text

-- the line of a name of a fault
abbrev pub reported_name : Name → List ℕ
reported_name name = behind_sign (name_line name)

-- why the lines were refused
abbrev pub reported_text : Reported → List ℕ
reported_text reported =
    behind_sign (line (codes "refused")) ++ behind_sign (kind_line reported.kind) ++ behind_sign (place_line reported.source reported.place)
    ++ flat_map reported_name reported.names

abbrev pub refusal_text : Option Reported → List ℕ
refusal_text None = []
refusal_text (Some reported) = reported_text reported

-- the text where the edges are needed, and no lines can add just them
abbrev pub not_fixed_text : Jobs → List (ℕ × ℕ) → Option Reported → List ℕ
not_fixed_text jobs edges refusal = needs_text Makefile jobs edges ++ refusal_text refusal
