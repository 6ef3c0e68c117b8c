-- Who makes a name, and what the name needs ("Target Rules", "Inference Rules", `.DEFAULT` of "Special Targets").
use Rattle.std.specs.Prelude.{◌&&◌, ◌||◌, ◌++◌, ◌-◌, not, Bool, true, false, List, [], Option, None, find, is_some, length, take, if◌then◌else◌}
use Rattle.std.specs.Option.{option_map, option_to_list}
use Rattle.mk_name.specs.Names.{Name, same_name, has, kept}
use Rattle.mk_rules.specs.Book.{Book, has_recipe, has_inference, is_phony, is_target, prerequisites_of}
use Rattle.mk_graph.specs.Suffix.{suffix_of}
use Rattle.mk_jobs.specs.declared.maker.Maker.{Maker}
use Rattle.mk_jobs.specs.declared.maker.Maker.TheVariants.{Rule, Inferred, Default, Nothing}

-- a name that exists: the listing has it, or it is a target of a target rule
abbrev pub is_there : Book → List Name → Name → Bool
is_there book listing t = has same_name listing t || is_target book.rules t

-- the suffix that inference changes: the name's own, if the list has it; else none
abbrev pub old_suffix : Book → Name → Name
old_suffix book t = if has same_name book.suffixes (suffix_of t) then suffix_of t else []

-- the name with a new suffix in place of the old one
abbrev pub with_suffix : Name → Name → Name → Name
with_suffix t old new = take (length t - length old) t ++ new

-- there are both an inference rule from the new suffix to the old one and the name with the new suffix
abbrev pub can_serve : Book → List Name → Name → Name → Name → Bool
can_serve book listing t old new = has_inference book (new ++ old) && is_there book listing (with_suffix t old new)

-- the name with the first of the suffixes that can serve
abbrev pub source_by : Book → List Name → Name → Name → List Name → Option Name
source_by book listing t old suffixes = option_map (with_suffix t old) (find (can_serve book listing t old) suffixes)

-- the source that an inference rule makes a name from; a phony name has none
abbrev pub source_of : Book → List Name → Name → Option Name
source_of book listing t = if is_phony book t then None else source_by book listing t (old_suffix book t) book.suffixes

-- inference serves only a name for which no target rule has commands
abbrev pub inferred_source : Book → List Name → Name → Option Name
inferred_source book listing t = if has_recipe book.rules t then None else source_of book listing t

-- what a name needs: its prerequisites, and the inferred source last, unless it is there
abbrev pub needs : Book → List Name → Name → List Name
needs book listing t = kept same_name (prerequisites_of book.rules t) (option_to_list (inferred_source book listing t))

-- the name is neither phony nor a target nor listed
abbrev pub is_unknown : Book → List Name → Name → Bool
is_unknown book listing t = not (is_phony book t) && not (is_target book.rules t) && not (has same_name listing t)

-- first a target rule with commands, then an inference rule, then `.DEFAULT` for an unknown name
abbrev pub maker_of : Book → List Name → Name → Maker
maker_of book listing t =
    if has_recipe book.rules t then Rule
    else if is_some (source_of book listing t) then Inferred
    else if book.has_default && is_unknown book listing t then Default
    else Nothing

abbrev pub is_nothing : Maker → Bool
is_nothing Nothing = true
is_nothing Rule = false
is_nothing Inferred = false
is_nothing Default = false

-- nothing makes the name, and it is unknown
abbrev pub is_unmade : Book → List Name → Name → Bool
is_unmade book listing t = is_nothing (maker_of book listing t) && is_unknown book listing t
