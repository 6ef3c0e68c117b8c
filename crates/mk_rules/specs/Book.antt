-- The book of rules ("Target Rules", "Inference Rules", "Special Targets"), read off the list of all entries of the makefiles.
use Rattle.std.specs.Prelude.{ℕ, ◌-◌, ◌^◌, ◌&&◌, ◌||◌, Bool, false, not, List, [], ◌∷◌, Option, None, map, filter, find, position, take, slice_get, get_or, length, codes, min, ◌==◌, nat_eq, if◌then◌else◌}
use Rattle.std.specs.List.{enumerate_from, filter_map, flat_map, list_any, starts_with}
use Rattle.std.specs.Option.{option_map}
use Rattle.mk_name.specs.Names.{Name, same_name, has, firsts}
use Rattle.mk_name.specs.declared.fault.Source.{Source}
use Rattle.mk_rules.specs.Special.{is_special, is_wait, is_suffix, can_infer}

-- an entry: the text and the line where it stands, its targets, each once, its prerequisites as they are written, and
-- whether it has commands
pub record Entry : Type 0 where
  pub source : Source
  pub line : ℕ
  pub targets : List Name
  pub prerequisites : List Name
  pub has_commands : Bool

-- an entry without targets has no effect
abbrev pub has_targets : Entry → Bool
has_targets e = not (length e.targets == 0)

-- the entry names it as a target
abbrev pub names_target : Name → Entry → Bool
names_target t e = has same_name e.targets t

-- the entry gives the name commands
abbrev pub gives_commands : Name → Entry → Bool
gives_commands t e = names_target t e && e.has_commands

-- without prerequisites, `.SUFFIXES` clears the list
abbrev pub clears : Entry → Bool
clears e = length e.prerequisites == 0

-- what stands behind the last entry that clears
abbrev pub behind_last_clear : List Entry → List Entry
behind_last_clear [] = []
behind_last_clear (e ∷ es) = if list_any clears (e ∷ es) then behind_last_clear es else e ∷ es

-- the list of suffixes in the end: what `.SUFFIXES` names since it was last cleared, each where it first stands
abbrev pub suffixes_of : List Entry → List Name
suffixes_of entries =
    firsts same_name (filter is_suffix (flat_map (λ e. e.prerequisites) (behind_last_clear (filter (names_target (codes ".SUFFIXES")) entries))))

-- a single target that an inference rule can have; a special name is none
abbrev pub is_inference_target : List Name → List Name → Bool
is_inference_target suffixes [] = false
is_inference_target suffixes (t ∷ []) = not (is_special t) && can_infer suffixes t
is_inference_target suffixes (t ∷ u ∷ ts) = false

-- an inference rule: commands, no prerequisites, and such a target
abbrev pub is_inference_rule : List Name → Entry → Bool
is_inference_rule suffixes e = e.has_commands && length e.prerequisites == 0 && is_inference_target suffixes e.targets

-- a target rule is every other entry without a special target
abbrev pub is_target_rule : List Name → Entry → Bool
is_target_rule suffixes e = has_targets e && not (list_any is_special e.targets) && not (is_inference_rule suffixes e)

-- `.WAIT` is no prerequisite of a target
abbrev pub without_waits : Entry → Entry
without_waits e = record e { prerequisites = filter (λ p. not (is_wait p)) e.prerequisites }

abbrev pub target_rules : List Entry → List Entry
target_rules entries = map without_waits (filter (is_target_rule (suffixes_of entries)) entries)

-- how often entries with targets name `.WAIT` as a prerequisite; what would pass the greatest count stays there
abbrev pub waits_of : List Entry → ℕ
waits_of entries = min (length (filter is_wait (flat_map (λ e. e.prerequisites) (filter has_targets entries)))) (2 ^ 64 - 1)

-- what the entries say: the target rules in their order, the list of suffixes, the names of inference rules, the phony
-- names, whether `.DEFAULT` has commands, and the uses of `.WAIT`
pub record Book : Type 0 where
  pub rules : List Entry
  pub suffixes : List Name
  pub inference : List Name
  pub phony : List Name
  pub has_default : Bool
  pub wait_uses : ℕ

abbrev pub book_of : List Entry → Book
book_of entries = record {
  rules = target_rules entries;
  suffixes = suffixes_of entries;
  inference = firsts same_name (flat_map (λ e. e.targets) (filter (is_inference_rule (suffixes_of entries)) entries));
  phony = firsts same_name (flat_map (λ e. e.prerequisites) (filter (names_target (codes ".PHONY")) entries));
  has_default = list_any (gives_commands (codes ".DEFAULT")) entries;
  wait_uses = waits_of entries;
}

-- all targets of some target rules, each where it first stands
abbrev pub targets_of : List Entry → List Name
targets_of rules = firsts same_name (flat_map (λ e. e.targets) rules)

-- the prerequisites of a name: those of all its target rules joined, each where it first stands
abbrev pub prerequisites_of : List Entry → Name → List Name
prerequisites_of rules t = firsts same_name (flat_map (λ e. e.prerequisites) (filter (names_target t) rules))

-- the places of the rules that name it as a target, rising
abbrev pub places_of : List Entry → Name → List ℕ
places_of rules t = map (λ e. e.0) (filter (λ e. names_target t e.1) (enumerate_from 0 rules))

-- the rule at a place has commands
abbrev pub commands_at : List Entry → ℕ → Bool
commands_at rules place = get_or (map (λ e. e.has_commands) rules) place false

-- a target rule names it
abbrev pub is_target : List Entry → Name → Bool
is_target rules t = list_any (names_target t) rules

-- a target rule of it has commands
abbrev pub has_recipe : List Entry → Name → Bool
has_recipe rules t = list_any (gives_commands t) rules

-- the place of the first rule that gives it commands
abbrev pub recipe_place : List Entry → Name → Option ℕ
recipe_place rules t = position (gives_commands t) rules

-- the name may be the default goal: its first byte is no period, or a slash stands in it
abbrev pub may_be_goal : Name → Bool
may_be_goal t = not (starts_with nat_eq t (46 ∷ [])) || list_any (λ b. b == 47) t

-- the first target that may be it
abbrev pub default_goal : List Entry → Option Name
default_goal rules = find may_be_goal (targets_of rules)

-- the first target of a rule at a place to which it gives commands, and a rule before it too
abbrev pub second_target : List Entry → ℕ × Entry → Option Name
second_target rules e = if e.1.has_commands then find (has_recipe (take e.0 rules)) e.1.targets else None

-- the place of the first rule with such a target, and the target
abbrev pub second_recipe : List Entry → Option (ℕ × Name)
second_recipe rules = slice_get (filter_map (λ e. option_map (λ t. (e.0, t)) (second_target rules e)) (enumerate_from 0 rules)) 0

abbrev pub is_phony : Book → Name → Bool
is_phony book t = has same_name book.phony t

-- the name of an inference rule
abbrev pub has_inference : Book → Name → Bool
has_inference book t = has same_name book.inference t
