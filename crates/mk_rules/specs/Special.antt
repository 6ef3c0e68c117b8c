-- Names with a meaning of their own ("Special Targets", "Inference Rules").
use Rattle.std.specs.Prelude.{ℕ, Bool, false, not, ◌&&◌, ◌||◌, List, [], ◌∷◌, ◌++◌, length, codes, ◌==◌}
use Rattle.std.specs.List.{list_any}
use Rattle.mk_name.specs.Names.{Name, same_name, has}

-- the special targets
abbrev pub special_names : List Name
special_names =
    codes ".DEFAULT" ∷ codes ".IGNORE" ∷ codes ".NOTPARALLEL" ∷ codes ".PHONY" ∷ codes ".POSIX" ∷ codes ".PRECIOUS" ∷ codes ".SCCS_GET" ∷ codes ".SILENT"
    ∷ codes ".SUFFIXES" ∷ codes ".WAIT" ∷ []

abbrev pub is_special : Name → Bool
is_special name = has same_name special_names name

abbrev pub is_wait : Name → Bool
is_wait name = same_name name (codes ".WAIT")

-- one or more bytes, none of them a period or a slash
abbrev pub is_suffix_tail : List ℕ → Bool
is_suffix_tail bs = not (length bs == 0) && not (list_any (λ b. b == 46 || b == 47) bs)

-- a suffix: a period with something behind it in which no other period and no slash stands
abbrev pub is_suffix : Name → Bool
is_suffix [] = false
is_suffix (b ∷ bs) = b == 46 && is_suffix_tail bs

-- two different suffixes of the list, joined
abbrev pub is_pair : List Name → Name → Bool
is_pair suffixes t = list_any (λ a. list_any (λ b. not (same_name a b) && same_name t (a ++ b)) suffixes) suffixes

-- a name that an inference rule can have: one suffix of the list, or two different ones
abbrev pub can_infer : List Name → Name → Bool
can_infer suffixes t = has same_name suffixes t || is_pair suffixes t
