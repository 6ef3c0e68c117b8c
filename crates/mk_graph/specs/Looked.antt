-- What a book of rules and a listing say of a name.
use Rattle.std.specs.Prelude.{Bool, ℕ, List}
use Rattle.mk_name.specs.Names.{Name, same_name, has}
use Rattle.mk_rules.specs.Book.{Book, is_phony, places_of}

-- the places of the rules that name it as a target, whether it is phony, whether the listing has it
pub record Looked : Type 0 where
  pub rules : List ℕ
  pub phony : Bool
  pub listed : Bool

abbrev pub looked_of : Book → List Name → Name → Looked
looked_of book listing t = record { rules = places_of book.rules t; phony = is_phony book t; listed = has same_name listing t }
