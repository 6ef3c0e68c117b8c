-- What is looked up for sources ("Inference Rules").
use Rattle.std.specs.Prelude.{◌++◌, List}
use Rattle.mk_name.specs.Names.{Name}
use Rattle.mk_rules.specs.Book.{Book, targets_of}
use Rattle.mk_graph.specs.Places.{AreNamePlaces, AreRulePlaces}
use Rattle.mk_graph.specs.declared.index.SourceIndex.{SourceIndex}

-- the names that exist
abbrev pub names_there : Book → List Name → List Name
names_there book listing = listing ++ targets_of book.rules

-- an index of the book's inference rules and of names that exist
pub record IsSourceIndex (book : Book) (listing : List Name) (index : SourceIndex) : Type 0 where
  pub rules : AreRulePlaces book.suffixes book.inference index.rules
  pub names : AreNamePlaces book.suffixes (names_there book listing) index.names
