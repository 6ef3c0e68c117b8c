-- What files in memory hold.
use Rattle.std.specs.Prelude.{ℕ, Bool, true, false, List, [], ◌∷◌, Option, Some, None, if◌then◌else◌, is_some, length, option_and_then, option_map}
use Rattle.std.specs.Borrow.{Bor}
use Rattle.std.specs.Str.{bytes_eq}
use Rattle.mk_program.specs.Answers.{IsAnswerTo}
use Rattle.mk_files.specs.Files.{Files}
use Rattle.mk_program.specs.declared.statuses.Status.{Status}
use Rattle.program_tests.specs.declared.shelf.Book.{Book}
use Rattle.program_tests.specs.declared.shelf.Page.{Page}
use Rattle.program_tests.specs.declared.shelf.Page.TheVariants as pages

-- the bytes of a page, where it can be read
abbrev pub page_text : Page → Option (List ℕ)
page_text (pages.Text text) = Some text.now
page_text pages.Unreadable = None

-- how many bytes it gives
abbrev pub page_length : Page → ℕ
page_length (pages.Text text) = length text.now
page_length pages.Unreadable = 0

-- the page of the first file with this path
abbrev pub page_at : List Book → List ℕ → Option Page
page_at [] path = None
page_at (book ∷ rest) path = if bytes_eq book.path.now path then Some book.page else page_at rest path

-- what the file of a path holds, where it is there and can be read
abbrev pub text_at : List Book → List ℕ → Option (List ℕ)
text_at books path = option_and_then page_text (page_at books path)

-- a page can be read
abbrev pub is_readable : Page → Bool
is_readable (pages.Text text) = true
is_readable pages.Unreadable = false

-- what is stated of the files with these pages: all there is
abbrev pub files_of : List Book → Files
files_of books = record {
  text = text_at books;
  opens = λ path. Some (is_some (page_at books path));
  reads = λ path. option_map is_readable (page_at books path);
}

-- these words have this answer over what the files hold, with some note
abbrev pub HasAnswer : List (Bor (List ℕ)) → (List ℕ → Option (List ℕ)) → Status → List ℕ → Type 0
HasAnswer words files status answer = (note : List ℕ) × IsAnswerTo words files status answer note
