-- The lines of two texts, read one after the other, and their book.
use Rattle.std.proofs.Common.{ℕ, suc, List, ◌++◌, Result, Ok, Err, refl}
use Rattle.std.specs.Result.{result_map_both}
use Rattle.mk_name.specs.Gives.{Answers, HaltsAmong}
use Rattle.mk_name.specs.declared.fault.Halt.{Halt}
use Rattle.mk_name.specs.declared.fault.Halt.TheVariants as halts
use Rattle.mk_macro.specs.Macros.{Entries, Macros, macros_of}
use Rattle.mk_include.specs.Includes.{IncludeTexts}
use Rattle.mk_rules.specs.Book.{Book, Entry, book_of}
use Rattle.mk_rules.specs.Placed.{Placed}
use Rattle.mk_rules.specs.Reading.{BookSays, EndsAt, Leads, LinesSay, MakefilesSay, Point, Steps, depth_limit, line_says, point, start}
use Rattle.mk_rules.proofs.Leading.{steps_both, steps_stop}

module _ (root : List ℕ) (texts : IncludeTexts) (macros : Macros) (base more : List Placed) where
  -- what ends the base ends both
  pub base_stops : (halt : Halt) (after : Macros) → EndsAt halt after (λ answer. Steps (line_says root texts (suc depth_limit)) (start macros) base answer)
      → HaltsAmong halt (λ answer. LinesSay root texts macros (base ++ more) answer after)
  base_stops halts.Memory after h = tt
  base_stops (halts.Fault fault) after h = steps_stop (line_says root texts (suc depth_limit)) base more (start macros) (record { fault = fault; macros = after }) h

  module _ (between : Point) (first : Steps (line_says root texts (suc depth_limit)) (start macros) base (Ok between)) where
    -- what ends the makefile ends both
    pub more_stops : (halt : Halt) (after : Macros) → EndsAt halt after (λ answer. Steps (line_says root texts (suc depth_limit)) between more answer)
        → HaltsAmong halt (λ answer. LinesSay root texts macros (base ++ more) answer after)
    more_stops halts.Memory after h = tt
    more_stops (halts.Fault fault) after h =
        steps_both (line_says root texts (suc depth_limit)) base more (start macros) between (Err (record { fault = fault; macros = after })) first h

    pub both_read : (entries : List Entry) (taken : ℕ) (after : Entries) → Steps (line_says root texts (suc depth_limit)) between more (Ok (point entries taken after))
        → LinesSay root texts macros (base ++ more) (Ok entries) (macros_of after)
    both_read entries taken after h = (taken, steps_both (line_says root texts (suc depth_limit)) base more (start macros) between (Ok (point entries taken after)) first h)

    -- what the makefile leads to, both do
    pub both_answer : {Y : Type 0} (result : Result Y Halt) (entries : List Entry) (taken : ℕ) (after : Entries) → Leads result (point entries taken after) (λ answer. Steps (line_says root texts (suc depth_limit)) between more answer)
        → Answers (result_map_both (λ _. entries) (λ halt. halt) result) (λ answer. LinesSay root texts macros (base ++ more) answer (macros_of after))
    both_answer (Ok y) entries taken after h = both_read entries taken after h
    both_answer (Err halt) entries taken after h = more_stops halt (macros_of after) h

module _ (root : List ℕ) (texts : IncludeTexts) (macros : Macros) (lines : List Placed) where
  -- what stops the lines stops their book
  pub lines_stop : (halt : Halt) (after : Macros) → HaltsAmong halt (λ answer. LinesSay root texts macros lines answer after)
      → HaltsAmong halt (λ answer. MakefilesSay root texts macros lines answer after)
  lines_stop halts.Memory after h = tt
  lines_stop (halts.Fault fault) after h = (Err fault, h, refl)

  module _ (entries : List Entry) (after : Macros) (read : LinesSay root texts macros lines (Ok entries) after) where
    book_stops : (halt : Halt) → HaltsAmong halt (BookSays (book_of entries)) → HaltsAmong halt (λ answer. MakefilesSay root texts macros lines answer after)
    book_stops halts.Memory h = tt
    book_stops (halts.Fault fault) h = (Ok entries, read, h)

    -- the book of lines that are all read
    pub book_answers : (result : Result Book Halt) → Answers result (BookSays (book_of entries)) → Answers result (λ answer. MakefilesSay root texts macros lines answer after)
    book_answers (Ok book) h = (Ok entries, read, h)
    book_answers (Err halt) h = book_stops halt h
