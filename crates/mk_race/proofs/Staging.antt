-- One stage after another.
use Rattle.std.proofs.Common.{◌≡◌, ℕ, Bool, List, Ok, Err, Result, refl, subst}
use Rattle.mk_name.specs.Names.{Name}
use Rattle.mk_name.specs.Reported.{Reported}
use Rattle.mk_name.specs.Gives.{HaltsAmong}
use Rattle.mk_name.specs.declared.fault.Halt.{Halt}
use Rattle.mk_name.specs.declared.fault.Halt.TheVariants as halts
use Rattle.mk_include.specs.Includes.{IncludeTexts}
use Rattle.mk_macro.specs.Macros.{Macros}
use Rattle.mk_rules.specs.Book.{Book}
use Rattle.mk_graph.specs.Answer.{IsAnswer}
use Rattle.mk_graph.specs.Answer.{goals_of as goals_or_default}
use Rattle.mk_log.specs.Logs.{Log}
use Rattle.mk_log.specs.Reading.{IsLogRead}
use Rattle.mk_race.specs.Played.{IsOutcome, IsPlayedOn}
use Rattle.mk_race.specs.Stages.{IsBookOf, IsGraphed, Texts}
use Rattle.mk_race.specs.declared.preparing.Prepared.{Prepared}
use Rattle.mk_race.specs.declared.replaying.Played.{Played}

-- a halt of the plan is one of the book and the plan
pub not_planned : (texts : Texts) (root : List ℕ) (goals : List Name) (included : IncludeTexts) (macros : Macros) (listed : List Name) (book : Book) (halt : Halt)
    → IsBookOf texts root included macros (Ok book) → HaltsAmong halt (IsAnswer book listed (goals_or_default book goals))
    → HaltsAmong halt (IsGraphed texts root goals included macros listed)
not_planned texts root goals included macros listed book halts.Memory is h = tt
not_planned texts root goals included macros listed book (halts.Fault reported) is h = (Ok book, is, (Err reported, h, refl))

-- and so is one of the book
pub no_book : (texts : Texts) (root : List ℕ) (goals : List Name) (included : IncludeTexts) (macros : Macros) (listed : List Name) (halt : Halt)
    → HaltsAmong halt (IsBookOf texts root included macros) → HaltsAmong halt (IsGraphed texts root goals included macros listed)
no_book texts root goals included macros listed halts.Memory h = tt
no_book texts root goals included macros listed (halts.Fault reported) h = (Err reported, h, refl)

module _ (prepared : Prepared) (log : List ℕ) (limit : ℕ) (tie : Bool) where
  -- a halt of the log is one of the whole
  pub log_unread : (halt : Halt) → HaltsAmong halt (IsLogRead prepared.jobs prepared.root log) → HaltsAmong halt (IsPlayedOn prepared log limit tie)
  log_unread halts.Memory h = tt
  log_unread (halts.Fault reported) h = (Err reported, h, refl)

  -- what the events come to is what comes of the whole
  pub played : (inside read : Log) (answer : Result Played Reported) → inside ≡ read → IsLogRead prepared.jobs prepared.root log (Ok read)
      → IsOutcome prepared.jobs prepared.listing limit tie inside answer → IsPlayedOn prepared log limit tie answer
  played inside read answer same r h =
      (Ok read, r, subst (λ (l : Log). IsOutcome prepared.jobs prepared.listing limit tie l answer) same h)
