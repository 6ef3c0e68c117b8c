-- A macro that was looked up.
use Rattle.std.specs.Prelude.{◌≡◌, Option, Some, IfSome}
use Rattle.std.specs.Option.{option_copied}
use Rattle.mk_macro.specs.Macros.{Macros}
use Rattle.mk_macro.specs.declared.recent.Recent.{Recent}

-- where one was, it stands for what the macros say of its name
abbrev pub IsRecent : Macros → Option Recent → Type 0
IsRecent macros last = IfSome last (λ recent. option_copied recent.definition ≡ macros recent.name.now)
