-- What a call promises that gives the lines of a text, a fault or out of memory.
use Rattle.std.specs.Prelude.{List, Result, Vec}
use Rattle.std.specs.Global.{Global}
use Rattle.std.specs.Result.{result_map_both}
use Rattle.mk_name.specs.Reported.{Reported}
use Rattle.mk_name.specs.Gives.{Gives}
use Rattle.mk_lines.specs.LogicalLine.{LogicalLine}
use Rattle.mk_name.specs.declared.fault.Halt.{Halt}

-- a call gives just these lines or this fault, unless memory ran out
abbrev pub GivesLines : Result (Vec LogicalLine Global) Halt → Result (List LogicalLine) Reported → Type 0
GivesLines result answer = Gives (result_map_both (λ lines. lines.items) (λ halt. halt) result) answer
