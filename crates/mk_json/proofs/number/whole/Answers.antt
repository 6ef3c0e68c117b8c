use Rattle.std.proofs.Common.{false, drop, option_and_then, sym, ap, ◌∙◌}
use Rattle.fast_float.specs.Text.{scan}
use Rattle.serde_json.specs.Find.{as_u64}
use Rattle.serde_json.specs.Read.{number_of, number_from}
use Rattle.mk_json.proofs.Meanings.{minus_read, none_below, plain_read}
use Rattle.mk_json.proofs.number.whole.Goals as goal

pub returns-then-has_minus : goal.returns-then-has_minus
returns-then-has_minus c =
    let s = c.as_bytes-bytes.result.now in
    sym (none_below (scan (drop 1 s))) ∙ ap (option_and_then as_u64) (minus_read s c.if-has_minus.ensures.minus ∙ ap number_of c.as_bytes-bytes.ensures.value)

pub returns-else-has_minus : goal.returns-else-has_minus
returns-else-has_minus c =
    let s = c.as_bytes-bytes.result.now in
    c.whole_of.ensures ∙ ap (option_and_then as_u64) (ap (number_from false) c.scan.ensures.parts ∙ plain_read s c.if-has_minus.ensures.minus ∙ ap number_of c.as_bytes-bytes.ensures.value)
