use Rattle.std.proofs.Common.{◌≡◌, true, false, drop, is_some, ap, ◌∙◌, arith, take_all, length-drop}
use Rattle.fast_float.specs.Text.{scan}
use Rattle.serde_json.specs.Read.{number_of, number_from}
use Rattle.mk_json.proofs.Meanings.{minus_read, plain_read}
use Rattle.mk_json.proofs.number.has_value.Goals as goal

pub returns-then-has_minus : goal.returns-then-has_minus
returns-then-has_minus c =
    let s = c.as_bytes-bytes.result.now in
    let parts : c.scan.result ≡ scan (drop 1 s) = c.scan.ensures.parts ∙ ap scan (take_all _ (drop 1 s) (omega (arith, length-drop 1 s))) in
    c.is_valued_below.ensures ∙ ap is_some (ap (number_from true) parts ∙ minus_read s c.if-has_minus.ensures.minus ∙ ap number_of c.as_bytes-bytes.ensures.value)

pub returns-else-has_minus : goal.returns-else-has_minus
returns-else-has_minus c =
    let s = c.as_bytes-bytes.result.now in
    c.is_valued.ensures ∙ ap is_some (ap (number_from false) c.scan-else-has_minus.ensures.parts ∙ plain_read s c.if-has_minus.ensures.minus ∙ ap number_of c.as_bytes-bytes.ensures.value)
