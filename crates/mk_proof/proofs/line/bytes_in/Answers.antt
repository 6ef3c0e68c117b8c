use Rattle.std.proofs.Common.{◌≡◌, Ok, Err, refl, length, ap, sym, ◌∙◌, arith, rules}
use Rattle.std.proofs.lemmas.Bool.{both_ways, eqb-false, eqb-true, not-false, not-true}
use Rattle.std.proofs.lemmas.Bool.Decides.{Decides-eqb}
use Rattle.std.proofs.lemmas.Slice.Eq.{slice_eq-Decides}
use Rattle.std.specs.Vec.{vec_len}
use Rattle.hex.proofs.HexLemmas.{decode_of-encode_lower, decode_of-same}
use Rattle.hex.specs.Hex.{decode_of, encode_lower}
use Rattle.mk_proof.proofs.Found.{decoded_bytes, not_decoded}
use Rattle.mk_proof.proofs.line.bytes_in.Goals as goal
use Rattle.mk_proof.proofs.line.bytes_in.Goals.{then-is_empty-via-then-is_empty, then-is_empty-via-else-is_empty+then-ne}

pub returns-in-Err : goal.returns-in-Err
returns-in-Err c = λ path fits is.
    let bad : decode_of c.args.text.now ≡ Err c.in-Err.field-0 = search rules in
    not_decoded c.args.text.now path c.in-Err.field-0 fits.1 is bad

pub returns-then-is_empty : goal.returns-then-is_empty
returns-then-is_empty c = λ path fits is.
    let decodes : decode_of c.args.text.now ≡ Ok path = ap decode_of (sym is) ∙ decode_of-encode_lower path fits.1 in
    let same : c.in-Ok.bytes.items ≡ path = decode_of-same c.args.text.now c.in-Ok.bytes.items path c.in-Ok.ensures.ok decodes in
    elim c.then-is_empty.branch [
      | then-is_empty-via-then-is_empty w ↦ let none = eqb-true (vec_len c.in-Ok.bytes) 0 (sym w.if-is_empty.ensures) in omega (arith, none, ap length same, fits.0, c.in-Ok.bytes.ok.0)
      | then-is_empty-via-else-is_empty+then-ne w ↦
          let spelled : w.as_bytes.result.now ≡ c.args.text.now =
          w.as_bytes.ensures.value ∙ c.in_ok-spelled.ensures ∙ ap encode_lower (c.as_slice.ensures.value ∙ same) ∙ is in
          both_ways _ (not-true _ (sym w.if-ne.ensures)) ((slice_eq-Decides Decides-eqb w.as_bytes.result.now c.args.text.now _ refl).1 spelled)
    ]

pub returns : goal.returns
returns c =
    let some = eqb-false (vec_len c.in-Ok.bytes) 0 (sym c.if-is_empty.ensures) in (
      (omega (arith, c.in-Ok.bytes.ok.0, some), decoded_bytes c.args.text.now c.in-Ok.bytes.items c.in-Ok.ensures.ok),
      ap encode_lower (sym c.as_slice.ensures.value) ∙ sym c.in_ok-spelled.ensures ∙ sym c.as_bytes.ensures.value
          ∙ (slice_eq-Decides Decides-eqb c.as_bytes.result.now c.args.text.now _ refl).0 (not-false _ (sym c.if-ne.ensures)),
    )
