use Rattle.std.proofs.Common.{ap, ◌∙◌, ◌≡◌, map, List, Option, Some, None, option_map, unwrap_or, codes, [], refl}
use Rattle.clap.specs.Words.{Text, found_of}
use Rattle.clap.proofs.WalkLemmas.{first_value-rows, raw_values-rows}
use Rattle.std.specs.Borrow.{Bor}
use Rattle.mk_request.proofs.Values.{text_is}
use Rattle.mk_request.specs.CommandLine as spec
use Rattle.mk_request.proofs.words.build_args.Goals as goal

abbrev texts : List (Bor Text) → List Text
texts = map (λ (s : Bor Text). s.now)

list_or : (o : Option (Bor (List (Bor Text)))) (d : Bor (List (Bor Text))) → d.now ≡ []
    → texts (unwrap_or o d).now ≡ unwrap_or (option_map (λ (s : Bor (List (Bor Text))). texts s.now) o) []
list_or None d e = ap texts e
list_or (Some s) d e = refl

pub returns : goal.returns
returns c =
    let found = found_of c.args.found.now in
    record {
      includes = c.get_str.ensures ∙ first_value-rows found (codes "includes");
      base = c.get_str-2.ensures ∙ first_value-rows found (codes "base");
      posix_base = c.is_true.ensures ∙ ap spec.is_true (c.get_str-3.ensures ∙ first_value-rows found (codes "posix-base"));
      makefile = text_is _ _ _ found (codes "makefile") c.unwrap_or.ensures refl c.get_str-4.ensures;
      listing = text_is _ _ _ found (codes "listing") c.unwrap_or-2.ensures refl c.get_str-5.ensures;
      root = text_is _ _ _ found (codes "root") c.unwrap_or-3.ensures refl c.get_str-6.ensures;
      operands = ap texts (c.in_ok-from_slice.ensures.items ∙ ap (λ (x : Bor (List (Bor Text))). x.now) c.unwrap_or-4.ensures) ∙ list_or c.get_strs.result _ refl
          ∙ ap (λ (x : Option (List Text)). unwrap_or x []) (c.get_strs.ensures ∙ raw_values-rows found (codes "operands"));
      quiet = c.is_set.ensures;
    }
