use Rattle.std.proofs.Common.{◌==◌, None, ap, sym, take}
use Rattle.mk_text.specs.Lexical.{number_sign}
use Rattle.mk_lines.proofs.Piecing.{before-none}
use Rattle.mk_text.proofs.Searches.{any_found, first_found}
use Rattle.mk_lines.proofs.blocks.split_comment.Goals as goal

pub returns-in-Some-clause-before : goal.returns-in-Some-clause-before
returns-in-Some-clause-before c =
    ap (λ n. take n c.args.line.now) (sym (first_found (λ b. b == number_sign) c.args.line.now c.in-Some.end c.in-Some.ensures))

pub returns-in-None-clause-before : goal.returns-in-None-clause-before
returns-in-None-clause-before c =
    sym (before-none (λ b. b == number_sign) c.args.line.now (any_found (λ b. b == number_sign) c.args.line.now None c.in-None.ensures))

pub returns-in-None-clause-there : goal.returns-in-None-clause-there
returns-in-None-clause-there c = sym (any_found (λ b. b == number_sign) c.args.line.now None c.in-None.ensures)
