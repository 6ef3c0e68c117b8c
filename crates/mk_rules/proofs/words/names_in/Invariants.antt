use Rattle.std.proofs.Common.{◌≡◌, None, map, take}
use Rattle.mk_text.specs.Spelling.{plain_name}
use Rattle.mk_rules.specs.Words.{refused_word}
use Rattle.mk_rules.proofs.words.names_in.Given as goal

-- the words so far spell these names
abbrev pub invariant-loop-word : goal.invariant-loop-word
invariant-loop-word l = record {
  names : l.names.items ≡ map (plain_name l.root) (map (λ word. word.now) (take l.word-index l.word-items));
  good : refused_word (map (λ word. word.now) (take l.word-index l.word-items)) ≡ None;
}
