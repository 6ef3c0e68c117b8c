use Rattle.std.proofs.Common.{suc, ◌+◌, ◌*◌, drop, map}
use Rattle.mk_macro.specs.Macros.{macros_of}
use Rattle.mk_include.specs.Includes.{texts_of}
use Rattle.mk_rules.specs.Before.{IsBefore}
use Rattle.mk_rules.specs.Begun.{WordBegun, line_begun}
use Rattle.mk_rules.specs.Placed.{placed}
use Rattle.mk_rules.specs.Reading.{WordSays, line_says, point}
use Rattle.mk_rules.proofs.Beginning.{Reaches}
use Rattle.mk_rules.proofs.Leading.{Comes}
use Rattle.mk_rules.proofs.lines.Reader.+texts.Given as goal

abbrev pub decreases-read_text : goal.decreases-read_text
decreases-read_text l = 6 * l.room

abbrev pub decreases-read_word : goal.decreases-read_word
decreases-read_word l = 6 * l.room + 1

abbrev pub decreases-read_words : goal.decreases-read_words
decreases-read_words l = 6 * l.room + 2

abbrev pub decreases-read_include : goal.decreases-read_include
decreases-read_include l = 6 * l.room + 3

abbrev pub decreases-read_line : goal.decreases-read_line
decreases-read_line l = 6 * l.room + 4

abbrev pub decreases-read_lines : goal.decreases-read_lines
decreases-read_lines l = 6 * l.room + 5

-- what the rest of the lines leads to, all of them do; and what some beginning of the rest leaves, some beginning of all does
abbrev pub invariant-read_lines-loop-i : goal.invariant-read_lines-loop-i
invariant-read_lines-loop-i l = record {
  comes : Comes (line_says l.self.root.now (texts_of l.self.includes.now) (suc l.room)) (point l.fn.so_far.rules.items l.fn.so_far.taken l.fn.macros) (placed l.source l.lines) (point l.so_far.rules.items l.so_far.taken l.macros) (drop l.i (placed l.source l.lines));
  begun : Reaches (line_begun l.self.root.now (texts_of l.self.includes.now) (suc l.room)) (line_says l.self.root.now (texts_of l.self.includes.now) (suc l.room)) (point l.fn.so_far.rules.items l.fn.so_far.taken l.fn.macros) (placed l.source l.lines)
      (point l.so_far.rules.items l.so_far.taken l.macros) (drop l.i (placed l.source l.lines));
}

-- the same of words; and the macros before the line are those at first
abbrev pub invariant-read_words-loop-word : goal.invariant-read_words-loop-word
invariant-read_words-loop-word l = record {
  comes : Comes (WordSays l.self.root.now (texts_of l.self.includes.now) l.hyphen l.room (line_says l.self.root.now (texts_of l.self.includes.now) l.room) l.placed (macros_of l.fn.macros))
      (point l.fn.so_far.rules.items l.fn.so_far.taken l.fn.macros) (map (λ word. word.now) l.words) (point l.so_far.rules.items l.so_far.taken l.macros) (map (λ word. word.now) (drop l.word-index l.words));
  begun : Reaches (WordBegun l.self.root.now (texts_of l.self.includes.now) l.hyphen l.room (line_begun l.self.root.now (texts_of l.self.includes.now) l.room) (line_says l.self.root.now (texts_of l.self.includes.now) l.room) (macros_of l.fn.macros))
      (WordSays l.self.root.now (texts_of l.self.includes.now) l.hyphen l.room (line_says l.self.root.now (texts_of l.self.includes.now) l.room) l.placed (macros_of l.fn.macros))
      (point l.fn.so_far.rules.items l.fn.so_far.taken l.fn.macros) (map (λ word. word.now) l.words) (point l.so_far.rules.items l.so_far.taken l.macros) (map (λ word. word.now) (drop l.word-index l.words));
  before : IsBefore l.before l.macros (macros_of l.fn.macros);
}
