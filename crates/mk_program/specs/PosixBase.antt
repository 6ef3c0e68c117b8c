-- The base makefile that the standard lists, as a text.
use Rattle.std.specs.Prelude.{ℕ, List, [], ◌∷◌, codes}
use Rattle.std.specs.List.{flat_map}
use Rattle.mk_name.specs.Shown.{line}

-- a line of commands, which begins with a tab
abbrev pub command : List ℕ → List ℕ
command text = 9 ∷ text

-- the lines of the text
unfoldable pub posix_lines : List (List ℕ)
posix_lines =
    codes "# The default rules of POSIX.1-2024 make (XCU make, \"Default Rules\"): the base makefile of `race .. --posix-base`."
    ∷ codes "# The commands are never read by race; they stand here so that a make can run this file too."
    ∷ codes "#"
    ∷ codes "# Left out, since race does not read it: the rules and suffixes of SCCS files (.c~ .y~ .l~ .sh~) with the macros GET,"
    ∷ codes "# GFLAGS, SCCSFLAGS and SCCSGETFLAGS. Members of archives, lib(member), are not read either: the rule .c.a stands here"
    ∷ codes "# for plain names alone. POSIX.1-2024 has no Fortran compiler, so there are no rules of .f."
    ∷ codes "#"
    ∷ codes "# Inference takes one step: prog comes from prog.c if that is listed or a target, but not by way of a prog.c that"
    ∷ codes "# would first be made from prog.y."
    ∷ codes ""
    ∷ codes "# suffixes and macros"
    ∷ codes ""
    ∷ codes ".SUFFIXES: .o .c .y .l .a .sh"
    ∷ codes ""
    ∷ codes "MAKE=make"
    ∷ codes "AR=ar"
    ∷ codes "ARFLAGS=-rv"
    ∷ codes "YACC=yacc"
    ∷ codes "YFLAGS="
    ∷ codes "LEX=lex"
    ∷ codes "LFLAGS="
    ∷ codes "LDFLAGS="
    ∷ codes "CC=c17"
    ∷ codes "CFLAGS=-O 1"
    ∷ codes ""
    ∷ codes "# single suffix rules"
    ∷ codes ""
    ∷ codes ".c:"
    ∷ command (codes "$(CC) $(CFLAGS) $(LDFLAGS) -o $@ $<")
    ∷ codes ""
    ∷ codes ".sh:"
    ∷ command (codes "cp $< $@")
    ∷ command (codes "chmod a+x $@")
    ∷ codes ""
    ∷ codes "# double suffix rules"
    ∷ codes ""
    ∷ codes ".c.o:"
    ∷ command (codes "$(CC) $(CFLAGS) -c $<")
    ∷ codes ""
    ∷ codes ".y.o:"
    ∷ command (codes "$(YACC) $(YFLAGS) $<")
    ∷ command (codes "$(CC) $(CFLAGS) -c y.tab.c")
    ∷ command (codes "rm -f y.tab.c")
    ∷ command (codes "mv y.tab.o $@")
    ∷ codes ""
    ∷ codes ".l.o:"
    ∷ command (codes "$(LEX) $(LFLAGS) $<")
    ∷ command (codes "$(CC) $(CFLAGS) -c lex.yy.c")
    ∷ command (codes "rm -f lex.yy.c")
    ∷ command (codes "mv lex.yy.o $@")
    ∷ codes ""
    ∷ codes ".y.c:"
    ∷ command (codes "$(YACC) $(YFLAGS) $<")
    ∷ command (codes "mv y.tab.c $@")
    ∷ codes ""
    ∷ codes ".l.c:"
    ∷ command (codes "$(LEX) $(LFLAGS) $<")
    ∷ command (codes "mv lex.yy.c $@")
    ∷ codes ""
    ∷ codes ".c.a:"
    ∷ command (codes "$(CC) -c $(CFLAGS) $<")
    ∷ command (codes "$(AR) $(ARFLAGS) $@ $*.o")
    ∷ command (codes "rm -f $*.o")
    ∷ []

unfoldable pub posix_base : List ℕ
posix_base = flat_map line posix_lines
