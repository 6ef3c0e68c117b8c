use Rattle.mk_missing.proofs.checker.Checker.new.Goals as goal

pub invariant_of-result : goal.invariant_of-result
invariant_of-result c = record {
  shape = c.in_ok-always_marks.ensures.shape;
  hearing = c.in_ok-new.ensures;
  always = c.in_ok-always_marks.ensures.marks;
  before = c.in_ok-new-2.ensures;
}

pub returns-clause-shape : goal.returns-clause-shape
returns-clause-shape c = c.in_ok-always_marks.ensures.shape
