use Rattle.std.proofs.Common.{ℕ, Some, None, sym, ap, ◌∙◌, arith}
use Rattle.mk_sched.specs.Stores.{File}
use Rattle.mk_sched.specs.Stored.{StoredFiles, how_many, one_at}
use Rattle.mk_sched.proofs.Storing.{how_many-le, how_many-put, some_has_time, changed}
use Rattle.mk_sched.proofs.store.Store.put.Goals as goal

pub add-requires : goal.add-requires
add-requires c =
    let few = how_many-le c.self.inside.files.entries c.args.time in
    omega (arith, few, c.self.invariant.counted c.args.time, c.len-files.ensures.len, c.len-files.ensures.small)

pub invariant_of-self-in-Ok-None : goal.invariant_of-self-in-Ok-None
invariant_of-self-in-Ok-None c = record {
  in_order = c.insert.ensures.ordered;
  counted = λ t.
      let put = how_many-put c.self.inside.files.entries c.args.name c.new.result None t c.self.invariant.in_order (sym c.in-Ok-None.field-0-is ∙ c.in-Ok-None.ensures.old) in
      let timed = ap (λ (f : File). one_at f.time t) c.new.ensures in
      let entries = ap (λ (files : StoredFiles). how_many files t) c.in-Ok-None.ensures.entries in
      omega (arith, put, timed, entries, c.in_ok-add.ensures.ok t, c.self.invariant.counted t);
}

pub returns-in-Ok-None-clause-ok : goal.returns-in-Ok-None-clause-ok
returns-in-Ok-None-clause-ok c = rw (sym c.new.ensures, sym c.self.view_is) (changed c.self.inside.files.entries c.insert.new.self.entries c.args.name (Some c.new.result) c.in-Ok-None.ensures.updates.0)

pub take-requires : goal.take-requires
take-requires c =
    let some = some_has_time c.self.inside.files.entries c.args.name c.in-Ok-Some.file (sym c.in-Ok-Some.field-0-is ∙ c.in-Ok-Some.ensures.old) in
    rw c.time.ensures (omega (arith, some, c.in_ok-add.ensures.ok c.in-Ok-Some.file.time, c.self.invariant.counted c.in-Ok-Some.file.time))

pub invariant_of-self-in-Ok-Some : goal.invariant_of-self-in-Ok-Some
invariant_of-self-in-Ok-Some c = record {
  in_order = c.insert.ensures.ordered;
  counted = λ t.
      let put = how_many-put c.self.inside.files.entries c.args.name c.new.result (Some c.in-Ok-Some.file) t c.self.invariant.in_order (sym c.in-Ok-Some.field-0-is ∙ c.in-Ok-Some.ensures.old) in
      let timed = ap (λ (f : File). one_at f.time t) c.new.ensures in
      let old = ap (λ (s : ℕ). one_at s t) c.time.ensures in
      let entries = ap (λ (files : StoredFiles). how_many files t) c.in-Ok-Some.ensures.entries in
      omega (arith, put, timed, old, entries, c.take.ensures t, c.in_ok-add.ensures.ok t, c.self.invariant.counted t);
}

pub returns-in-Ok-Some-clause-ok : goal.returns-in-Ok-Some-clause-ok
returns-in-Ok-Some-clause-ok c = rw (sym c.new.ensures, sym c.self.view_is) (changed c.self.inside.files.entries c.insert.new.self.entries c.args.name (Some c.new.result) c.in-Ok-Some.ensures.updates.0)
