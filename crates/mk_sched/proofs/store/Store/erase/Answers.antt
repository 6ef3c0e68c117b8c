use Rattle.std.proofs.Common.{ℕ, Some, None, sym, ap, ◌∙◌, arith}
use Rattle.mk_sched.specs.Stored.{StoredFiles, how_many, one_at}
use Rattle.mk_sched.proofs.Storing.{how_many-erase, some_has_time, changed, taken}
use Rattle.mk_sched.proofs.store.Store.erase.Goals as goal

pub take-requires : goal.take-requires
take-requires c =
    let some = some_has_time c.self.inside.files.entries c.args.name.now c.in-Some.file c.in-Some.ensures.value in
    rw c.time.ensures (omega (arith, some, c.self.invariant.counted c.in-Some.file.time))

pub invariant_of-self : goal.invariant_of-self
invariant_of-self c = record {
  in_order = c.remove.ensures.ordered;
  counted = λ t.
      let left = how_many-erase c.self.inside.files.entries c.args.name.now (Some c.in-Some.file) t c.in-Some.ensures.value in
      let old = ap (λ (s : ℕ). one_at s t) c.time.ensures in
      let entries = ap (λ (files : StoredFiles). how_many files t) c.remove.ensures.entries in
      omega (arith, left, old, entries, c.take.ensures t, c.self.invariant.counted t);
}

pub returns-in-Some : goal.returns-in-Some
returns-in-Some c = rw (sym c.self.view_is) (record {
  stands = changed c.self.inside.files.entries c.remove.new.self.entries c.args.name.now None c.remove.ensures.updates.0;
  files = c.remove.ensures.entries ∙ taken c.self.inside.files.entries c.args.name.now;
})

pub returns-in_default : goal.returns-in_default
returns-in_default c = rw (sym c.self.view_is) (record {
  stands = changed c.self.inside.files.entries c.remove.new.self.entries c.args.name.now None c.remove.ensures.updates.0;
  files = c.remove.ensures.entries ∙ taken c.self.inside.files.entries c.args.name.now;
})
