use Rattle.std.proofs.Common.{sym}
use Rattle.mk_sched.proofs.Storing.{agrees, agrees_only}
use Rattle.mk_sched.proofs.store.Store.agrees.Goals as goal

pub returns-then-are_all_in : goal.returns-then-are_all_in
returns-then-are_all_in c = rw (sym c.self.view_is) (
  λ yes. agrees c.self.inside.files.entries c.args.listing.now (c.are_all_in.ensures.0 c.if-are_all_in.true, c.are_listed.ensures.0 yes),
  λ all. c.are_listed.ensures.1 (agrees_only c.self.inside.files.entries c.args.listing.now all).1,
)

pub returns-else-are_all_in : goal.returns-else-are_all_in
returns-else-are_all_in c = rw (sym c.self.view_is) (
  λ yes. absurd (cc (yes, c.if-are_all_in.false)),
  λ all. c.are_all_in.ensures.1 (agrees_only c.self.inside.files.entries c.args.listing.now all).0,
)
