use Rattle.std.proofs.Common.{◌≡◌, ℕ, Bool, Option, sym, ap, subst, inr, arith}
use Rattle.mk_jobs.specs.Jobs.{Jobs}
use Rattle.mk_sched.specs.Refusals.{Finds, Holds, asked}
use Rattle.mk_sched.specs.Standing.{state_of}
use Rattle.mk_sched.specs.Steps.{step_of}
use Rattle.mk_sched.specs.Table.{State}
use Rattle.mk_sched.specs.declared.event.Event.{Event as LogEvent}
use Rattle.mk_sched.specs.declared.refusal.Refusal.{Refusal}
use Rattle.mk_sched.proofs.judge.refusal.Goals as goal

reported : (jobs : Jobs) (tie : Bool) (limit : ℕ) (s : State) (r : Option Refusal) (e other : LogEvent) → other ≡ e
    → Finds (Holds jobs tie limit s (step_of e).node (step_of e).act) (asked (step_of e).act) r
    → Finds (Holds jobs tie limit s (step_of other).node (step_of other).act) (asked (step_of other).act) r
reported jobs tie limit s r e other same finds = subst (λ (x : LogEvent). Finds (Holds jobs tie limit s (step_of x).node (step_of x).act) (asked (step_of x).act) r) (sym same) finds

pub returns-in-Skip : goal.returns-in-Skip
returns-in-Skip c = reported c.args.jobs.now c.args.tie c.args.limit (state_of c.args.state.now.store c.args.state.now.stages.items) _ _ _ c.in-Skip.is
    (inr (λ past. omega (arith, past, c.if-node-count.false, c.node.ensures, c.count.ensures.count, ap (λ (e : LogEvent). (step_of e).node) c.in-Skip.is), c.skip_refusal.ensures c.args.limit))

pub returns-in-Look : goal.returns-in-Look
returns-in-Look c = reported c.args.jobs.now c.args.tie c.args.limit (state_of c.args.state.now.store c.args.state.now.stages.items) _ _ _ c.in-Look.is
    (inr (λ past. omega (arith, past, c.if-node-count.false, c.node.ensures, c.count.ensures.count, ap (λ (e : LogEvent). (step_of e).node) c.in-Look.is), c.look_refusal.ensures c.args.tie c.args.limit))

pub returns-in-Put : goal.returns-in-Put
returns-in-Put c = reported c.args.jobs.now c.args.tie c.args.limit (state_of c.args.state.now.store c.args.state.now.stages.items) _ _ _ c.in-Put.is
    (inr (λ past. omega (arith, past, c.if-node-count.false, c.node.ensures, c.count.ensures.count, ap (λ (e : LogEvent). (step_of e).node) c.in-Put.is), c.put_refusal.ensures c.args.tie c.args.limit c.in-Put._contents))

pub returns-in-Erase : goal.returns-in-Erase
returns-in-Erase c = reported c.args.jobs.now c.args.tie c.args.limit (state_of c.args.state.now.store c.args.state.now.stages.items) _ _ _ c.in-Erase.is
    (inr (λ past. omega (arith, past, c.if-node-count.false, c.node.ensures, c.count.ensures.count, ap (λ (e : LogEvent). (step_of e).node) c.in-Erase.is), c.erase_refusal.ensures c.args.tie c.args.limit))

pub returns-in-Finish : goal.returns-in-Finish
returns-in-Finish c = reported c.args.jobs.now c.args.tie c.args.limit (state_of c.args.state.now.store c.args.state.now.stages.items) _ _ _ c.in-Finish.is
    (inr (λ past. omega (arith, past, c.if-node-count.false, c.node.ensures, c.count.ensures.count, ap (λ (e : LogEvent). (step_of e).node) c.in-Finish.is), c.finish_refusal.ensures c.args.tie c.args.limit))
