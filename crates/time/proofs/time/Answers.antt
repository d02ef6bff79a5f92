use Rattle.std.proofs.Common.{arith, ◌∙◌, sym, ap}
use Rattle.parts.specs.Parts.{state_of}
use Rattle.rules.proofs.Deliveries.{each_delivers}
use Rattle.rules.specs.Deliver.{deliver}
use Rattle.rules.specs.Call.{finish, Answer}
use Rattle.rules.specs.State.{with_waits}
use Rattle.rules.specs.Time.{do_time, overdue, remaining, timeout_entry}
use Rattle.time.proofs.Due.{Turns, with_new, turn, fewer, elapsed, no_waits}
use Rattle.time.proofs.time.Goals as goal

pub returns-then-count-eq0 : goal.returns-then-count-eq0
returns-then-count-eq0 c = no_waits (state_of c.args.parts.now) c.args.ms (omega (arith, c.count.ensures.value))

pub loop-wait-smaller : goal.loop-wait-smaller
loop-wait-smaller c = fewer c.args.ms c.loop-wait.parts c.deliver.new.self c.in-Some.wait c.take_due.new.self c.in-Some.ensures (c.deliver.ensures ∙ ap (deliver (state_of (with_new c.loop-wait.parts c.take_due.new.self)) c.in-Some.wait.owner) c.timed_out.ensures)

pub loop-wait-preserved : goal.loop-wait-preserved
loop-wait-preserved c =
    let a = c.args in
    let l = c.loop-wait in
    let w = c.in-Some.wait in
    let before : Turns a.ms a.parts.now l.parts = record { boxes = l.invariant.boxes; rest = l.invariant.rest; state = l.invariant.state } in
    let told = c.deliver.ensures ∙ ap (deliver (state_of (with_new l.parts c.take_due.new.self)) w.owner) c.timed_out.ensures in
    let t = turn a.ms a.parts.now l.parts c.deliver.new.self w c.take_due.new.self before c.in-Some.ensures told in
    record { boxes = t.boxes; rest = t.rest; state = t.state }

pub returns : goal.returns
unfolding do_time
returns c =
    let a = c.args in
    let s = state_of a.parts.now in
    let l = c.loop-wait in
    let before : Turns a.ms a.parts.now l.parts = record { boxes = l.invariant.boxes; rest = l.invariant.rest; state = l.invariant.state } in
    let all = each_delivers (λ w. w.owner) timeout_entry (with_waits s (remaining a.ms s.waits)) (overdue a.ms s.waits) in
    ap (finish Answer.done) (elapsed a.ms a.parts.now l.parts c.take_due.new.self c.reduced-parts.result before c.in_default.ensures c.reduced-parts.ensures ∙ sym all)
