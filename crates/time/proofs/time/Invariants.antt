use Rattle.std.proofs.Common.{◌≡◌, length}
use Rattle.parts.specs.Parts.{state_of}
use Rattle.rules.specs.State.{with_inboxes, with_waits}
use Rattle.rules.specs.Time.{overdue}
use Rattle.time.proofs.Due.{others}
use Rattle.time.specs.Time.{timed_out_all}
use Rattle.waits.specs.Waits.{waits_of}
use Rattle.time.proofs.time.Given as goal

abbrev pub invariant-loop-wait : goal.invariant-loop-wait
invariant-loop-wait l = record {
  boxes : timed_out_all (state_of l.parts).inboxes (overdue l.ms (waits_of l.parts.waits)) ≡ timed_out_all (state_of l.initial.parts).inboxes (overdue l.ms (waits_of l.initial.parts.waits));
  rest : others l.ms (waits_of l.parts.waits) ≡ others l.ms (waits_of l.initial.parts.waits);
  state : state_of l.parts ≡ with_inboxes (with_waits (state_of l.initial.parts) (waits_of l.parts.waits)) (state_of l.parts).inboxes;
}

abbrev pub decreases-loop-wait : goal.decreases-loop-wait
decreases-loop-wait l = length (overdue l.ms (waits_of l.parts.waits))
