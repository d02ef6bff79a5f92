use Rattle.std.proofs.Common.{◌≡◌}
use Rattle.queue.specs.Ring.{closed_slots, with_slots}
use Rattle.queue.proofs.ring.close.Given as goal

abbrev pub invariant-loop-i : goal.invariant-loop-i
invariant-loop-i l = l.queue ≡ with_slots l.fn.queue (closed_slots l.handle l.fn.queue.head l.i l.fn.queue.slots)
