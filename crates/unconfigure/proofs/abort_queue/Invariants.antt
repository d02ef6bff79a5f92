use Rattle.std.proofs.Common.{◌≡◌, take}
use Rattle.unconfigure.specs.Aborted.{transmits_aborted}
use Rattle.inbox.specs.Inboxes.{inboxes_of}
use Rattle.queue.specs.Queue.{queue_of}
use Rattle.unconfigure.proofs.abort_queue.Given as goal

abbrev pub invariant-loop-i : goal.invariant-loop-i
invariant-loop-i l = inboxes_of l.after ≡ transmits_aborted (inboxes_of l.fn.inboxes) (take l.i (queue_of l.queue))
