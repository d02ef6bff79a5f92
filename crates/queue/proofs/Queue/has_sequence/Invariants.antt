use Rattle.std.proofs.Common.{◌≡◌, false}
use Rattle.lists.specs.Sums.{any}
use Rattle.queue.specs.Queue.{queued_from}
use Rattle.transmission.specs.Transmission.{numbered}
use Rattle.queue.proofs.Queue.has_sequence.Given as goal

abbrev pub invariant-loop-i : goal.invariant-loop-i
invariant-loop-i l = any (numbered l.sequence) (queued_from l.self.head l.i l.self.slots) ≡ false
