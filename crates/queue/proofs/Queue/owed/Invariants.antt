use Rattle.std.proofs.Common.{◌*◌, ◌≡◌, ◌≤◌}
use Rattle.lists.specs.Sums.{sum}
use Rattle.queue.specs.Queue.{queued_from}
use Rattle.transmission.specs.Transmission.{room_for, reply_for}
use Rattle.queue.proofs.Queue.owed.Given as goal

abbrev pub invariant-loop-i : goal.invariant-loop-i
invariant-loop-i l = record {
  room_so_far : l.room ≡ sum (room_for l.handle) (queued_from l.self.head l.i l.self.slots);
  replies_so_far : l.replies ≡ sum (reply_for l.handle) (queued_from l.self.head l.i l.self.slots);
  room_bound : l.room ≤ 2 * l.i;
  replies_bound : l.replies ≤ l.i;
}
