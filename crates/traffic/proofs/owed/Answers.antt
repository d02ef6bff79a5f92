use Rattle.std.proofs.Common.{arith, ap}
use Rattle.lists.specs.Sums.{sum_append}
use Rattle.queue.specs.Queue.{queue_of}
use Rattle.rules.specs.Owed.{room_owed, replies_wanted}
use Rattle.traffic.proofs.Search.{room_in, replies_in}
use Rattle.transmission.specs.Transmission.{room_for, reply_for}
use Rattle.wire.specs.Wire.{wire_of}
use Rattle.traffic.proofs.owed.Goals as goal

pub returns-clause-room_value : goal.returns-clause-room_value
unfolding room_owed replies_wanted
returns-clause-room_value c =
    let a = c.args in
    let w = c.owed-sent.ensures.value in
    let q = c.owed-queued.ensures.value in
    let n = c.count_of-waiting.ensures.value in (
      omega (arith, ap room_in w, ap room_in q, n, sum_append (room_for a.handle) (wire_of a.wire) (queue_of a.queue)),
      omega (arith, ap replies_in w, ap replies_in q, n, sum_append (reply_for a.handle) (wire_of a.wire) (queue_of a.queue)),
    )
