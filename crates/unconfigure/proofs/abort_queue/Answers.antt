use Rattle.std.proofs.Common.{arith, sym}
use Rattle.inbox.specs.Inboxes.{inboxes_of, delivered_next}
use Rattle.queue.specs.Queue.{queue_of}
use Rattle.rules.specs.Unconfigure.{aborted_result}
use Rattle.transmission.specs.Transmission.{no_transmission}
use Rattle.unconfigure.proofs.abort_queue.Goals as goal

pub loop-i-preserved : goal.loop-i-preserved
loop-i-preserved c =
    let a = c.args in
    let l = c.loop-i in
    let e = c.count-i-end.ensures.value in
    rw (c.abort_transmit-after.ensures, c.at.ensures, l.invariant)
    (sym (delivered_next (λ x. x.owner) aborted_result (inboxes_of a.inboxes) (queue_of a.queue) l.i no_transmission (omega arith)))
