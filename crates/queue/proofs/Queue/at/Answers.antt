use Rattle.std.proofs.Common.{◌∙◌, sym, arith, rules}
use Rattle.queue.specs.Queue.{length_of}
use Rattle.queue.proofs.Queued.{place_read, queued_at, length_queue}
use Rattle.transmission.specs.Transmission.{no_transmission}
use Rattle.queue.proofs.Queue.at.Goals as goal

pub returns : goal.returns
returns c =
    let q = c.args.self in
    let i = c.args.i in
    rw c.place_after-at.ensures.value
    (place_read q.slots q.head i _ (search rules) ∙ sym (queued_at q.head (length_of q) i q.slots no_transmission (omega (arith, length_queue q))))
