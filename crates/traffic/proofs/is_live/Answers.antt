use Rattle.lists.specs.Sums.{any_append}
use Rattle.queue.specs.Queue.{queue_of}
use Rattle.rules.specs.Owed.{is_taken}
use Rattle.transmission.specs.Transmission.{numbered}
use Rattle.wire.specs.Wire.{wire_of}
use Rattle.traffic.proofs.is_live.Goals as goal

pub returns : goal.returns
unfolding is_taken
returns c =
    let a = c.args in
    rw (any_append (numbered a.sequence) (wire_of a.wire) (queue_of a.queue), c.has_sequence-3.ensures, c.has_sequence-2.ensures, c.has_sequence.ensures)
