-- What is on its way: the queue and the wire (document 01, "The adapter's parts").
-- Assumes nothing.
use Rattle.std.specs.Prelude.{List, ◌++◌}
use Rattle.queue.specs.Queue.{queue_of}
use Rattle.queue.specs.declared.Queue.{Queue}
use Rattle.transmission.specs.declared.Transmission.{Transmission}
use Rattle.wire.specs.Wire.{wire_of}
use Rattle.wire.specs.declared.Wire.{Wire}

-- the transmissions on the wire and queued
abbrev pub pending_of : Wire → Queue → List Transmission
pending_of w q = wire_of w ++ queue_of q
