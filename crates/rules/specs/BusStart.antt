-- Bus start (document 01, "Wire, time and configuration": "Bus start moves the queue's head to the wire and hands out its bytes").
-- Assumes nothing.
use Rattle.std.specs.Prelude.{ℕ, eqb, ltb, length, drop}
use Rattle.constants.specs.Kernel.{EBUSY, EAGAIN}
use Rattle.lists.specs.Vector.{put}
use Rattle.rules.specs.Call.{Outcome, finish, unless, check, Answer}
use Rattle.rules.specs.State.{State, with_queue, with_wire}
use Rattle.transmission.specs.Transmission.{head_of}

-- "bus start with the wire taken (tested before the empty queue)"; "bus start with an empty queue"
abbrev pub bus_start_refusal : State → ℕ
bus_start_refusal s = check (ltb 0 (length s.wire)) EBUSY (check (eqb (length s.queue) 0) EAGAIN 0)

unfoldable pub do_bus_start : State → Outcome
do_bus_start s = unless (bus_start_refusal s) s (finish (Answer.started (head_of s.queue).message) (with_queue (with_wire s (put 1 s.wire (head_of s.queue))) (drop 1 s.queue)))
