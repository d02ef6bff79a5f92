-- Bus result (document 01, "Wire, time and configuration"; document 02, W-208: "Bus result and incoming message carry the time of the last byte").
-- Assumes nothing.
use Rattle.std.specs.Prelude.{ℕ, ◌+◌, Bool, cond, ◌&&◌, not, List, eqb, ltb, length, drop}
use Rattle.constants.specs.Kernel.{EINVAL, CEC-TX-STATUS-OK, CEC-TX-STATUS-ARB-LOST, CEC-TX-STATUS-NACK, CEC-TX-STATUS-LOW-DRIVE, CEC-TX-STATUS-ERROR, CEC-TX-STATUS-MAX-RETRIES, CEC-TX-STATUS-ABORTED, CEC-TX-STATUS-TIMEOUT}
use Rattle.entry.specs.Entry.{result_entry, result_copy}
use Rattle.entry.specs.declared.Counts.{Counts}
use Rattle.lists.specs.Tests.{bit}
use Rattle.lists.specs.Vector.{put}
use Rattle.rules.specs.Call.{Outcome, finish, unless, check, Answer}
use Rattle.rules.specs.Clock.{clock_refusal}
use Rattle.rules.specs.Deliver.{deliver, copies}
use Rattle.rules.specs.Handles.{in_role, is_monitor, has_bit}
use Rattle.rules.specs.State.{State, with_wire, with_waits, with_clock}
use Rattle.transmission.specs.Transmission.{head_of}
use Rattle.transmission.specs.declared.Transmission.{Transmission}
use Rattle.wait.specs.declared.Wait.{Wait}

-- "exactly one of 0x01, 0x20, 0x40, 0x80 in the status"; "0x02, 0x04, 0x08, 0x10 are free beside it"
unfoldable pub is_final : ℕ → Bool
is_final status =
    eqb (bit (has_bit CEC-TX-STATUS-OK status) + bit (has_bit CEC-TX-STATUS-MAX-RETRIES status) + bit (has_bit CEC-TX-STATUS-ABORTED status) + bit (has_bit CEC-TX-STATUS-TIMEOUT status)) 1

-- "Bus result is taken only with the wire full and exactly one of 0x01, 0x20, 0x40, 0x80 in the status, else EINVAL"; "After their own checks" the time (W-208)
abbrev pub bus_result_refusal : State → ℕ → ℕ → ℕ
bus_result_refusal s status ts = check (not (ltb 0 (length s.wire) && is_final status)) EINVAL (clock_refusal s.clock ts)

-- "A count whose bit (arbitration 0x02, NACK 0x04, low drive 0x08, error 0x10) is clear is stored as 0."
unfoldable pub kept_counts : ℕ → Counts → Counts
kept_counts status c = record {
  arb_lost = cond (has_bit CEC-TX-STATUS-ARB-LOST status) c.arb_lost 0;
  nack = cond (has_bit CEC-TX-STATUS-NACK status) c.nack 0;
  low_drive = cond (has_bit CEC-TX-STATUS-LOW-DRIVE status) c.low_drive 0;
  error = cond (has_bit CEC-TX-STATUS-ERROR status) c.error 0;
}

-- the wait for the reply to a transmission, with the time of its bus result
abbrev pub wait_for : Transmission → ℕ → Wait
wait_for t ts = record { owner = t.owner; sequence = t.sequence; left = t.timeout; reply = t.reply; to_followers = t.to_followers; sent = t.message; tx_ts = ts }

-- "then, with 0x01 and a reply wanted, the wait begins"
abbrev pub begun : ℕ → Transmission → ℕ → List Wait → List Wait
begun status t ts ws = cond (has_bit CEC-TX-STATUS-OK status && t.wants_reply) (put 32 ws (wait_for t ts)) ws

-- "First each monitor, ascending, gets a copy (sequence 0), the message still counting as on the wire; then the owner, if any, gets the result with its number; then .. the wait begins"
abbrev pub concluded : State → Transmission → ℕ → Counts → ℕ → State
concluded s t status kept ts =
    let copied = copies (in_role is_monitor) (result_copy status kept t.message ts) s in
    let ended = with_wire (deliver copied t.owner (result_entry t.sequence status kept t.message ts)) (drop 1 s.wire) in
    with_waits ended (begun status t ts s.waits)

-- and the clock
unfoldable pub do_bus_result : State → ℕ → Counts → ℕ → Outcome
do_bus_result s status counts ts =
    unless (bus_result_refusal s status ts) s (finish Answer.done (with_clock (concluded s (head_of s.wire) status (kept_counts status counts) ts) ts))
