-- Unconfigure (document 01, "Wire, time and configuration").
-- Assumes nothing.
use Rattle.std.specs.Prelude.{[]}
use Rattle.constants.specs.Kernel.{CEC-TX-STATUS-ABORTED, CEC-PHYS-ADDR-INVALID}
use Rattle.entry.specs.Entry.{result_entry, aborted, no_counts}
use Rattle.entry.specs.declared.Entry.{Entry}
use Rattle.rules.specs.Call.{Outcome, finish, Answer}
use Rattle.rules.specs.Deliver.{deliver, each}
use Rattle.rules.specs.Owed.{pending}
use Rattle.rules.specs.State.{State, no_settings, none_noted, with_queue, with_wire, with_waits, with_settings, with_noted, with_active}
use Rattle.transmission.specs.declared.Transmission.{Transmission}
use Rattle.wait.specs.declared.Wait.{Wait}

-- "the wire, then the queue in order, end with tx_status 0x40"; no bus result came, so both times are 0 (document 02, W-208)
abbrev pub aborted_result : Transmission → Entry
aborted_result t = result_entry t.sequence CEC-TX-STATUS-ABORTED no_counts t.message 0

abbrev pub abort_transmit : State → Transmission → State
abort_transmit s t = deliver s t.owner (aborted_result t)

-- "then the waits, oldest first, with their number, rx_status 0x08, and the sent length and bytes", the opcode wanted (document 02, W-207) and the sent time (W-208)
abbrev pub abort_entry : Wait → Entry
abort_entry w = aborted w.sequence w.sent w.reply w.tx_ts

abbrev pub abort_wait : State → Wait → State
abort_wait s w = deliver s w.owner (abort_entry w)

-- "address 0xFFFF, mask 0, noted addresses cleared", "The other settings become 0", "Unconfigure clears the tracker" (document 02, W-205), and nothing is left to send or to wait for; the clock is "kept by unconfigure" (W-208)
abbrev pub unset : State → State
unset s = with_queue (with_wire (with_waits (with_settings (with_noted (with_active s CEC-PHYS-ADDR-INVALID) none_noted) no_settings) []) []) []

-- "Unconfigure always succeeds"
unfoldable pub do_unconfigure : State → Outcome
do_unconfigure s = finish Answer.done (each abort_wait (each abort_transmit (unset s) (pending s)) s.waits)
