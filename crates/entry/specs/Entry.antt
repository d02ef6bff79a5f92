-- An entry of an inbox, one definition for each kind (document 01, "The adapter's parts": what a rule does not name is 0; document 02, W-207: the opcode of a reply; W-208: the times, in nanoseconds).
-- Assumes nothing.
use Rattle.std.specs.Prelude.{ℕ, ◌+◌}
use Rattle.constants.specs.Kernel.{CEC-RX-STATUS-OK, CEC-RX-STATUS-TIMEOUT, CEC-RX-STATUS-FEATURE-ABORT, CEC-RX-STATUS-ABORTED}
use Rattle.message.specs.Message.{no_message, opcode}
use Rattle.message.specs.declared.Message.{Message}
use Rattle.entry.specs.declared.Counts.{Counts}
use Rattle.entry.specs.declared.Entry.{Entry}

abbrev pub no_counts : Counts
no_counts = record { arb_lost = 0; nack = 0; low_drive = 0; error = 0 }

-- "A result shows the status, the kept counts, and the sent length and bytes", under the transmit's number; "Results and copies show 0" (W-207); "Bus results and their copies show only the sent time" (W-208)
abbrev pub result_entry : ℕ → ℕ → Counts → Message → ℕ → Entry
result_entry sequence status counts sent sent_at = record { sequence = sequence; tx_status = status; rx_status = 0; message = sent; counts = counts; reply = 0; tx_ts = sent_at; rx_ts = 0 }

-- "each monitor, ascending, gets a copy (sequence 0)"
abbrev pub result_copy : ℕ → Counts → Message → ℕ → Entry
result_copy status counts sent sent_at = result_entry 0 status counts sent sent_at

-- an entry that shows a receive status, a message, the opcode of a reply and the times alone
abbrev pub rx_entry : ℕ → ℕ → Message → ℕ → ℕ → ℕ → Entry
rx_entry sequence status m shown sent_at received_at = record { sequence = sequence; tx_status = 0; rx_status = status; message = m; counts = no_counts; reply = shown; tx_ts = sent_at; rx_ts = received_at }

-- "Each reply entry also shows the opcode that really came" (W-207); "matched replies both" times (W-208)
abbrev pub matched : ℕ → ℕ → Message → ℕ → ℕ → Entry
matched sequence status came sent_at received_at = rx_entry sequence status came (opcode came.bytes) sent_at received_at

-- "its handle gets the message under that number, rx_status 0x01, or 0x05 for Feature Abort"
abbrev pub reply : ℕ → Message → ℕ → ℕ → Entry
reply sequence came sent_at received_at = matched sequence CEC-RX-STATUS-OK came sent_at received_at

abbrev pub feature_abort_reply : ℕ → Message → ℕ → ℕ → Entry
feature_abort_reply sequence came sent_at received_at = matched sequence (CEC-RX-STATUS-OK + CEC-RX-STATUS-FEATURE-ABORT) came sent_at received_at

-- "an entry of its number, rx_status 0x02, and the sent length and bytes"; "timeouts and aborted waits show the wanted one" (W-207), and "the sent" time (W-208)
abbrev pub timed_out : ℕ → Message → ℕ → ℕ → Entry
timed_out sequence sent wanted sent_at = rx_entry sequence CEC-RX-STATUS-TIMEOUT sent wanted sent_at 0

-- "with their number, rx_status 0x08, and the sent length and bytes"; the wanted opcode and the sent time as there
abbrev pub aborted : ℕ → Message → ℕ → ℕ → Entry
aborted sequence sent wanted sent_at = rx_entry sequence CEC-RX-STATUS-ABORTED sent wanted sent_at 0

-- the copy of a message, for a monitor or a follower: "rx_status 0x01, sequence 0"; copies show 0 (W-207); "incoming copies only the received" time (W-208)
abbrev pub message_copy : Message → ℕ → Entry
message_copy m received_at = rx_entry 0 CEC-RX-STATUS-OK m 0 0 received_at

abbrev pub no_entry : Entry
no_entry = rx_entry 0 0 no_message 0 0 0
