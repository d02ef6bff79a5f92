-- The reply test (document 01, "A message from the wire", "A match").
-- Assumes nothing.
use Rattle.std.specs.Prelude.{ℕ, ◌/◌, ◌%◌, Bool, ◌&&◌, ◌||◌, not, List, eqb, leb, get_or, length}
use Rattle.constants.specs.Kernel.{CEC-MSG-INITIATE-ARC, CEC-MSG-REPORT-ARC-INITIATED, CEC-MSG-REPORT-ARC-TERMINATED, CEC-LOG-ADDR-BROADCAST}
use Rattle.message.specs.Message.{is_feature_abort}

-- "a slice of length under 2 or over 16 is no match"
abbrev pub has_opcode : ℕ → Bool
has_opcode size = leb 2 size && leb size 16

-- "the sender is the address the transmit went to, or it went to 15", of the first bytes
abbrev pub from_destination : ℕ → ℕ → Bool
from_destination sent came = eqb (came / 16) (sent % 16) || eqb (sent % 16) CEC-LOG-ADDR-BROADCAST

-- "the message goes to the transmit's initiator or 15", of the first bytes
abbrev pub to_initiator : ℕ → ℕ → Bool
to_initiator sent came = eqb (came % 16) (sent / 16) || eqb (came % 16) CEC-LOG-ADDR-BROADCAST

-- "opcode 0x00 with length 3 or more and third byte the sent opcode"
abbrev pub aborts_sent : ℕ → ℕ → ℕ → ℕ → Bool
aborts_sent sent came size third = is_feature_abort came && leb 3 size && eqb third sent

-- "a non-zero opcode equal to the wanted reply"
abbrev pub is_wanted : ℕ → ℕ → Bool
is_wanted came wanted = not (is_feature_abort came) && eqb came wanted

-- "If 0xC0 was sent and 0xC1 or 0xC2 wanted, either of those matches", of the opcodes
abbrev pub is_arc_report : ℕ → Bool
is_arc_report code = eqb code CEC-MSG-REPORT-ARC-INITIATED || eqb code CEC-MSG-REPORT-ARC-TERMINATED

abbrev pub is_arc_pair : ℕ → ℕ → ℕ → Bool
is_arc_pair sent came wanted = eqb sent CEC-MSG-INITIATE-ARC && is_arc_report wanted && is_arc_report came

-- the opcodes and operands match by one of the three rules
abbrev pub is_answer : ℕ → ℕ → ℕ → ℕ → ℕ → Bool
is_answer sent came size third wanted = aborts_sent sent came size third || is_wanted came wanted || is_arc_pair sent came wanted

-- whether the bytes that came are the reply to the bytes that were sent
unfoldable pub is_reply : List ℕ → List ℕ → ℕ → Bool
is_reply sent came wanted =
    has_opcode (length sent)
    && has_opcode (length came)
    && from_destination (get_or sent 0 0) (get_or came 0 0)
    && to_initiator (get_or sent 0 0) (get_or came 0 0)
    && is_answer (get_or sent 1 0) (get_or came 1 0) (length came) (get_or came 2 0) wanted
