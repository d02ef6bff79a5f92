-- A CEC message: its bytes, its addresses and its opcode (document 01, "The adapter's parts").
-- Assumes nothing.
use Rattle.std.specs.Prelude.{ℕ, suc, ◌+◌, ◌-◌, ◌*◌, ◌/◌, ◌%◌, min, Bool, List, ◌++◌, eqb, get_or, take, replicate}
use Rattle.constants.specs.Kernel.{CEC-MSG-FEATURE-ABORT}
use Rattle.message.specs.declared.Message.{Message}

-- the message of a length and 16 bytes: a length past 16 counts as 16, and bytes past the length are 0
unfoldable pub message : ℕ → List ℕ → Message
message n bs = record { length = min n 16; bytes = take (min n 16) bs ++ replicate (16 - min n 16) 0 }

abbrev pub no_message : Message
no_message = message 0 (replicate 16 0)

-- the bytes that are sent
abbrev pub contents : Message → List ℕ
contents m = take m.length m.bytes

-- The first byte has the initiator's address in its high digit, the destination's in its low one; the second byte is the opcode.
abbrev pub initiator : List ℕ → ℕ
initiator bs = get_or bs 0 0 / 16

abbrev pub destination : List ℕ → ℕ
destination bs = get_or bs 0 0 % 16

abbrev pub opcode : List ℕ → ℕ
opcode bs = get_or bs 1 0

-- the physical address at a place: "Numbers go high byte first"
abbrev pub address_at : ℕ → List ℕ → ℕ
address_at place bs = get_or bs place 0 * 256 + get_or bs (suc place) 0

-- Feature Abort, of an opcode
abbrev pub is_feature_abort : ℕ → Bool
is_feature_abort code = eqb code CEC-MSG-FEATURE-ABORT
