-- The bits of a status that have a count (document 01, "Wire, time and configuration").
-- Assumes nothing.
use Rattle.std.specs.Prelude.{ℕ, Bool, ◌||◌, eqb}
use Rattle.constants.specs.Kernel.{CEC-TX-STATUS-ARB-LOST, CEC-TX-STATUS-NACK, CEC-TX-STATUS-LOW-DRIVE, CEC-TX-STATUS-ERROR}

-- "arbitration 0x02, NACK 0x04, low drive 0x08, error 0x10"
abbrev pub is_counted_bit : ℕ → Bool
is_counted_bit b = eqb b CEC-TX-STATUS-ARB-LOST || eqb b CEC-TX-STATUS-NACK || eqb b CEC-TX-STATUS-LOW-DRIVE || eqb b CEC-TX-STATUS-ERROR
