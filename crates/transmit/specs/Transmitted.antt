-- The answer of a transmit, read as an outcome of the rules (document 01, "Numbers given back").
-- Assumes nothing.
use Rattle.std.specs.Prelude.{Result}
use Rattle.constants.specs.declared.Errno.{Errno}
use Rattle.parts.specs.Parts.{outcome_of}
use Rattle.rules.specs.Call.{Outcome, accepted}
use Rattle.rules.specs.State.{State}
use Rattle.transmit.specs.declared.Transmitted.{Transmitted}

-- the state after the call, and the number and tx_status or the refusal
abbrev pub transmitted_of : State → Result Transmitted Errno → Outcome
transmitted_of = outcome_of (λ r. accepted r.sequence r.tx_status)
