-- The answer of a receive, read as an outcome of the rules (document 01, "Numbers given back").
-- Assumes nothing.
use Rattle.std.specs.Prelude.{Result}
use Rattle.constants.specs.declared.Errno.{Errno}
use Rattle.entry.specs.declared.Entry.{Entry}
use Rattle.parts.specs.Parts.{outcome_of}
use Rattle.rules.specs.Call.{Outcome, received}
use Rattle.rules.specs.State.{State}

-- the state after the call, and the entry or the refusal
abbrev pub received_of : State → Result Entry Errno → Outcome
received_of = outcome_of received
