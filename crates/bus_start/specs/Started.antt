-- The answer of bus start, read as an outcome of the rules (document 01, "Numbers given back").
-- Assumes nothing.
use Rattle.std.specs.Prelude.{Result}
use Rattle.constants.specs.declared.Errno.{Errno}
use Rattle.message.specs.declared.Message.{Message}
use Rattle.parts.specs.Parts.{outcome_of}
use Rattle.rules.specs.Call.{Outcome, started}
use Rattle.rules.specs.State.{State}

-- the state after the call, and what goes out or the refusal
abbrev pub started_of : State → Result Message Errno → Outcome
started_of = outcome_of started
