-- The answer of an open, read as an outcome of the rules (document 01, "Numbers given back").
-- Assumes nothing.
use Rattle.std.specs.Prelude.{ℕ, Result}
use Rattle.constants.specs.declared.Errno.{Errno}
use Rattle.parts.specs.Parts.{outcome_of}
use Rattle.rules.specs.Call.{Outcome, opened}
use Rattle.rules.specs.State.{State}

-- the state after the call, and the handle or the refusal
abbrev pub opened_of : State → Result ℕ Errno → Outcome
opened_of = outcome_of opened
