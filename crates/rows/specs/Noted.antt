-- The answer of the lookup, read as an outcome of the rules (document 01, "Numbers given back"): the state is the one before it.
-- Assumes nothing.
use Rattle.std.specs.Prelude.{ℕ}
use Rattle.parts.specs.Parts.{or_refused}
use Rattle.rows.specs.declared.Noted.{Noted}
use Rattle.rules.specs.Call.{Outcome, finish, address}
use Rattle.rules.specs.State.{State}

abbrev pub noted_of : State → Noted → Outcome
noted_of s r = finish (or_refused r.errno (address r.address)) s

-- "A refusal returns its number and no other content; nothing changes": the whole answer
abbrev pub refused_lookup : ℕ → Noted
refused_lookup errno = record { errno = errno; address = 0 }
