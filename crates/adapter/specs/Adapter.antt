-- The adapter as a state, and the answers of its calls as outcomes of the rules (document 01, "The adapter's parts" and "Numbers given back").
-- Assumes nothing.
use Rattle.std.specs.Prelude.{ℕ}
use Rattle.adapter.specs.declared.Adapter.{Adapter}
use Rattle.adapter.specs.declared.Done.{Done}
use Rattle.adapter.specs.declared.Opened.{Opened}
use Rattle.adapter.specs.declared.Received.{Received}
use Rattle.adapter.specs.declared.Started.{Started}
use Rattle.adapter.specs.declared.Transmitted.{Transmitted}
use Rattle.entry.specs.Entry.{no_entry}
use Rattle.message.specs.Message.{no_message}
use Rattle.parts.specs.Parts as parts
use Rattle.parts.specs.Parts.{or_refused}
use Rattle.rules.specs.Call.{Outcome, finish, done, opened, accepted, received, started, address}
use Rattle.rules.specs.State.{State}

abbrev pub state_of : Adapter → State
state_of a = parts.state_of a.parts

abbrev pub done_of : Done → Outcome
done_of r = finish (or_refused r.errno done) (state_of r.adapter)

abbrev pub opened_of : Opened → Outcome
opened_of r = finish (or_refused r.errno (opened r.handle)) (state_of r.adapter)

abbrev pub transmitted_of : Transmitted → Outcome
transmitted_of r = finish (or_refused r.errno (accepted r.sequence r.tx_status)) (state_of r.adapter)

abbrev pub received_of : Received → Outcome
received_of r = finish (or_refused r.errno (received r.entry)) (state_of r.adapter)

abbrev pub started_of : Started → Outcome
started_of r = finish (or_refused r.errno (started r.message)) (state_of r.adapter)

-- the active address: the state is the one before
abbrev pub active_of : State → ℕ → Outcome
active_of s active = finish (address active) s

-- "A refusal returns its number and no other content; nothing changes": the whole answer of a call that is refused is the adapter that came in, the number, and 0 or nothing for what the call gives
abbrev pub refused_call : Adapter → ℕ → Done
refused_call a errno = record { adapter = a; errno = errno }

abbrev pub refused_open : Adapter → ℕ → Opened
refused_open a errno = record { adapter = a; errno = errno; handle = 0 }

abbrev pub refused_transmit : Adapter → ℕ → Transmitted
refused_transmit a errno = record { adapter = a; errno = errno; sequence = 0; tx_status = 0 }

abbrev pub refused_receive : Adapter → ℕ → Received
refused_receive a errno = record { adapter = a; errno = errno; entry = no_entry }

abbrev pub refused_bus_start : Adapter → ℕ → Started
refused_bus_start a errno = record { adapter = a; errno = errno; message = no_message }
