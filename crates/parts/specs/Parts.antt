-- The adapter's parts as the code holds them, read as a state (document 01, "The adapter's parts").
-- Assumes nothing.
use Rattle.std.specs.Prelude.{ℕ, cond, List, eqb, Result, Ok, Err}
use Rattle.constants.specs.Errno.{errno_number}
use Rattle.constants.specs.declared.Errno.{Errno}
use Rattle.entry.specs.declared.Entry.{Entry}
use Rattle.handles.specs.Roles.{handles_of}
use Rattle.handles.specs.declared.Handles.{Handles}
use Rattle.inbox.specs.Inboxes.{inboxes_of}
use Rattle.inbox.specs.declared.Inboxes.{Inboxes}
use Rattle.parts.specs.declared.Parts.{Parts}
use Rattle.queue.specs.Queue.{queue_of}
use Rattle.rules.specs.Call.{Answer, Outcome, finish, refused, done}
use Rattle.rules.specs.State.{State}
use Rattle.waits.specs.Waits.{waits_of}
use Rattle.wire.specs.Wire.{wire_of}

-- the inboxes
abbrev pub boxes_of : Parts → Inboxes
boxes_of p = record { entries = p.entries; counts = p.counts }

abbrev pub state_of : Parts → State
state_of p = record {
  capabilities = record { transmit = p.can_transmit; monitor_all = p.can_monitor_all };
  handles = handles_of p.handles;
  inboxes = inboxes_of (boxes_of p);
  queue = queue_of p.queue;
  wire = wire_of p.wire;
  waits = waits_of p.waits;
  last = p.last;
  settings = p.settings;
  noted = p.noted;
  active = p.active;
  clock = p.clock;
}

-- the parts with other handles and inboxes, another active address and another clock
abbrev pub with_changed : Parts → Handles → List ℕ → List Entry → ℕ → ℕ → Parts
with_changed p handles counts entries active clock = record {
  counts = counts;
  clock = clock;
  can_transmit = p.can_transmit;
  can_monitor_all = p.can_monitor_all;
  last = p.last;
  settings = p.settings;
  noted = p.noted;
  active = active;
  handles = handles;
  queue = p.queue;
  wire = p.wire;
  waits = p.waits;
  entries = entries;
}

-- an answer that gives nothing more: the errno, or success
abbrev pub or_refused : ℕ → Answer → Answer
or_refused errno a = cond (eqb errno 0) a (refused errno)

-- the errno of checks, 0 where they are passed
abbrev pub errno_of : Result Unit Errno → ℕ
errno_of (Ok x) = 0
errno_of (Err e) = errno_number e

-- what a call gives and the state that it leaves, or the number of its refusal
abbrev pub outcome_of : {A : Type 0} → (A → Answer) → State → Result A Errno → Outcome
outcome_of given s (Ok x) = finish (given x) s
outcome_of given s (Err e) = finish (refused (errno_number e)) s

-- a call that gives nothing more
abbrev pub unit_outcome : State → Result Unit Errno → Outcome
unit_outcome = outcome_of (λ u. done)
