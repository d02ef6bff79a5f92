-- One call, and a list of calls from a state (document 01, "What a reader may hold us to": "each call takes the adapter as the last one left it").
-- Assumes nothing.
use Rattle.std.specs.Prelude.{List, [], ◌∷◌}
use Rattle.rules.specs.BusResult.{do_bus_result}
use Rattle.rules.specs.BusStart.{do_bus_start}
use Rattle.rules.specs.Call.{Call, call_open, call_close, call_mode, call_transmit, call_receive, call_bus_start, call_bus_result, call_message, call_time, call_configure, call_unconfigure, call_listing, call_lookup, call_active_address, Answer, Outcome}
use Rattle.rules.specs.Close.{do_close}
use Rattle.rules.specs.Configure.{do_configure}
use Rattle.rules.specs.Listing.{do_listing}
use Rattle.rules.specs.Lookup.{do_lookup}
use Rattle.rules.specs.Mode.{do_mode}
use Rattle.rules.specs.Open.{do_open}
use Rattle.rules.specs.Receive.{do_receive}
use Rattle.rules.specs.State.{State}
use Rattle.rules.specs.Time.{do_time}
use Rattle.rules.specs.Tracker.{do_message, do_active_address}
use Rattle.rules.specs.Transmit.{do_transmit}
use Rattle.rules.specs.Unconfigure.{do_unconfigure}

abbrev pub step : State → Call → Outcome
step s (call_open privileged) = do_open s privileged
step s (call_close h) = do_close s h
step s (call_mode h mode) = do_mode s h mode
step s (call_transmit h r) = do_transmit s h r
step s (call_receive h) = do_receive s h
step s call_bus_start = do_bus_start s
step s (call_bus_result status counts ts) = do_bus_result s status counts ts
step s (call_message n bytes ts) = do_message s n bytes ts
step s (call_time ms) = do_time s ms
step s (call_configure x) = do_configure s x
step s call_unconfigure = do_unconfigure s
step s (call_listing rows) = do_listing s rows
step s (call_lookup a) = do_lookup s a
step s call_active_address = do_active_address s

-- a call, with the states before and after it
pub record Step : Type 0 where
  pub before : State
  pub call : Call
  pub answer : Answer
  pub after : State

abbrev pub step_of : State → Call → Step
step_of s c = record { before = s; call = c; answer = (step s c).answer; after = (step s c).state }

-- the history of a list of calls
abbrev pub run : State → List Call → List Step
run s [] = []
run s (c ∷ cs) = step_of s c ∷ run (step s c).state cs

-- the state after a list of calls
abbrev pub after : State → List Call → State
after s [] = s
after s (c ∷ cs) = after (step s c).state cs
