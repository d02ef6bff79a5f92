-- The times that entries show, and those that calls carry and that are accepted (document 02, W-208). `guarantee`: Timestamps says what comes with a call, and what entries show after any calls.
-- Assumes nothing.
use Rattle.std.specs.Prelude.{ℕ, ◌≤◌, ◌<◌, List, [], ◌∷◌, ◌++◌, ◌≡◌, get_or}
use Rattle.constants.specs.Kernel.{EINVAL}
use Rattle.entry.specs.Entry.{result_entry, result_copy, message_copy, no_entry}
use Rattle.entry.specs.declared.Counts.{Counts}
use Rattle.entry.specs.declared.Entry.{Entry}
use Rattle.message.specs.declared.Message.{Message}
use Rattle.rules.specs.BusResult.{wait_for}
use Rattle.rules.specs.Call.{Call, Answer, refused, done, opened, accepted, received, started, listed, address, finish}
use Rattle.rules.specs.Call.{call_open, call_close, call_mode, call_transmit, call_receive, call_bus_start, call_bus_result, call_message, call_time, call_configure, call_unconfigure, call_listing, call_lookup, call_active_address}
use Rattle.rules.specs.Incoming.{reply_entry}
use Rattle.rules.specs.State.{State, Capabilities, fresh}
use Rattle.rules.specs.Step.{Step, step, run}
use Rattle.rules.specs.Time.{timeout_entry}
use Rattle.rules.specs.Unconfigure.{aborted_result, abort_entry}
use Rattle.transmission.specs.declared.Transmission.{Transmission}

-- ---- what each kind of entry shows: the sent time and the received time
abbrev pub ShowsTimes : ℕ → ℕ → Entry → Type 0
ShowsTimes sent_at received_at e = (e.tx_ts ≡ sent_at) × (e.rx_ts ≡ received_at)

pub record TimesByKind : Type 0 where
  -- "Bus results and their copies show only the sent time,
  pub results : (n status : ℕ) (c : Counts) (m : Message) (ts : ℕ) → ShowsTimes ts 0 (result_entry n status c m ts)
  pub result_copies : (status : ℕ) (c : Counts) (m : Message) (ts : ℕ) → ShowsTimes ts 0 (result_copy status c m ts)
  -- incoming copies only the received,
  pub message_copies : (m : Message) (ts : ℕ) → ShowsTimes 0 ts (message_copy m ts)
  -- matched replies both," the sent one that with which the transmit's bus result began the wait,
  pub replies : (t : Transmission) (sent_at : ℕ) (m : Message) (ts : ℕ) → ShowsTimes sent_at ts (reply_entry (wait_for t sent_at) m ts)
  -- "timeouts and aborted waits the sent;
  pub timeouts : (t : Transmission) (sent_at : ℕ) → ShowsTimes sent_at 0 (timeout_entry (wait_for t sent_at))
  pub aborted_waits : (t : Transmission) (sent_at : ℕ) → ShowsTimes sent_at 0 (abort_entry (wait_for t sent_at))
  -- all else is 0", the results of unconfigure too
  pub aborted_results : (t : Transmission) → ShowsTimes 0 0 (aborted_result t)
  pub none : ShowsTimes 0 0 no_entry

-- ---- the times of calls
-- that of a bus result and of a message; no other call carries one
abbrev pub times_in : Call → List ℕ
times_in (call_open privileged) = []
times_in (call_close h) = []
times_in (call_mode h mode) = []
times_in (call_transmit h r) = []
times_in (call_receive h) = []
times_in call_bus_start = []
times_in (call_bus_result status counts ts) = ts ∷ []
times_in (call_message n bytes ts) = ts ∷ []
times_in (call_time ms) = []
times_in (call_configure x) = []
times_in call_unconfigure = []
times_in (call_listing rows) = []
times_in (call_lookup a) = []
times_in call_active_address = []

-- the same as a number, 0 for none
abbrev pub time_in : Call → ℕ
time_in c = get_or (times_in c) 0 0

-- "the last accepted by either": a bus result and a message are accepted if they succeed
abbrev pub accepted_times : Call → Answer → List ℕ
accepted_times c (refused e) = []
accepted_times c done = times_in c
accepted_times c (opened h) = []
accepted_times c (accepted n status) = []
accepted_times c (received e) = []
accepted_times c (started m) = []
accepted_times c (listed rows) = []
accepted_times c (address a) = []

-- the clock after some times more
abbrev pub clock_after : ℕ → List ℕ → ℕ
clock_after clock [] = clock
clock_after clock (ts ∷ more) = clock_after ts more

-- every time that is accepted moves the clock, and nothing else does
abbrev pub ClockMoves : Type 0
ClockMoves = (s : State) (c : Call) → (step s c).state.clock ≡ clock_after s.clock (accepted_times c (step s c).answer)

-- "a time below the last accepted by either .. is EINVAL and changes nothing", whatever else the call has
pub record EarlyRefused : Type 0 where
  pub results : (s : State) (status : ℕ) (counts : Counts) (ts : ℕ) → ts < s.clock → step s (call_bus_result status counts ts) ≡ finish (refused EINVAL) s
  pub messages : (s : State) (n : ℕ) (bytes : List ℕ) (ts : ℕ) → ts < s.clock → step s (call_message n bytes ts) ≡ finish (refused EINVAL) s

-- ---- over a history
-- the times that it accepted
abbrev pub times_of : List Step → List ℕ
times_of [] = []
times_of (x ∷ xs) = accepted_times x.call x.answer ++ times_of xs

-- none is below the one before it, nor the first below this
abbrev pub NeverFall : ℕ → List ℕ → Type 0
NeverFall least [] = Unit {0}
NeverFall least (ts ∷ more) = (least ≤ ts) × NeverFall ts more

-- in every history from a fresh adapter
abbrev pub AlwaysRising : Type 0
AlwaysRising = (c : Capabilities) (calls : List Call) → NeverFall 0 (times_of (run (fresh c) calls))
