-- The fourteen calls with all their arguments, and what each may answer (document 01, "Built", and "Numbers given back"; the last is document 02's, W-205).
-- Assumes nothing.
use Rattle.std.specs.Prelude.{ℕ, Bool, cond, List, eqb}
use Rattle.entry.specs.declared.Counts.{Counts}
use Rattle.entry.specs.declared.Entry.{Entry}
use Rattle.handle.specs.declared.Row.{Row}
use Rattle.message.specs.declared.Message.{Message}
use Rattle.rules.specs.State.{State}
use Rattle.settings.specs.declared.Settings.{Settings}

-- what a transmit is asked for: length, bytes, reply, timeout and flags
pub record Request : Type 0 where
  pub length : ℕ
  pub bytes : List ℕ
  pub reply : ℕ
  pub timeout : ℕ
  pub flags : ℕ

-- a bus result and a message carry "the time of the last byte" (document 02, W-208) as their last argument
pub data Call : Type 0 where
  call_open : Bool → Call
  call_close : ℕ → Call
  call_mode : ℕ → ℕ → Call
  call_transmit : ℕ → Request → Call
  call_receive : ℕ → Call
  call_bus_start : Call
  call_bus_result : ℕ → Counts → ℕ → Call
  call_message : ℕ → List ℕ → ℕ → Call
  call_time : ℕ → Call
  call_configure : Settings → Call
  call_unconfigure : Call
  call_listing : List Row → Call
  call_lookup : ℕ → Call
  call_active_address : Call

-- refused: an errno. done: nothing more. opened: the handle. accepted: sequence number and tx_status. received: the entry. started: what goes out. listed: the lent rows afterwards. address: the noted or the active address
pub data Answer : Type 0 where
  refused : ℕ → Answer
  done : Answer
  opened : ℕ → Answer
  accepted : ℕ → ℕ → Answer
  received : Entry → Answer
  started : Message → Answer
  listed : List Row → Answer
  address : ℕ → Answer

pub record Outcome : Type 0 where
  pub answer : Answer
  pub state : State

abbrev pub finish : Answer → State → Outcome
finish a s = record { answer = a; state = s }

-- "A refusal returns its number and no other content; nothing changes, lost counts and lent rows included." The number 0 stands for no refusal; the lent rows are in `Listing.rows_after`
unfoldable pub unless : ℕ → State → Outcome → Outcome
unless errno s o = cond (eqb errno 0) o (finish (refused errno) s)

-- one check of several, in their order: its number if the test holds, else what the later ones say
unfoldable pub check : Bool → ℕ → ℕ → ℕ
check test errno later = cond test errno later
