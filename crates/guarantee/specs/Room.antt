-- "Results and replies always have their room" (document 01, "The adapter's parts"): wherever a rule delivers one, the inbox is not full at that moment; and no wait and no transmission is left out for want of a place.
-- Assumes nothing.
use Rattle.std.specs.Prelude.{ℕ, ◌≤◌, ◌<◌, true, List, [], ◌∷◌, ◌++◌, ◌≡◌, length}
use Rattle.entry.specs.Entry.{result_copy, message_copy}
use Rattle.entry.specs.declared.Counts.{Counts}
use Rattle.inbox.specs.Inboxes.{inbox_of}
use Rattle.lists.specs.Sums.{count}
use Rattle.message.specs.declared.Message.{Message}
use Rattle.rules.specs.Call.{Call}
use Rattle.rules.specs.Deliver.{copies, each}
use Rattle.rules.specs.Derived.{room_taken}
use Rattle.rules.specs.Handles.{in_role, is_monitor}
use Rattle.rules.specs.Incoming.{monitors}
use Rattle.rules.specs.Owed.{pending}
use Rattle.rules.specs.State.{State, Capabilities, fresh, with_waits}
use Rattle.rules.specs.Step.{after}
use Rattle.rules.specs.Time.{overdue, remaining, time_out}
use Rattle.rules.specs.Unconfigure.{abort_transmit, abort_wait, unset}
use Rattle.transmission.specs.declared.Transmission.{Transmission}
use Rattle.wait.specs.Wait.{owned_by}
use Rattle.wait.specs.declared.Wait.{Wait}

-- handle h can be given one more entry
abbrev pub HasRoom : ℕ → State → Type 0
HasRoom h s = length (inbox_of s.inboxes h) < 16

-- "Waits: at most 4 per handle (H)", and so 32 of the eight handles together
abbrev pub handle_waits : ℕ
handle_waits = 4

abbrev pub all_waits : ℕ
all_waits = 32

pub record Room (s : State) : Type 0 where
  -- entries plus owed room is at most 16
  pub owed : (h : ℕ) → h < 8 → room_taken s h ≤ 16
  -- a bus result, after the copies for monitors: room for the result of a handle's transmission, and a place for its wait
  pub result : (t : Transmission) → s.wire ≡ t ∷ [] → t.owner < 8 → (status : ℕ) (counts : Counts) (ts : ℕ) → HasRoom t.owner (copies (in_role is_monitor) (result_copy status counts t.message ts) s)
  pub wait : (t : Transmission) → s.wire ≡ t ∷ [] → t.wants_reply ≡ true → length s.waits < all_waits
  -- a message, after the copies for monitors: room for the reply of any wait
  pub reply : (past : List Wait) (w : Wait) (rest : List Wait) → s.waits ≡ past ++ w ∷ rest → (m : Message) (ts : ℕ) → HasRoom w.owner (copies (in_role (monitors s m)) (message_copy m ts) s)
  -- time passing, after the waits that end before this one
  pub timeout : (ms : ℕ) (past : List Wait) (w : Wait) (rest : List Wait) → overdue ms s.waits ≡ past ++ w ∷ rest → HasRoom w.owner (each time_out (with_waits s (remaining ms s.waits)) past)
  -- an unconfigure, after the transmissions, and then the waits, that end before this one
  pub aborted_transmit : (past : List Transmission) (t : Transmission) (rest : List Transmission) → pending s ≡ past ++ t ∷ rest → t.owner < 8 → HasRoom t.owner (each abort_transmit (unset s) past)
  pub aborted_wait : (past : List Wait) (w : Wait) (rest : List Wait) → s.waits ≡ past ++ w ∷ rest → HasRoom w.owner (each abort_wait (each abort_transmit (unset s) (pending s)) past)
  -- the queue and the wire hold no more than they can
  pub queue : length s.queue ≤ 18
  pub wire : length s.wire ≤ 1
  -- no handle has more waits than it may
  pub waits : (h : ℕ) → count (owned_by h) s.waits ≤ handle_waits

-- in every state that calls lead to from a fresh adapter
abbrev pub AlwaysRoom : Type 0
AlwaysRoom = (c : Capabilities) (calls : List Call) → Room (after (fresh c) calls)
