-- What is pending, the room that it owes, and the numbers that are live (document 01, "The adapter's parts").
-- Assumes nothing.
use Rattle.std.specs.Prelude.{ℕ, ◌+◌, Bool, ◌||◌, List, ◌++◌}
use Rattle.lists.specs.Sums.{sum, count, any}
use Rattle.rules.specs.State.{State}
use Rattle.transmission.specs.Transmission.{room_for, reply_for, numbered}
use Rattle.transmission.specs.declared.Transmission.{Transmission}
use Rattle.wait.specs.Wait
use Rattle.wait.specs.Wait.{owned_by}
use Rattle.wait.specs.declared.Wait.{Wait}

-- the transmissions on the wire and queued, in the order in which they go out
abbrev pub pending : State → List Transmission
pending s = s.wire ++ s.queue

-- document 01's owed room: "A handle owes room for 1 entry for each of its transmits queued or on the wire, 1 more if that transmit wants a reply, and 1 for each wait."
unfoldable pub room_owed : List Transmission → List Wait → ℕ → ℕ
room_owed ts ws h = sum (room_for h) ts + count (owned_by h) ws

abbrev pub owed_room : State → ℕ → ℕ
owed_room s h = room_owed (pending s) s.waits h

-- "the handle's transmits and waits" that "want one"
unfoldable pub replies_wanted : List Transmission → List Wait → ℕ → ℕ
replies_wanted ts ws h = sum (reply_for h) ts + count (owned_by h) ws

abbrev pub wanted_replies : State → ℕ → ℕ
wanted_replies s h = replies_wanted (pending s) s.waits h

-- "every number still queued, on the wire or waiting"
unfoldable pub is_taken : List Transmission → List Wait → ℕ → Bool
is_taken ts ws n = any (numbered n) ts || any (Wait.numbered n) ws
