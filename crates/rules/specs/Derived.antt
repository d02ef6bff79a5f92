-- What the rules derive from the whole state: the owed room and the exclusive roles (document 01, "The adapter's parts" and "Modes").
-- The rules that read these take them as an argument, and are those of the papers with `counted`.
-- Assumes nothing.
use Rattle.std.specs.Prelude.{ℕ, ◌+◌, Bool, length}
use Rattle.inbox.specs.Inboxes.{inbox_of}
use Rattle.rules.specs.Handles.{someone, another, is_exclusive_initiator, is_exclusive_follower, is_passthrough}
use Rattle.rules.specs.Owed.{owed_room}
use Rattle.rules.specs.State.{State}

pub record Derived : Type 0 where
  -- a handle's owed room
  pub owed : State → ℕ → ℕ
  -- whether a handle other than this one is exclusive initiator, is exclusive follower
  pub other_initiator : State → ℕ → Bool
  pub other_follower : State → ℕ → Bool
  -- whether there is an exclusive follower, one with 0x30
  pub exclusive_follower : State → Bool
  pub passthrough : State → Bool

-- as document 01 says them: counted over the queue, the wire, the waits and the handles' modes
abbrev pub counted : Derived
counted = record {
  owed = owed_room;
  other_initiator = another is_exclusive_initiator;
  other_follower = another is_exclusive_follower;
  exclusive_follower = someone is_exclusive_follower;
  passthrough = someone is_passthrough;
}

-- "entries plus owed room"
abbrev pub room_taken_by : Derived → State → ℕ → ℕ
room_taken_by d s h = length (inbox_of s.inboxes h) + d.owed s h

abbrev pub room_taken : State → ℕ → ℕ
room_taken = room_taken_by counted
