-- The modes that open handles have, and "Setting one's own mode again succeeds" (document 01, "Modes").
-- Assumes nothing.
use Rattle.std.specs.Prelude.{ℕ, ◌≤◌, true, false, ◌&&◌, not, List, ◌≡◌}
use Rattle.lists.specs.Sums.{count}
use Rattle.rules.specs.Call.{Call, call_mode, done, finish}
use Rattle.rules.specs.Handles.{handle_at, is_open, is_monitor, is_exclusive_initiator, is_exclusive_follower, in_role}
use Rattle.rules.specs.Mode.{is_mode_invalid}
use Rattle.rules.specs.State.{State, Capabilities, fresh}
use Rattle.rules.specs.Step.{after, step}

-- an open handle is in a mode that it may set; of a closed one nothing is said
pub record ModesHeld (s : State) : Type 0 where
  -- not "any other number .., or ..: EINVAL"
  pub valid : (h : ℕ) → is_open s h ≡ true → is_mode_invalid s (handle_at s h).mode ≡ false
  -- not "a monitor part without privilege: EPERM"
  pub permitted : (h : ℕ) → is_open s h ≡ true → (is_monitor (handle_at s h).mode && not (handle_at s h).privileged) ≡ false
  -- "low digit 2 while another handle has 2 ..: EBUSY": at most one open handle has it
  pub initiator : count (in_role is_exclusive_initiator) s.handles ≤ 1
  -- "0x20 or 0x30 while another has 0x20 or 0x30: EBUSY": at most one open handle has either
  pub follower : count (in_role is_exclusive_follower) s.handles ≤ 1

-- in every state that calls lead to from a fresh adapter
abbrev pub AlwaysHeld : Type 0
AlwaysHeld = (c : Capabilities) (calls : List Call) → ModesHeld (after (fresh c) calls)

-- "Setting one's own mode again succeeds.", and nothing changes
abbrev pub SetsOwnMode : State → ℕ → Type 0
SetsOwnMode s h = is_open s h ≡ true → step s (call_mode h (handle_at s h).mode) ≡ finish done s

abbrev pub OwnModeAgain : Type 0
OwnModeAgain = (c : Capabilities) (calls : List Call) (h : ℕ) → SetsOwnMode (after (fresh c) calls) h
