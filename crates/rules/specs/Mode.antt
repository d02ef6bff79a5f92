-- Mode (document 01, "Modes").
-- Assumes nothing.
use Rattle.std.specs.Prelude.{ℕ, Bool, ◌&&◌, ◌||◌, not, eqb, leb, set}
use Rattle.constants.specs.Kernel.{EBADF, EINVAL, EPERM, EBUSY, CEC-MODE-NO-FOLLOWER, CEC-MODE-MONITOR-ALL}
use Rattle.handle.specs.declared.Handle.{Handle}
use Rattle.rules.specs.Call.{Outcome, finish, unless, check, Answer}
use Rattle.rules.specs.Derived.{Derived, counted}
use Rattle.rules.specs.Handles.{handle_at, is_open, initiator_part, follower_part, is_follower, is_monitor, is_exclusive_initiator, is_exclusive_follower}
use Rattle.rules.specs.State.{State, with_handles}

-- "The low digit is 0, 1 or 2; the rest is 0x00, 0x10, 0x20, 0x30, 0xE0 or 0xF0."
abbrev pub is_mode : ℕ → Bool
is_mode mode = leb (initiator_part mode) 2 && (eqb (follower_part mode) CEC-MODE-NO-FOLLOWER || is_follower mode || is_monitor mode)

-- "a monitor part (0xE0, 0xF0) with a low digit other than 0"
abbrev pub is_monitor_initiator : ℕ → Bool
is_monitor_initiator mode = is_monitor mode && not (eqb (initiator_part mode) 0)

-- "a follower part (0x10 to 0x30) with low digit 0 or without TRANSMIT"
abbrev pub is_unable_follower : State → ℕ → Bool
is_unable_follower s mode = is_follower mode && (eqb (initiator_part mode) 0 || not s.capabilities.transmit)

-- "0xF0 without MONITOR_ALL"
abbrev pub is_monitor_all_unable : State → ℕ → Bool
is_monitor_all_unable s mode = eqb (follower_part mode) CEC-MODE-MONITOR-ALL && not s.capabilities.monitor_all

-- "any other number .., or ..: EINVAL"
abbrev pub is_mode_invalid : State → ℕ → Bool
is_mode_invalid s mode = not (is_mode mode) || is_monitor_initiator mode || is_unable_follower s mode || is_monitor_all_unable s mode

-- "low digit 2 while another handle has 2, or 0x20 or 0x30 while another has 0x20 or 0x30"
abbrev pub is_role_held_by : Derived → State → ℕ → ℕ → Bool
is_role_held_by d s h mode = is_exclusive_initiator mode && d.other_initiator s h || is_exclusive_follower mode && d.other_follower s h

abbrev pub is_role_held : State → ℕ → ℕ → Bool
is_role_held = is_role_held_by counted

-- "Checks in order"
abbrev pub mode_refusal_by : Derived → State → ℕ → ℕ → ℕ
mode_refusal_by d s h mode =
    check (not (is_open s h)) EBADF
    (check (is_mode_invalid s mode) EINVAL
    (check (is_monitor mode && not (handle_at s h).privileged) EPERM
    (check (is_role_held_by d s h mode) EBUSY 0)))

abbrev pub mode_refusal : State → ℕ → ℕ → ℕ
mode_refusal = mode_refusal_by counted

abbrev pub in_mode : Handle → ℕ → Handle
in_mode x mode = record { is_open = x.is_open; privileged = x.privileged; mode = mode; lost = x.lost }

-- "Inbox and waits are kept."
unfoldable pub do_mode : State → ℕ → ℕ → Outcome
do_mode s h mode = unless (mode_refusal s h mode) s (finish Answer.done (with_handles s (set s.handles h (in_mode (handle_at s h) mode))))
