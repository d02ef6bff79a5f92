-- Handles, their modes and roles, and the adapter's own addresses (document 01, "The adapter's parts" and "Modes").
-- Assumes nothing.
use Rattle.std.specs.Prelude.{ℕ, ◌-◌, ◌/◌, ◌%◌, ◌^◌, Bool, ◌&&◌, ◌||◌, not, eqb, ltb, get_or}
use Rattle.constants.specs.Kernel.{CEC-MODE-EXCL-INITIATOR, CEC-MODE-FOLLOWER, CEC-MODE-EXCL-FOLLOWER, CEC-MODE-EXCL-FOLLOWER-PASSTHRU, CEC-MODE-MONITOR, CEC-MODE-MONITOR-ALL, CEC-PHYS-ADDR-INVALID, CEC-LOG-ADDR-BROADCAST, CEC-LOG-ADDR-UNREGISTERED}
use Rattle.handle.specs.declared.Handle.{Handle}
use Rattle.lists.specs.Places.{without}
use Rattle.lists.specs.Sums.{any}
use Rattle.rules.specs.State.{State, closed_handle}

-- the handle of a number; a number over 7 is that of a closed one
abbrev pub handle_at : State → ℕ → Handle
handle_at s h = get_or s.handles h closed_handle

-- whether a handle number is open; where it is not: EBADF, "handle number over 7, or closed"
abbrev pub is_open : State → ℕ → Bool
is_open s h = (handle_at s h).is_open

-- "The low digit", the initiator part, and "the rest", the follower or monitor part
abbrev pub initiator_part : ℕ → ℕ
initiator_part mode = mode % 16

abbrev pub follower_part : ℕ → ℕ
follower_part mode = mode - mode % 16

-- "a follower part (0x10 to 0x30)"
abbrev pub is_follower : ℕ → Bool
is_follower mode = eqb (follower_part mode) CEC-MODE-FOLLOWER || eqb (follower_part mode) CEC-MODE-EXCL-FOLLOWER || eqb (follower_part mode) CEC-MODE-EXCL-FOLLOWER-PASSTHRU

-- "a monitor part (0xE0, 0xF0)"
abbrev pub is_monitor : ℕ → Bool
is_monitor mode = eqb (follower_part mode) CEC-MODE-MONITOR || eqb (follower_part mode) CEC-MODE-MONITOR-ALL

-- "low digit 2"
abbrev pub is_exclusive_initiator : ℕ → Bool
is_exclusive_initiator mode = eqb (initiator_part mode) CEC-MODE-EXCL-INITIATOR

-- "0x20 or 0x30"
abbrev pub is_exclusive_follower : ℕ → Bool
is_exclusive_follower mode = eqb (follower_part mode) CEC-MODE-EXCL-FOLLOWER || eqb (follower_part mode) CEC-MODE-EXCL-FOLLOWER-PASSTHRU

-- "a 0x30 follower"
abbrev pub is_passthrough : ℕ → Bool
is_passthrough mode = eqb (follower_part mode) CEC-MODE-EXCL-FOLLOWER-PASSTHRU

-- an open handle whose mode passes a test
abbrev pub in_role : (ℕ → Bool) → Handle → Bool
in_role p x = x.is_open && p x.mode

-- whether a handle has the role; whether another than h has it
abbrev pub someone : (ℕ → Bool) → State → Bool
someone p s = any (in_role p) s.handles

abbrev pub another : (ℕ → Bool) → State → ℕ → Bool
another p s h = any (in_role p) (without h s.handles)

-- configured: "Physical address, 0xFFFF if invalid"
abbrev pub is_configured : State → Bool
is_configured s = not (eqb s.settings.physical_address CEC-PHYS-ADDR-INVALID)

-- whether the bit of this value is set in a number
abbrev pub has_bit : ℕ → ℕ → Bool
has_bit value n = eqb (n / value % 2) 1

-- an own logical address, "a 16-bit mask of own logical addresses": unconfigured, none is, and 15 never is
abbrev pub is_own : State → ℕ → Bool
is_own s a = is_configured s && ltb a CEC-LOG-ADDR-UNREGISTERED && has_bit (2 ^ a) s.settings.mask

-- addressed to the adapter: "to 15 or an own address"
abbrev pub is_here : State → ℕ → Bool
is_here s a = eqb a CEC-LOG-ADDR-BROADCAST || is_own s a
