-- Check 2 of transmit (W-202): whom an exclusive initiator keeps out.
-- Assumes nothing.
use Prim.Native.Nat.{ℕ}
use mathlib.Core.Bool.{true, false, ◌&&◌, not}
use mathlib.Core.Path.{◌≡◌, ap, ◌∙◌}
use Rattle.lists.specs.Tests.{and-true, and-false}
use Rattle.rules.specs.Derived.{Derived}
use Rattle.rules.specs.Handles.{handle_at, is_exclusive_follower}
use Rattle.rules.specs.State.{State}
use Rattle.rules.specs.Transmit.{is_excluded_by}

-- for a handle that is no exclusive follower, check 2 is document 01's: "Another handle is exclusive initiator"
pub excluded_as_before : (d : Derived) (s : State) (h : ℕ) → is_exclusive_follower (handle_at s h).mode ≡ false → is_excluded_by d s h ≡ d.other_initiator s h
excluded_as_before d s h e = ap (λ f. d.other_initiator s h && not f) e ∙ and-true (d.other_initiator s h)

-- the exclusive follower always passes it
pub exclusive_follower_passes : (d : Derived) (s : State) (h : ℕ) → is_exclusive_follower (handle_at s h).mode ≡ true → is_excluded_by d s h ≡ false
exclusive_follower_passes d s h e = ap (λ f. d.other_initiator s h && not f) e ∙ and-false (d.other_initiator s h)
