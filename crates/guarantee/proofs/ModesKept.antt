-- What keeps the modes that open handles have: no change of modes, a handle opened or closed, and a mode that is taken.
-- Assumes nothing.
use Prim.Native.Nat.{ℕ}
use mathlib.Core.Bool.{Bool, true, false, ◌&&◌, not}
use mathlib.Core.Path.{◌≡◌, refl, sym, ap, ◌∙◌}
use native.Mathlib.Omega.{arith}
use lib.ListN.{get_or, set}
use Rattle.constants.specs.Kernel.{EBADF, EINVAL, EPERM, EBUSY}
use Rattle.guarantee.proofs.AtMostOne.{one_set}
use Rattle.guarantee.specs.Modes.{ModesHeld}
use Rattle.handle.specs.declared.Handle.{Handle}
use Rattle.lists.specs.Elements.{set_rel}
use Rattle.lists.specs.Tests.{both, neither, clash}
use Rattle.rules.proofs.Checks.{passed}
use Rattle.rules.proofs.SameModes.{SameModes, modes_refl, same_handle, same_open, same_roles}
use Rattle.rules.specs.Close.{closed}
use Rattle.rules.specs.Handles.{handle_at, is_open, is_monitor, is_exclusive_initiator, is_exclusive_follower, in_role, another}
use Rattle.rules.specs.Mode.{is_mode_invalid, is_role_held, mode_refusal, in_mode}
use Rattle.rules.specs.Open.{opened_handle}
use Rattle.rules.specs.State.{State, closed_handle, with_handles}

-- no mode is set
pub same_held : (s t : State) → SameModes s t → ModesHeld s → ModesHeld t
same_held s t m k =
    let mode : (h : ℕ) → (handle_at t h).mode ≡ (handle_at s h).mode = λ h. ap (λ (x : Handle). x.mode) (same_handle s t m h) in
    let privileged : (h : ℕ) → (handle_at t h).privileged ≡ (handle_at s h).privileged = λ h. ap (λ (x : Handle). x.privileged) (same_handle s t m h) in
    let was : (h : ℕ) → is_open t h ≡ true → is_open s h ≡ true = λ h o. sym (same_open s t m h) ∙ o in
    record {
      valid = λ h o. rw (m.capabilities, mode h) (k.valid h (was h o));
      permitted = λ h o. rw (mode h, privileged h) (k.permitted h (was h o));
      initiator = rw (same_roles s t m is_exclusive_initiator) k.initiator;
      follower = rw (same_roles s t m is_exclusive_follower) k.follower;
    }

module _ (s : State) where
  -- a test that no open handle passes, with a handle set
  none_passes : (p : Handle → Bool) (i : ℕ) (v : Handle) → (v.is_open ≡ true → p v ≡ false) → ((h : ℕ) → is_open s h ≡ true → p (handle_at s h) ≡ false)
      → (h : ℕ) → (get_or (set s.handles i v) h closed_handle).is_open ≡ true → p (get_or (set s.handles i v) h closed_handle) ≡ false
  none_passes p i v a k h =
      set_rel (λ (x y : Handle). (y.is_open ≡ true → p y ≡ false) → x.is_open ≡ true → p x ≡ false) (λ x z. z) s.handles i h v closed_handle (λ _. a) (k h)

  -- a handle set in a mode that it may have, whose exclusive roles no other has
  set_held : (i : ℕ) (v : Handle) → (v.is_open ≡ true → is_mode_invalid s v.mode ≡ false) → (v.is_open ≡ true → (is_monitor v.mode && not v.privileged) ≡ false)
      → (in_role is_exclusive_initiator v ≡ true → another is_exclusive_initiator s i ≡ false) → (in_role is_exclusive_follower v ≡ true → another is_exclusive_follower s i ≡ false)
      → ModesHeld s → ModesHeld (with_handles s (set s.handles i v))
  set_held i v a b c d k = record {
    valid = none_passes (λ x. is_mode_invalid s x.mode) i v a k.valid;
    permitted = none_passes (λ x. is_monitor x.mode && not x.privileged) i v b k.permitted;
    initiator = omega (arith, one_set (in_role is_exclusive_initiator) s.handles i v c (omega (arith, k.initiator)));
    follower = omega (arith, one_set (in_role is_exclusive_follower) s.handles i v d (omega (arith, k.follower)));
  }

  -- the mode 0x01 of an open; none of a close
  pub opened_held : (i : ℕ) (p : Bool) → ModesHeld s → ModesHeld (with_handles s (set s.handles i (opened_handle p)))
  opened_held i p = set_held i (opened_handle p) (λ _. refl) (λ _. refl) (λ e. clash e refl) (λ e. clash e refl)

  pub closed_held : (g : ℕ) → ModesHeld s → ModesHeld (closed s g)
  closed_held g k =
      same_held (with_handles s (set s.handles g closed_handle)) (closed s g) (modes_refl (closed s g))
      (set_held g closed_handle (λ e. clash e refl) (λ e. clash e refl) (λ e. clash e refl) (λ e. clash e refl) k)

  -- a mode that passed the checks
  pub mode_held : (g mode : ℕ) → mode_refusal s g mode ≡ 0 → ModesHeld s → ModesHeld (with_handles s (set s.handles g (in_mode (handle_at s g) mode)))
  mode_held g mode z =
      let a = passed (not (is_open s g)) EBADF _ (omega arith) z in
      let b = passed (is_mode_invalid s mode) EINVAL _ (omega arith) a.1 in
      let c = passed (is_monitor mode && not (handle_at s g).privileged) EPERM _ (omega arith) b.1 in
      let d = passed (is_role_held s g mode) EBUSY 0 (omega arith) c.1 in
      let n = neither (is_exclusive_initiator mode && another is_exclusive_initiator s g) (is_exclusive_follower mode && another is_exclusive_follower s g) d.0 in
      set_held g (in_mode (handle_at s g) mode) (λ _. b.0) (λ _. c.0)
      (λ e. free is_exclusive_initiator (another is_exclusive_initiator s g) n.0 e)
      (λ e. free is_exclusive_follower (another is_exclusive_follower s g) n.1 e)
    where
      free : (p : ℕ → Bool) (held : Bool) → (p mode && held) ≡ false → in_role p (in_mode (handle_at s g) mode) ≡ true → held ≡ false
      free p held q e = rw (both (is_open s g) (p mode) e).1 at q
