-- Open handles are in modes that they may set, in every state that calls lead to from a fresh adapter; so setting one's own mode again succeeds.
-- Assumes nothing.
use Prim.Native.Nat.{ℕ, ◌≤◌}
use mathlib.Core.Bool.{Bool, true, false, ◌&&◌}
use mathlib.Core.List.{List, [], ◌∷◌}
use mathlib.Core.Path.{◌≡◌, ap, ◌∙◌}
use native.Mathlib.Omega.{arith}
use lib.Seq.{set-get_or}
use Rattle.guarantee.proofs.AtMostOne.{no_other}
use Rattle.guarantee.proofs.ByCases.{by_cases}
use Rattle.guarantee.proofs.Cases.{Cases, calm}
use Rattle.guarantee.proofs.Invariant.{Inv, open_below}
use Rattle.guarantee.proofs.Keeps.{keeps}
use Rattle.guarantee.proofs.ModesKept.{same_held, opened_held, closed_held}
use Rattle.guarantee.proofs.Reached.{fresh_closed, fresh_inv, reached}
use Rattle.guarantee.specs.Modes.{ModesHeld, AlwaysHeld, OwnModeAgain}
use Rattle.handle.specs.declared.Handle.{Handle}
use Rattle.lists.specs.Sums.{count}
use Rattle.lists.specs.Tests.{split, clash}
use Rattle.rules.proofs.Checks.{unless_done}
use Rattle.rules.proofs.SameModes.{modes_refl}
use Rattle.rules.specs.Call.{Call, check, done, finish}
use Rattle.rules.specs.Handles.{handle_at, is_open, is_exclusive_initiator, is_exclusive_follower, in_role, another}
use Rattle.rules.specs.Mode.{do_mode, mode_refusal}
use Rattle.rules.specs.State.{State, Capabilities, fresh, closed_handle, with_handles}
use Rattle.rules.specs.Step.{after, step}

-- every call keeps them
held_cases : (s : State) → ModesHeld s → Cases s (λ c o. ModesHeld o.state)
held_cases s k = record {
  when_quiet = λ c a t q _. same_held t (calm s t) (modes_refl t) (q.modes k);
  when_opened = λ i p _ _ _. opened_held s i p k;
  when_closed = λ g _ _ _. closed_held s g k;
  when_queued = λ g r _ _ _ _ _ _. same_held s _ (modes_refl s) k;
  when_received = λ g e es _ _ _ _. same_held s _ (modes_refl s) k;
  when_started = λ x q _ _ _. same_held s _ (modes_refl s) k;
  when_ended = λ c t e. same_held s t e.modes k;
}

held_after : (s : State) (cs : List Call) → Inv s → ModesHeld s → ModesHeld (after s cs)
held_after s [] r k = k
held_after s (c ∷ cs) r k = held_after (step s c).state cs (keeps s c r) (by_cases s r (λ c o. ModesHeld o.state) (held_cases s k) c)

-- no handle of a fresh adapter is open
fresh_held : (c : Capabilities) → ModesHeld (fresh c)
unfolding fresh
fresh_held c = record {
  valid = λ h o. clash o (fresh_closed c h);
  permitted = λ h o. clash o (fresh_closed c h);
  initiator = omega arith;
  follower = omega arith;
}

pub always_held : AlwaysHeld
always_held c calls = held_after (fresh c) calls (fresh_inv c) (fresh_held c)

-- ---- one's own mode
module _ (s : State) (r : Inv s) (k : ModesHeld s) (h : ℕ) (o : is_open s h ≡ true) where
  -- no other has an exclusive role that the handle has
  not_held : (p : ℕ → Bool) → count (in_role p) s.handles ≤ 1 → (p (handle_at s h).mode && another p s h) ≡ false
  not_held p l =
      split (p (handle_at s h).mode)
      (λ e. rw (e, no_other (in_role p) s.handles h closed_handle (omega (arith, open_below s h r o, r.handles)) l (rw (o, e))))
      (λ e. rw e)

  not_refused : mode_refusal s h (handle_at s h).mode ≡ 0
  unfolding check
  not_refused = rw (o, k.valid h o, k.permitted h o, not_held is_exclusive_initiator (omega (arith, k.initiator)), not_held is_exclusive_follower (omega (arith, k.follower)))

  own_mode : do_mode s h (handle_at s h).mode ≡ finish done s
  unfolding do_mode
  own_mode = unless_done s _ _ not_refused ∙ ap (λ (hs : List Handle). finish done (with_handles s hs)) (set-get_or s.handles h closed_handle)

pub own_mode_again : OwnModeAgain
own_mode_again c calls h o = own_mode (after (fresh c) calls) (reached c calls) (always_held c calls) h o
