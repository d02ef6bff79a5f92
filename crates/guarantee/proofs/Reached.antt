-- The invariant holds of a fresh adapter and after any calls.
-- Assumes nothing.
use Prim.Native.Nat.{ℕ}
use mathlib.Core.Bool.{false}
use mathlib.Core.List.{List, [], ◌∷◌}
use mathlib.Core.Path.{◌≡◌, refl, ap}
use native.Mathlib.Omega.{arith}
use lib.ListN.{length}
use Rattle.entry.specs.declared.Entry.{Entry}
use Rattle.guarantee.proofs.Invariant.{Inv}
use Rattle.guarantee.proofs.Keeps.{keeps}
use Rattle.handle.specs.declared.Handle.{Handle}
use Rattle.inbox.specs.Inboxes.{inbox_of}
use Rattle.lists.specs.Elements.{get_d_replicated}
use Rattle.rules.proofs.Numbers.{carried_by}
use Rattle.rules.specs.Call.{Call}
use Rattle.rules.specs.Handles.{is_open}
use Rattle.rules.specs.Owed.{room_owed, replies_wanted}
use Rattle.rules.specs.State.{State, Capabilities, fresh, closed_handle}
use Rattle.rules.specs.Step.{after, step}

-- all handles are closed, and all inboxes empty
pub fresh_closed : (c : Capabilities) (h : ℕ) → is_open (fresh c) h ≡ false
unfolding fresh
fresh_closed c h = ap (λ (x : Handle). x.is_open) (get_d_replicated 8 h closed_handle)

fresh_empty : (c : Capabilities) (h : ℕ) → length (inbox_of (fresh c).inboxes h) ≡ 0
unfolding fresh
fresh_empty c h = ap length (get_d_replicated {A = List Entry} 8 h [])

-- so the invariant holds
pub fresh_inv : (c : Capabilities) → Inv (fresh c)
unfolding fresh room_owed replies_wanted carried_by
fresh_inv c = record {
  handles = refl;
  inboxes = refl;
  queued = omega arith;
  wired = omega arith;
  transmissions = refl;
  waiting = refl;
  timed = refl;
  once = λ n d. omega arith;
  asks = λ h l. omega arith;
  room = λ h l. omega (arith, fresh_empty c h);
  none = λ h l e. omega (arith, fresh_empty c h);
}

-- every call of a list keeps the invariant
pub kept : (s : State) (cs : List Call) → Inv s → Inv (after s cs)
kept s [] r = r
kept s (c ∷ cs) r = kept (step s c).state cs (keeps s c r)

-- every state that calls lead to from a fresh adapter
pub reached : (c : Capabilities) (calls : List Call) → Inv (after (fresh c) calls)
reached c calls = kept (fresh c) calls (fresh_inv c)
