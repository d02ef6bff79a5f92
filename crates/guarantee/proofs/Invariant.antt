-- What holds of every state that calls lead to from a fresh adapter.
-- Assumes nothing.
use Prim.Native.Nat.{ℕ, ◌+◌, ◌≤◌, ◌<◌}
use mathlib.Core.Bool.{Bool, true, false, cond, ◌&&◌, ◌||◌, not}
use mathlib.Core.Logic.{◌≢◌}
use mathlib.Core.Path.{◌≡◌, ap}
use native.Mathlib.Omega.{arith}
use lib.Dec.{eqb, ltb, leb}
use lib.ListN.{length, length-append, get_or-eq_default}
use borrow.Author.Tests.{ltb-true, ltb-false, leb-true, le-ltb}
use Rattle.handle.specs.declared.Handle.{Handle}
use Rattle.lists.specs.Pigeonhole.{upto}
use Rattle.lists.specs.Spread.{spread}
use Rattle.lists.specs.Sums.{sum, length_sum, sum-le, sum_same, count}
use Rattle.lists.specs.Tests.{bit, split, clash, cond_bit}
use Rattle.rules.proofs.Numbers.{carried_by, next_free, next_pos, free_carried}
use Rattle.rules.specs.Derived.{room_taken}
use Rattle.rules.specs.Handles.{is_open}
use Rattle.rules.specs.Number.{next_sequence}
use Rattle.rules.specs.Owed.{pending, replies_wanted, wanted_replies}
use Rattle.rules.specs.State.{State, closed_handle}
use Rattle.transmission.specs.Transmission.{reply_for}
use Rattle.transmission.specs.declared.Transmission.{Transmission}
use Rattle.wait.specs.Wait.{owned_by}
use Rattle.wait.specs.declared.Wait.{Wait}

-- a transmission of a handle has a number, and a timeout if it wants a reply; one without owner has number 0 and wants none
abbrev pub is_proper : Transmission → Bool
is_proper t = cond (ltb t.owner 8) (not (eqb t.sequence 0) && (not t.wants_reply || not (eqb t.timeout 0))) (eqb t.sequence 0 && not t.wants_reply)

-- 1 for one that is not so
abbrev pub improper : Transmission → ℕ
improper t = bit (not (is_proper t))

-- a wait is of a handle and has a number
abbrev pub improper_wait : Wait → ℕ
improper_wait w = bit (not (ltb w.owner 8 && not (eqb w.sequence 0)))

-- a wait with no time left
abbrev pub spent : Wait → ℕ
spent w = bit (eqb w.left 0)

pub record Inv (s : State) : Type 0 where
  pub handles : length s.handles ≡ 8
  pub inboxes : length s.inboxes ≡ 8
  pub queued : length s.queue ≤ 18
  pub wired : length s.wire ≤ 1
  pub transmissions : sum improper (pending s) ≡ 0
  pub waiting : sum improper_wait s.waits ≡ 0
  pub timed : sum spent s.waits ≡ 0
  -- a number is carried once
  pub once : (n : ℕ) → n ≢ 0 → carried_by (pending s) s.waits n ≤ 1
  -- a handle wants at most 4 replies, has room for what it is owed, and, if it is closed, neither holds nor owes anything
  pub asks : (h : ℕ) → h < 8 → wanted_replies s h ≤ 4
  pub room : (h : ℕ) → h < 8 → room_taken s h ≤ 16
  pub none : (h : ℕ) → h < 8 → is_open s h ≡ false → room_taken s h ≡ 0

-- only numbers below 8 are open
pub open_below : (s : State) (g : ℕ) → Inv s → is_open s g ≡ true → g < 8
open_below s g r e =
    split (ltb g 8)
    (λ l. ltb-true g 8 l)
    (λ l. clash e (ap (λ (x : Handle). x.is_open) (get_or-eq_default s.handles closed_handle {n = g} (omega (arith, r.handles, ltb-false g 8 l)))))

-- ---- the waits are few: those that wait and those that want a reply are at most 4 for each handle
-- a wait without a handle, and a transmission without one that wants a reply, is improper
away_improper : (w : Wait) → cond (leb 8 w.owner) 1 0 ≤ improper_wait w
away_improper w =
    split (leb 8 w.owner)
    (λ e. rw (e, le-ltb w.owner 8 (leb-true 8 w.owner e)) (omega arith))
    (λ e. rw e (omega arith))

wants_improper : (t : Transmission) → cond (leb 8 t.owner) (bit t.wants_reply) 0 ≤ improper t
wants_improper t =
    split (leb 8 t.owner)
    (λ e. rw (e, le-ltb t.owner 8 (leb-true 8 t.owner e))
    (split t.wants_reply
    (λ q. split (eqb t.sequence 0) (λ z. rw (q, z) (omega arith)) (λ z. rw (q, z) (omega arith)))
    (λ q. rw q (omega arith))))
    (λ e. rw e (omega arith))

-- all waits are those of the handles together, and all wanted replies too
waits_spread : (s : State) → Inv s → length s.waits ≤ upto (λ h. count (owned_by h) s.waits) 8
waits_spread s r =
    let same : (h : ℕ) → sum (λ (w : Wait). cond (eqb w.owner h) 1 0) s.waits ≡ count (owned_by h) s.waits =
    λ h. sum_same (λ (w : Wait). cond (eqb w.owner h) 1 0) (λ w. bit (owned_by h w)) s.waits (λ w. cond_bit (eqb w.owner h)) in
    omega (
      arith,
      length_sum s.waits,
      spread (λ (w : Wait). w.owner) (λ w. 1) 8 s.waits,
      sum-le (λ (w : Wait). cond (leb 8 w.owner) 1 0) improper_wait s.waits away_improper,
      r.waiting,
      same 0,
      same 1,
      same 2,
      same 3,
      same 4,
      same 5,
      same 6,
      same 7,
    )

wants_spread : (s : State) → Inv s → sum (λ (t : Transmission). bit t.wants_reply) (pending s) ≤ upto (λ h. sum (reply_for h) (pending s)) 8
wants_spread s r =
    omega (
      arith,
      spread (λ (t : Transmission). t.owner) (λ t. bit t.wants_reply) 8 (pending s),
      sum-le (λ (t : Transmission). cond (leb 8 t.owner) (bit t.wants_reply) 0) improper (pending s) wants_improper,
      r.transmissions,
    )

-- so there are at most 32 of both together
pub few : (s : State) → Inv s → length s.waits + sum (λ (t : Transmission). bit t.wants_reply) (pending s) ≤ 32
unfolding replies_wanted
few s r =
    let a = r.asks in
    omega (
      arith,
      waits_spread s r,
      wants_spread s r,
      a 0 (omega arith),
      a 1 (omega arith),
      a 2 (omega arith),
      a 3 (omega arith),
      a 4 (omega arith),
      a 5 (omega arith),
      a 6 (omega arith),
      a 7 (omega arith),
    )

-- 18 queued and 1 on the wire
pub few_pending : (s : State) → Inv s → length (pending s) ≤ 19
few_pending s r = omega (arith, length-append s.wire s.queue, r.queued, r.wired)

-- ---- the number that the next transmit is given: nothing carries it, and it is not 0
pub next_unused : (s : State) → Inv s → carried_by (pending s) s.waits (next_sequence s) ≡ 0
next_unused s r =
    let a = few s r in
    let b = few_pending s r in
    free_carried (pending s) s.waits (next_sequence s) (next_free (pending s) s.waits s.last (omega arith))

pub next_some : (s : State) → next_sequence s ≢ 0
next_some s = next_pos (pending s) s.waits s.last
