-- What a close leaves to be sent and to wait for, and that it keeps the invariant.
-- Assumes nothing.
use Prim.Native.Nat.{ℕ, ◌≤◌, ◌<◌}
use mathlib.Core.Bool.{cond, not}
use mathlib.Core.List.{List, [], map}
use mathlib.Core.Logic.{◌≢◌}
use mathlib.Core.Path.{◌≡◌, refl, ap, ◌∙◌, sym}
use native.Mathlib.Omega.{arith}
use lib.Dec.{eqb}
use lib.ListN.{length, length-map, length-set}
use lib.Seq.{get_or-set_same, get_or-set_other}
use borrow.Author.Tests.{eqb-true, eqb-false, ne_eqb}
use Rattle.entry.specs.declared.Entry.{Entry}
use Rattle.guarantee.proofs.Invariant.{Inv, improper, improper_wait, spent}
use Rattle.handle.specs.declared.Handle.{Handle}
use Rattle.lists.specs.Elements.{map-append, set_rel}
use Rattle.lists.specs.Sums.{sum, sum-map, sum-le, sum_zero, sum_keep, sum_keep_le}
use Rattle.lists.specs.Tests.{bit, split}
use Rattle.rules.proofs.Aside.{Owned, no_owner_lem, room_owned}
use Rattle.rules.proofs.Numbers.{carried_by}
use Rattle.rules.specs.Close.{closed}
use Rattle.rules.specs.Derived.{room_taken}
use Rattle.rules.specs.Owed.{pending, room_owed, replies_wanted}
use Rattle.rules.specs.State.{State, closed_handle}
use Rattle.transmission.specs.Transmission.{orphaned, room_for, reply_for, numbered}
use Rattle.transmission.specs.declared.Transmission.{Transmission}
use Rattle.wait.specs.Wait
use Rattle.wait.specs.Wait.{owned_by}
use Rattle.wait.specs.declared.Wait.{Wait}

-- what is pending loses the handle as its owner
pub pending_closed : (s : State) (g : ℕ) → pending (closed s g) ≡ map (orphaned g) (pending s)
pending_closed s g = sym (map-append (orphaned g) s.wire s.queue)

-- a weight over what a close leaves to be sent
pub sum_closed : (f : Transmission → ℕ) (s : State) (g : ℕ) → sum f (pending (closed s g)) ≡ sum (λ t. f (orphaned g t)) (pending s)
sum_closed f s g = ap (sum f) (pending_closed s g) ∙ sum-map f (orphaned g) (pending s)

-- which is less for one that counts none without owner
pub orphaned_less : (f : Transmission → ℕ) → Owned f → (g : ℕ) (t : Transmission) → f (orphaned g t) ≤ f t
orphaned_less f z g t = split (eqb t.owner g) (λ e. rw e (omega (arith, z t.message))) (λ e. rw e (omega arith))

pub sum_closed_le : (f : Transmission → ℕ) → Owned f → (s : State) (g : ℕ) → sum f (pending (closed s g)) ≤ sum f (pending s)
sum_closed_le f z s g = omega (arith, sum_closed f s g, sum-le (λ t. f (orphaned g t)) f (pending s) (orphaned_less f z g))

-- the weights of a handle and of a number count none without owner
pub reply_owned : (h : ℕ) → h < 8 → Owned (reply_for h)
reply_owned h l m = rw (no_owner_lem h l)

pub numbered_owned : (n : ℕ) → n ≢ 0 → Owned (λ t. bit (numbered n t))
numbered_owned n d m = rw (ne_eqb 0 n (λ (p : 0 ≡ n). d (sym p)))

-- of the handle itself nothing is left
owed_orphaned : (g : ℕ) (t : Transmission) → g < 8 → room_for g (orphaned g t) ≡ 0
owed_orphaned g t l = split (eqb t.owner g) (λ e. rw (e, no_owner_lem g l)) (λ e. rw (e, e))

wait_gone : (g : ℕ) (w : Wait) → cond (not (owned_by g w)) (bit (owned_by g w)) 0 ≡ 0
wait_gone g w = split (owned_by g w) (λ e. rw e) (λ e. rw e)

-- the handle's inbox is empty and it is owed nothing; another's is no fuller than before
room_closed_same : (s : State) (g : ℕ) → Inv s → g < 8 → room_taken (closed s g) g ≡ 0
unfolding room_owed
room_closed_same s g r l =
    rw (get_or-set_same s.inboxes g [] [] (omega (arith, r.inboxes)))
    (omega (
      arith,
      sum_closed (room_for g) s g,
      sum_zero (λ t. room_for g (orphaned g t)) (pending s) (λ t. owed_orphaned g t l),
      sum_keep (λ w. bit (owned_by g w)) (λ w. not (owned_by g w)) s.waits,
      sum_zero (λ w. cond (not (owned_by g w)) (bit (owned_by g w)) 0) s.waits (wait_gone g),
    ))

room_closed_le : (s : State) (g h : ℕ) → h < 8 → room_taken (closed s g) h ≤ room_taken s h
unfolding room_owed
room_closed_le s g h l =
    omega (
      arith,
      set_rel (λ (a b : List Entry). length a ≤ length b) (λ a. omega arith) s.inboxes g h [] [] (omega arith),
      sum_closed_le (room_for h) (room_owned h l) s g,
      sum_keep_le (λ w. bit (owned_by h w)) (λ w. not (owned_by g w)) s.waits,
    )

-- a close keeps the invariant
pub closed_kept : (s : State) (g : ℕ) → g < 8 → Inv s → Inv (closed s g)
unfolding replies_wanted carried_by
closed_kept s g l r = record {
  handles = length-set s.handles g closed_handle ∙ r.handles;
  inboxes = length-set s.inboxes g [] ∙ r.inboxes;
  queued = rw length-map r.queued;
  wired = rw length-map r.wired;
  transmissions = omega (arith, r.transmissions, sum_closed_le improper (λ m. refl) s g);
  waiting = omega (arith, r.waiting, sum_keep_le improper_wait (λ w. not (owned_by g w)) s.waits);
  timed = omega (arith, r.timed, sum_keep_le spent (λ w. not (owned_by g w)) s.waits);
  once = λ n d. omega (arith, r.once n d, sum_closed_le (λ t. bit (numbered n t)) (numbered_owned n d) s g, sum_keep_le (λ w. bit (Wait.numbered n w)) (λ w. not (owned_by g w)) s.waits);
  asks = λ h k. omega (arith, r.asks h k, sum_closed_le (reply_for h) (reply_owned h k) s g, sum_keep_le (λ w. bit (owned_by h w)) (λ w. not (owned_by g w)) s.waits);
  room = λ h k. omega (arith, r.room h k, room_closed_le s g h k);
  none = λ h k e. split (eqb h g)
      (λ q. rw (eqb-true h g q) (room_closed_same s g r l))
      (λ q. omega (arith, room_closed_le s g h k, r.none h k (ap (λ (x : Handle). x.is_open) (sym (get_or-set_other s.handles g h closed_handle closed_handle (eqb-false h g q))) ∙ e)));
}
