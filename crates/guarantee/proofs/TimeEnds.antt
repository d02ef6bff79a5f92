-- Time passing ends the waits with no more left than that, with entries of their numbers.
-- Assumes nothing.
use Prim.Native.Nat.{ℕ, ◌+◌, ◌-◌, ◌≤◌}
use mathlib.Core.Bool.{cond, not}
use mathlib.Core.List.{List, []}
use mathlib.Core.Path.{◌≡◌, refl, ap, ◌∙◌}
use native.Mathlib.Omega.{arith}
use lib.Dec.{leb, ltb}
use lib.ListN.{length}
use borrow.Author.Tests.{ltb-false, leb-false, ne_eqb, le-ltb}
use Rattle.entry.specs.declared.Entry.{Entry}
use Rattle.guarantee.proofs.Carried.{is_of, awaited_as, waiting_as}
use Rattle.guarantee.proofs.Comes.{comes}
use Rattle.guarantee.proofs.Ends.{Ends, Timeless, shown_reply, aborts}
use Rattle.guarantee.proofs.Invariant.{Inv, spent}
use Rattle.lists.specs.Order.{sum_sort}
use Rattle.lists.specs.Sums.{sum, sum-map, sum_keep, sum_split, sum_same, sum_zero, sum-le, count, keep}
use Rattle.lists.specs.Tests.{bit, split}
use Rattle.rules.proofs.Aside.{aside_refl}
use Rattle.rules.proofs.Entries.{timeout_entry_shows}
use Rattle.rules.proofs.Mail.{posts_only, posts_boxes}
use Rattle.rules.proofs.SameModes.{modes_refl}
use Rattle.rules.specs.Call.{call_time}
use Rattle.rules.specs.Deliver.{each}
use Rattle.rules.specs.Owed.{room_owed, owed_room}
use Rattle.rules.specs.State.{State, with_inboxes, with_waits}
use Rattle.rules.specs.Time.{overdue, remaining, time_out, timeout_entry}
use Rattle.rules.specs.Unconfigure.{aborted_result}
use Rattle.wait.specs.Wait.{left_of, reduced, owned_by}
use Rattle.wait.specs.declared.Wait.{Wait}

module _ (ms : ℕ) where
  -- a wait ends or goes on
  pub sum_time : (f : Wait → ℕ) → Timeless f → (ws : List Wait) → sum f (remaining ms ws) + sum f (overdue ms ws) ≡ sum f ws
  sum_time f same ws =
      let over = keep (λ w. leb (left_of w) ms) ws in
      let rest = keep (λ w. not (leb (left_of w) ms)) ws in
      omega (
        arith,
        sum_sort f left_of over,
        sum_split f (λ w. leb (left_of w) ms) ws,
        sum-map f (reduced ms) rest,
        sum_same (λ w. f (reduced ms w)) f rest (same ms),
      )

  -- of those that go on: a weight, with the time taken off
  sum_remaining : (f : Wait → ℕ) (ws : List Wait) → sum f (remaining ms ws) ≡ sum (λ w. cond (not (leb (left_of w) ms)) (f (reduced ms w)) 0) ws
  sum_remaining f ws =
      sum-map f (reduced ms) (keep (λ w. not (leb (left_of w) ms)) ws)
      ∙ sum_keep (λ w. f (reduced ms w)) (λ w. not (leb (left_of w) ms)) ws

  -- a wait that goes on has time left, less by the time that passed
  left_some : (w : Wait) → cond (not (leb (left_of w) ms)) (spent (reduced ms w)) 0 ≡ 0
  left_some w =
      split (leb (left_of w) ms)
      (λ e. rw e)
      (λ e. rw (e, ne_eqb (w.left - ms) 0 (λ (p : w.left - ms ≡ 0). omega (arith, leb-false w.left ms e))))

  left_less : (h n b : ℕ) (w : Wait) → cond (not (leb (left_of w) ms)) (awaited_as (λ v. ltb (b - ms) v.left) h n (reduced ms w)) 0 ≤ awaited_as (λ v. ltb b v.left) h n w
  left_less h n b w =
      split (leb (left_of w) ms)
      (λ e. rw e (omega arith))
      (λ e. split (is_of h n w)
      (λ q. split (ltb b w.left)
      (λ z. split (ltb (b - ms) (w.left - ms)) (λ y. rw (e, q, z, y) (omega arith)) (λ y. rw (e, q, z, y) (omega arith)))
      (λ z. rw (e, q, z, le-ltb (b - ms) (w.left - ms) (omega (arith, ltb-false b w.left z))) (omega arith)))
      (λ q. rw (e, q) (omega arith)))

  -- a handle is owed less by the entries that it gets
  owed_time : (s : State) (h : ℕ) → owed_room (with_waits s (remaining ms s.waits)) h + 0 + count (owned_by h) (overdue ms s.waits) ≤ owed_room s h
  unfolding room_owed
  owed_time s h = omega (arith, sum_time (λ w. bit (owned_by h w)) (λ k w. refl) s.waits)

  in_time : (s : State) (is : List (List Entry)) → Inv s → is ≡ (each time_out (with_waits s (remaining ms s.waits)) (overdue ms s.waits)).inboxes
      → Ends s (call_time ms) (with_inboxes (with_waits s (remaining ms s.waits)) is)
  unfolding waiting_as
  in_time s is r e =
      let timed = with_waits s (remaining ms s.waits) in
      record {
        sent = [];
        over = overdue ms s.waits;
        by = aborts timeout_entry (λ w. shown_reply (timeout_entry_shows w) (omega arith)) (λ w _. refl) (λ w. refl);
        ending = refl;
        clocked = omega arith;
        comes = λ h l. comes aborted_result timeout_entry h l s s timed (with_inboxes timed is) [] (overdue ms s.waits) r (aside_refl s) refl e (owed_time s h);
        closes = λ h. refl;
        modes = modes_refl s;
        inboxes = ap length e ∙ posts_boxes (λ (w : Wait). w.owner) timeout_entry timed (overdue ms s.waits) ∙ r.inboxes;
        queued = r.queued;
        wired = r.wired;
        sends = λ f z. omega arith;
        waits = λ f z. omega (arith, sum_time f z s.waits);
        older = λ f z. omega (arith, sum_time f z s.waits);
        nearer = λ f z. omega arith;
        timed = sum_remaining spent s.waits ∙ sum_zero (λ w. cond (not (leb (left_of w) ms)) (spent (reduced ms w)) 0) s.waits left_some;
        late = λ h n b. omega (
          arith,
          sum_remaining (awaited_as (λ v. ltb (b - ms) v.left) h n) s.waits,
          sum-le (λ w. cond (not (leb (left_of w) ms)) (awaited_as (λ v. ltb (b - ms) v.left) h n (reduced ms w)) 0) (awaited_as (λ v. ltb b v.left) h n) s.waits (left_less h n b),
        );
      }

  -- time that passes
  pub time_ends : (s : State) → Inv s → Ends s (call_time ms) (each time_out (with_waits s (remaining ms s.waits)) (overdue ms s.waits))
  time_ends s r =
      rw (posts_only (λ (w : Wait). w.owner) timeout_entry (with_waits s (remaining ms s.waits)) (overdue ms s.waits))
      (in_time s _ r refl)
