-- An unconfigure ends every transmission with a result and every wait with its entry.
-- Assumes nothing.
use Prim.Native.Nat.{ℕ, ◌+◌, ◌≤◌}
use mathlib.Core.List.{List}
use mathlib.Core.Path.{◌≡◌, refl, ap, ◌∙◌}
use native.Mathlib.Omega.{arith}
use lib.Dec.{eqb}
use lib.ListN.{length}
use Rattle.constants.specs.Kernel.{CEC-TX-STATUS-ABORTED}
use Rattle.entry.specs.declared.Entry.{Entry}
use Rattle.guarantee.proofs.Carried.{waiting_as}
use Rattle.guarantee.proofs.Comes.{comes}
use Rattle.guarantee.proofs.Ends.{Ends, begins, shown_reply, aborts}
use Rattle.guarantee.proofs.Invariant.{Inv}
use Rattle.lists.specs.Sums.{sum_zero, sum-le, count}
use Rattle.lists.specs.Tests.{bit, split}
use Rattle.rules.proofs.Aside.{aside_refl}
use Rattle.rules.proofs.Entries.{abort_entry_shows}
use Rattle.rules.proofs.Mail.{posts_only, posts_boxes}
use Rattle.rules.proofs.SameModes.{modes_refl}
use Rattle.rules.specs.Call.{call_unconfigure}
use Rattle.rules.specs.Deliver.{each}
use Rattle.rules.specs.Owed.{pending, room_owed, owed_room}
use Rattle.rules.specs.State.{State, with_inboxes}
use Rattle.rules.specs.Unconfigure.{aborted_result, abort_transmit, abort_entry, abort_wait, unset}
use Rattle.transmission.specs.Transmission.{room_for}
use Rattle.transmission.specs.declared.Transmission.{Transmission}
use Rattle.wait.specs.Wait.{owned_by}
use Rattle.wait.specs.declared.Wait.{Wait}

-- room is owed for each transmission
pub owed_each : (h : ℕ) (x : Transmission) → bit (eqb x.owner h) ≤ room_for h x
owed_each h x = split (eqb x.owner h) (λ e. rw e (omega arith)) (λ e. rw e (omega arith))

-- what a handle gets is no more than it was owed
owed_all : (s : State) (h : ℕ) → owed_room (unset s) h + count (λ x. eqb x.owner h) (pending s) + count (owned_by h) s.waits ≤ owed_room s h
unfolding room_owed
owed_all s h = omega (arith, sum-le (λ (x : Transmission). bit (eqb x.owner h)) (room_for h) (pending s) (owed_each h))

module _ (s : State) where
  -- the state afterwards: all but the inboxes is as unset leaves it
  abbrev after : State
  after = each abort_wait (each abort_transmit (unset s) (pending s)) s.waits

  only : after ≡ with_inboxes (unset s) after.inboxes
  only =
      posts_only (λ (w : Wait). w.owner) abort_entry (each abort_transmit (unset s) (pending s)) s.waits
      ∙ ap (λ (x : State). with_inboxes x after.inboxes) (posts_only (λ (x : Transmission). x.owner) aborted_result (unset s) (pending s))

  boxes : length after.inboxes ≡ length s.inboxes
  boxes =
      posts_boxes (λ (w : Wait). w.owner) abort_entry (each abort_transmit (unset s) (pending s)) s.waits
      ∙ posts_boxes (λ (x : Transmission). x.owner) aborted_result (unset s) (pending s)

  all_end : (is : List (List Entry)) → Inv s → is ≡ after.inboxes → Ends s call_unconfigure (with_inboxes (unset s) is)
  unfolding waiting_as
  all_end is r e = record {
    sent = pending s;
    over = s.waits;
    by = aborts abort_entry (λ w. shown_reply (abort_entry_shows w) (omega arith)) (λ w _. refl) (λ w. refl);
    ending = refl;
    clocked = omega arith;
    comes = λ h l. comes aborted_result abort_entry h l s s (unset s) (with_inboxes (unset s) is) (pending s) s.waits r (aside_refl s) refl e (owed_all s h);
    closes = λ h. refl;
    modes = modes_refl s;
    inboxes = ap length e ∙ boxes ∙ r.inboxes;
    queued = omega arith;
    wired = omega arith;
    sends = λ f z. omega arith;
    waits = λ f z. omega (arith, sum_zero (begins f CEC-TX-STATUS-ABORTED 0) (pending s) (λ x. refl));
    older = λ f z. omega arith;
    nearer = λ f z. omega arith;
    timed = refl;
    late = λ h n b. omega arith;
  }

  -- an unconfigure
  pub unconfigure_ends : Inv s → Ends s call_unconfigure (each abort_wait (each abort_transmit (unset s) (pending s)) s.waits)
  unconfigure_ends r = rw only (all_end after.inboxes r refl)
