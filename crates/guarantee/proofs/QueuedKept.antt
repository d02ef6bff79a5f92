-- What a transmit adds that is queued, and that it keeps the invariant.
-- Assumes nothing.
use Prim.Native.Nat.{ℕ, ◌+◌, ◌≤◌, ◌<◌}
use mathlib.Core.Bool.{true, ◌||◌, not}
use mathlib.Core.List.{[], ◌∷◌, ◌++◌, append_assoc}
use mathlib.Core.Logic.{◌≢◌}
use mathlib.Core.Path.{◌≡◌, ap, sym}
use native.Mathlib.Omega.{arith}
use lib.Dec.{eqb}
use lib.ListN.{length, length-append}
use borrow.Author.Tests.{eqb-true, ne_eqb, lt-ltb}
use Rattle.guarantee.proofs.Cases.{enqueued}
use Rattle.guarantee.proofs.Invariant.{Inv, improper, next_unused, next_some}
use Rattle.lists.specs.Sums.{sum, sum_append}
use Rattle.lists.specs.Tests.{bit, split, clash}
use Rattle.rules.proofs.Numbers.{carried_by}
use Rattle.rules.specs.Call.{Request}
use Rattle.rules.specs.Derived.{room_taken}
use Rattle.rules.specs.Handles.{is_open}
use Rattle.rules.specs.Number.{next_sequence}
use Rattle.rules.specs.Owed.{pending, room_owed, replies_wanted, wanted_replies}
use Rattle.rules.specs.State.{State}
use Rattle.rules.specs.Transmit.{transmission_of, wants_reply, timeout_of, new_room}
use Rattle.transmission.specs.Transmission.{room_for, reply_for, numbered}
use Rattle.transmission.specs.declared.Transmission.{Transmission}

-- it is pending after all others
pub pending_queued : (s : State) (g : ℕ) (x : Request) → pending (enqueued s g x) ≡ pending s ++ (transmission_of (next_sequence s) g x ∷ [])
pending_queued s g x = sym (append_assoc s.wire s.queue (transmission_of (next_sequence s) g x ∷ []))

-- a weight over what is pending has the new one's more
pub sum_queued : (f : Transmission → ℕ) (s : State) (g : ℕ) (x : Request) → sum f (pending (enqueued s g x)) ≡ sum f (pending s) + f (transmission_of (next_sequence s) g x)
sum_queued f s g x = rw (pending_queued s g x) (omega (arith, sum_append f (pending s) (transmission_of (next_sequence s) g x ∷ [])))

-- a wanted reply has a timeout
timeout_some : (x : Request) → (not (wants_reply x) || not (eqb (timeout_of x) 0)) ≡ true
timeout_some x =
    split (eqb x.timeout 0)
    (λ t. split (eqb x.reply 0) (λ e. rw (e, t)) (λ e. rw (e, t)))
    (λ t. split (eqb x.reply 0) (λ e. rw (e, t, t)) (λ e. rw (e, t, t)))

-- it is proper
queued_proper : (n g : ℕ) (x : Request) → n ≢ 0 → g < 8 → improper (transmission_of n g x) ≡ 0
queued_proper n g x d l = rw (lt-ltb g 8 l, ne_eqb n 0 d, timeout_some x)

-- a transmit that found a place and room keeps the invariant
pub queued_kept : (s : State) (g : ℕ) (x : Request) → g < 8 → is_open s g ≡ true → length s.queue < 18 → (wants_reply x ≡ true → wanted_replies s g < 4)
    → room_taken s g + new_room x ≤ 16 → Inv s → Inv (enqueued s g x)
unfolding replies_wanted room_owed carried_by
queued_kept s g x l o f w m r =
    let t = transmission_of (next_sequence s) g x in
    record {
      handles = r.handles;
      inboxes = r.inboxes;
      queued = rw length-append (omega arith);
      wired = r.wired;
      transmissions = omega (arith, r.transmissions, sum_queued improper s g x, queued_proper (next_sequence s) g x (next_some s) l);
      waiting = r.waiting;
      timed = r.timed;
      once = λ n d. split (eqb (next_sequence s) n)
          (λ q. let p = eqb-true (next_sequence s) n q in omega (arith, sum_queued (λ y. bit (numbered n y)) s g x, ap bit q, rw p at (next_unused s r)))
          (λ q. omega (arith, sum_queued (λ y. bit (numbered n y)) s g x, ap bit q, r.once n d));
      asks = λ h k. split (eqb g h)
          (λ q.
          let p = eqb-true g h q in
          let v : reply_for h t ≡ bit (wants_reply x) = rw q in
          split (wants_reply x)
          (λ z. omega (arith, sum_queued (reply_for h) s g x, ap bit z, rw p at (w z)))
          (λ z. omega (arith, sum_queued (reply_for h) s g x, ap bit z, r.asks h k)))
          (λ q. let v : reply_for h t ≡ 0 = rw q in omega (arith, sum_queued (reply_for h) s g x, r.asks h k));
      room = λ h k. split (eqb g h)
          (λ q. let p = eqb-true g h q in let v : room_for h t ≡ new_room x = rw q in omega (arith, sum_queued (room_for h) s g x, rw p at m))
          (λ q. let v : room_for h t ≡ 0 = rw q in omega (arith, sum_queued (room_for h) s g x, r.room h k));
      none = λ h k e. split (eqb g h)
          (λ q. clash o (rw (eqb-true g h q) e))
          (λ q. let v : room_for h t ≡ 0 = rw q in omega (arith, sum_queued (room_for h) s g x, r.none h k e));
    }
