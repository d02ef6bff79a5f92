-- A message from the wire ends the oldest wait that it matches, if there is one, with its reply.
-- Assumes nothing.
use Prim.Native.Nat.{ℕ, ◌+◌, ◌-◌, ◌≤◌, ◌<◌}
use mathlib.Core.Bool.{Bool, true, false}
use mathlib.Core.List.{List, [], ◌∷◌, map}
use mathlib.Core.Path.{◌≡◌, refl, ◌∙◌}
use native.Mathlib.Omega.{arith}
use lib.Dec.{ltb}
use lib.ListN.{length, get_or, length-set}
use borrow.Author.Tests.{ltb-true}
use Rattle.constants.specs.Kernel.{CEC-RX-STATUS-OK}
use Rattle.entry.specs.Entry.{message_copy}
use Rattle.entry.specs.declared.Entry.{Entry}
use Rattle.guarantee.proofs.Carried.{awaited_as, waiting_as}
use Rattle.guarantee.proofs.Comes.{comes, comes_then}
use Rattle.guarantee.proofs.Ends.{Ends, Replies, shown_reply, aborts, aside_ends}
use Rattle.guarantee.proofs.Invariant.{Inv, spent}
use Rattle.lists.specs.Last.{last_more}
use Rattle.lists.specs.Places.{first, without, sum_without}
use Rattle.lists.specs.Sums.{count}
use Rattle.lists.specs.Tests.{bit, split, clash}
use Rattle.message.specs.Message.{opcode, is_feature_abort}
use Rattle.message.specs.declared.Message.{Message}
use Rattle.rules.proofs.Aside.{Aside, aside_trans, aside_pending, aside_sum, core_weightless, room_owned, copies_aside, notes_aside, answers_aside, followed_aside, refused_message_aside}
use Rattle.rules.proofs.Entries.{reply_entry_shows, message_copy_shows}
use Rattle.rules.proofs.SameModes.{modes_trans, same_open}
use Rattle.rules.proofs.Timestamps.{reply_times_lem}
use Rattle.rules.specs.Call.{Call, call_message}
use Rattle.rules.specs.Core.{answers, notes}
use Rattle.rules.specs.Deliver.{deliver, copies}
use Rattle.rules.specs.Handles.{has_bit, in_role}
use Rattle.rules.specs.Incoming.{heard_with, handled, stops, replied, reply_entry, followed, refused_message, monitors}
use Rattle.rules.specs.Owed.{pending, room_owed, owed_room}
use Rattle.rules.specs.State.{State, with_waits}
use Rattle.rules.specs.Unconfigure.{aborted_result}
use Rattle.transmission.specs.Transmission.{ownerless, room_for}
use Rattle.wait.specs.Wait.{no_wait, answered_by, owned_by}
use Rattle.wait.specs.declared.Wait.{Wait}
use Rattle.waits.specs.Waits.{Taken, taken_at, match_taken}

-- copies and core work after what a call ends
pub ends_then : (s t u : State) (c : Call) → Ends s c t → Aside t u → Ends s c u
unfolding waiting_as
ends_then s t u c e a = record {
  sent = e.sent;
  over = e.over;
  by = e.by;
  ending = e.ending;
  clocked = e.clocked;
  comes = λ h l. comes_then h l s t u _ (e.comes h l) (same_open s t e.modes h) a;
  closes = e.closes;
  modes = modes_trans s t u e.modes a.modes;
  inboxes = a.inboxes ∙ e.inboxes;
  queued = a.fits e.queued;
  wired = rw a.wire e.wired;
  sends = λ f z. omega (arith, aside_sum f z t u a, e.sends f z);
  waits = λ f z. rw a.waits (e.waits f z);
  older = e.older;
  nearer = λ f z. rw (aside_pending t u a, last_more f (pending t) (map ownerless a.core) (core_weightless f z a.core)) (e.nearer f z);
  timed = rw a.waits e.timed;
  late = λ h n b. rw a.waits (e.late h n b);
}

-- the reply's entry shows a receive status
reply_shown : (w : Wait) (m : Message) (ts : ℕ) → Replies w.sequence (reply_entry w m ts)
reply_shown w m ts = shown_reply (reply_entry_shows w m ts) (split (is_feature_abort (opcode m.bytes)) (λ e. rw e (omega arith)) (λ e. rw e (omega arith)))

-- with the OK bit
reply_ok : (w : Wait) (m : Message) (ts : ℕ) → has_bit CEC-RX-STATUS-OK (reply_entry w m ts).rx_status ≡ true
reply_ok w m ts = split (is_feature_abort (opcode m.bytes)) (λ e. rw e) (λ e. rw e)

module _ (s : State) (r : Inv s) (m : Message) (k : ℕ) (bytes : List ℕ) (ts : ℕ) where
  abbrev call : Call
  call = call_message k bytes ts

  -- after the copies to monitors, the wait at a place ends
  module _ (c : State) (a : Aside s c) (i : ℕ) (l : i < length s.waits) where
    abbrev wait : Wait
    wait = get_or s.waits i no_wait

    abbrev rest : List Wait
    rest = without i s.waits

    abbrev reply_of : Wait → Entry
    reply_of w = reply_entry w m ts

    abbrev after : State
    after = deliver (with_waits c rest) wait.owner (reply_of wait)

    -- its handle is owed less by the reply that it gets
    owed_less : (h : ℕ) → h < 8 → owed_room after h + 0 + count (owned_by h) (wait ∷ []) ≤ owed_room s h
    unfolding room_owed
    owed_less h q = omega (arith, aside_sum (room_for h) (room_owned h q) s c a, sum_without (λ w. bit (owned_by h w)) i s.waits no_wait l)

    reply_ends : Ends s call after
    unfolding waiting_as
    reply_ends = record {
      sent = [];
      over = wait ∷ [];
      by = aborts reply_of (λ w. reply_shown w m ts) (λ w q. clash (reply_ok w m ts) q) (λ w. (reply_times_lem w m ts).0);
      ending = refl;
      clocked = omega arith;
      comes = λ h q. comes aborted_result reply_of h q s c (with_waits c rest) after [] (wait ∷ []) r a refl refl (owed_less h q);
      closes = λ h. refl;
      modes = a.modes;
      inboxes = length-set c.inboxes wait.owner _ ∙ a.inboxes ∙ r.inboxes;
      queued = a.fits r.queued;
      wired = rw a.wire r.wired;
      sends = λ f z. omega (arith, aside_sum f z s c a);
      waits = λ f z. omega (arith, sum_without f i s.waits no_wait l);
      older = λ f z. omega (arith, sum_without f i s.waits no_wait l);
      nearer = λ f z. rw (aside_pending s c a, last_more f (pending s) (map ownerless a.core) (core_weightless f z a.core)) (omega arith);
      timed = omega (arith, sum_without spent i s.waits no_wait l, r.timed);
      late = λ h n b. let z : b - 0 ≡ b = omega arith in rw z (omega (arith, sum_without (awaited_as (λ v. ltb b v.left) h n) i s.waits no_wait l));
    }

  -- steps 4 to 6
  abbrev later : State → Bool → List ℕ → Taken → State
  later t said reply x = refused_message (followed (answers (notes t m) said reply) said x m ts) said x m

  -- they end no wait
  later_aside : (t : State) (said : Bool) (reply : List ℕ) (x : Taken) → Aside t (later t said reply x)
  later_aside t said reply x =
      let b = notes t m in
      let c = answers b said reply in
      let d = followed c said x m ts in
      aside_trans t b (later t said reply x) (notes_aside t m)
      (aside_trans b c (later t said reply x) (answers_aside b said reply)
      (aside_trans c d (later t said reply x) (followed_aside c said x m ts) (refused_message_aside d said x m)))

  -- steps 3 to 6: a wait is found, or none
  handled_ends : (c : State) → Aside s c → (said : Bool) (reply : List ℕ) (i : ℕ) → Ends s call (handled c said reply (taken_at i s.waits) m ts)
  handled_ends c a said reply i =
      split (ltb i (length s.waits))
      (λ q. found q (ltb-true i (length s.waits) q))
      (λ q. none q)
    where
      found : ltb i (length s.waits) ≡ true → i < length s.waits → Ends s call (later (replied c (taken_at i s.waits) m ts) said reply (taken_at i s.waits))
      found q l =
          let e : replied c (taken_at i s.waits) m ts ≡ after c a i l = rw q in
          rw e (ends_then s (after c a i l) _ call (reply_ends c a i l) (later_aside (after c a i l) said reply (taken_at i s.waits)))

      none : ltb i (length s.waits) ≡ false → Ends s call (later (replied c (taken_at i s.waits) m ts) said reply (taken_at i s.waits))
      none q =
          let e : replied c (taken_at i s.waits) m ts ≡ c = rw q in
          rw e (aside_ends s _ call r (aside_trans s c _ a (later_aside c said reply (taken_at i s.waits))) refl (λ h. refl) refl refl)

  -- a message that is taken
  pub message_ends : (said : Bool) (reply : List ℕ) → Ends s call (heard_with s said reply m ts)
  unfolding heard_with match_taken
  message_ends said reply =
      let c = copies (in_role (monitors s m)) (message_copy m ts) s in
      let a = copies_aside (monitors s m) (message_copy m ts) (message_copy_shows m ts).sequence s in
      split (stops s m)
      (λ q. rw q (aside_ends s c call r a refl (λ h. refl) refl refl))
      (λ q. rw q (handled_ends c a said reply (first (answered_by m) s.waits)))
