-- A bus result ends the transmission on the wire; with the OK bit, and if a reply is wanted, its wait begins.
-- Assumes nothing.
use Prim.Native.Nat.{ℕ, ◌+◌, ◌-◌, ◌≤◌, ◌<◌}
use mathlib.Core.Bool.{true, cond, ◌&&◌}
use mathlib.Core.List.{List, [], ◌∷◌, ◌++◌, map, append-nil}
use mathlib.Core.Logic.{◌≢◌}
use mathlib.Core.Path.{◌≡◌, refl, ap, ◌∙◌, sym}
use native.Mathlib.Omega.{arith}
use lib.Dec.{eqb, ltb}
use lib.ListN.{length, drop, length-set}
use borrow.Author.Tests.{lt-ltb}
use Rattle.constants.specs.Kernel.{CEC-TX-STATUS-OK}
use Rattle.entry.specs.Entry.{result_entry, result_copy}
use Rattle.entry.specs.declared.Counts.{Counts}
use Rattle.entry.specs.declared.Entry.{Entry}
use Rattle.guarantee.proofs.Carried.{sent_as, awaited_as, waiting_as}
use Rattle.guarantee.proofs.Comes.{comes}
use Rattle.guarantee.proofs.Ends.{Ends, begins, shown_reply}
use Rattle.guarantee.proofs.Invariant.{Inv, improper, improper_wait, spent, few}
use Rattle.lists.specs.Last.{last, last_more, last_tail}
use Rattle.lists.specs.Sums.{sum, sum_append, count}
use Rattle.lists.specs.Tests.{bit, split, both}
use Rattle.rules.proofs.Aside.{Owned, Aside, copies_aside, core_weightless, room_owned}
use Rattle.rules.proofs.Entries.{result_shows, result_copy_shows, timeout_entry_shows}
use Rattle.rules.specs.BusResult.{concluded, begun, wait_for}
use Rattle.rules.specs.Call.{call_bus_result}
use Rattle.rules.specs.Deliver.{copies}
use Rattle.rules.specs.Handles.{is_monitor, has_bit, in_role}
use Rattle.rules.specs.Owed.{pending, room_owed, owed_room}
use Rattle.rules.specs.State.{State}
use Rattle.rules.specs.Time.{timeout_entry}
use Rattle.transmission.specs.Transmission.{ownerless, room_for}
use Rattle.transmission.specs.declared.Transmission.{Transmission}
use Rattle.wait.specs.Wait.{owned_by}
use Rattle.wait.specs.declared.Wait.{Wait}

-- the wait of a proper transmission has a handle, a number and time left
pub wait_proper : (x : Transmission) (ts : ℕ) → improper x ≡ 0 → x.wants_reply ≡ true → (spent (wait_for x ts) ≡ 0) × (improper_wait (wait_for x ts) ≡ 0)
wait_proper x ts z w =
    split (ltb x.owner 8)
    (λ o. split (eqb x.sequence 0)
    (λ n. absurd (let y = rw (o, n) at z in omega arith))
    (λ n. split (eqb x.timeout 0)
    (λ t. absurd (let y = rw (o, n, w, t) at z in omega arith))
    (λ t. (rw t, rw (o, n)))))
    (λ o. split (eqb x.sequence 0)
    (λ n. absurd (let y = rw (o, n, w) at z in omega arith))
    (λ n. absurd (let y = rw (o, n) at z in omega arith)))

module _ (s : State) (x : Transmission) (r : Inv s) (w : s.wire ≡ x ∷ []) where
  -- a weight over the wire and over what is pending
  on_wire_lem : (f : Transmission → ℕ) → sum f (pending s) ≡ f x + sum f s.queue
  on_wire_lem f = omega (arith, sum_append f s.wire s.queue, ap (sum f) w)

  -- the transmission on the wire is proper
  wire_proper : improper x ≡ 0
  wire_proper = omega (arith, on_wire_lem improper, r.transmissions)

  -- there is a place for its wait
  pub wait_fits : x.wants_reply ≡ true → length s.waits < 32
  wait_fits e = omega (arith, few s r, on_wire_lem (λ t. bit t.wants_reply), ap bit e)

  -- the waits afterwards
  begun_waits : (status ts : ℕ) → begun status x ts s.waits ≡ s.waits ++ cond (has_bit CEC-TX-STATUS-OK status && x.wants_reply) (wait_for x ts ∷ []) []
  begun_waits status ts =
      split (has_bit CEC-TX-STATUS-OK status && x.wants_reply)
      (λ e. rw (e, lt-ltb (length s.waits) 32 (wait_fits (both (has_bit CEC-TX-STATUS-OK status) x.wants_reply e).1)))
      (λ e. rw e (sym (append-nil s.waits)))

  begun_sum : (status ts : ℕ) (f : Wait → ℕ) → sum f (begun status x ts s.waits) ≡ sum f s.waits + begins f status ts x
  begun_sum status ts f =
      rw (begun_waits status ts)
      (split (has_bit CEC-TX-STATUS-OK status && x.wants_reply)
      (λ e. rw e (omega (arith, sum_append f s.waits (wait_for x ts ∷ []))))
      (λ e. rw e (omega (arith, sum_append f s.waits []))))

  -- the wait that begins has time left
  begun_timed : (status ts : ℕ) → begins spent status ts x ≡ 0
  begun_timed status ts =
      split (has_bit CEC-TX-STATUS-OK status && x.wants_reply)
      (λ e. rw e (wait_proper x ts wire_proper (both (has_bit CEC-TX-STATUS-OK status) x.wants_reply e).1).0)
      (λ e. rw e)

  -- the room for the result, and for the reply if its wait begins
  begun_owed : (status ts h : ℕ) → bit (eqb x.owner h) + begins (λ v. bit (owned_by h v)) status ts x ≤ room_for h x
  begun_owed status ts h =
      split (eqb x.owner h)
      (λ o. split (has_bit CEC-TX-STATUS-OK status)
      (λ e. split x.wants_reply (λ q. simp (o, e, q) (omega arith)) (λ q. simp (o, e, q) (omega arith)))
      (λ e. simp (o, e) (omega arith)))
      (λ o. split (has_bit CEC-TX-STATUS-OK status && x.wants_reply) (λ e. simp (o, e) (omega arith)) (λ e. simp (o, e) (omega arith)))

  -- a wait begins with the timeout of its transmission
  begun_late : (status ts h n b : ℕ) → begins (awaited_as (λ v. ltb b v.left) h n) status ts x ≤ sent_as (λ t. ltb b t.timeout) h n x
  begun_late status ts h n b =
      split (has_bit CEC-TX-STATUS-OK status && x.wants_reply) (λ e. rw e (omega arith)) (λ e. rw e (omega arith))

  module _ (status : ℕ) (kept : Counts) (ts : ℕ) where
    -- the entry of its result; there is no reply here
    abbrev result_of : Transmission → Entry
    result_of t = result_entry t.sequence status kept t.message ts

    -- the copies for monitors come first
    abbrev copied : State
    copied = copies (in_role is_monitor) (result_copy status kept x.message ts) s

    aside : Aside s copied
    aside = copies_aside is_monitor (result_copy status kept x.message ts) (result_copy_shows status kept x.message ts).sequence s

    -- what is left to be sent
    left_sum : (f : Transmission → ℕ) → Owned f → sum f (pending (concluded s x status kept ts)) + f x ≡ sum f (pending s)
    left_sum f z =
        omega (
          arith,
          on_wire_lem f,
          sum_append f (drop 1 s.wire) copied.queue,
          ap (λ (l : List Transmission). sum f (drop 1 l)) w,
          ap (sum f) aside.queue,
          sum_append f s.queue (map ownerless aside.core),
          core_weightless f z aside.core,
        )

    -- the others are one nearer
    left_near : (f : Transmission → ℕ) → Owned f → last f (pending (concluded s x status kept ts)) ≤ last f (pending s) - 1
    left_near f z =
        let a : last f (pending (concluded s x status kept ts)) ≡ last f s.queue =
        ap (λ (l : List Transmission). last f (drop 1 l ++ copied.queue)) w
        ∙ ap (last f) aside.queue
        ∙ last_more f s.queue (map ownerless aside.core) (core_weightless f z aside.core) in
        let b : last f (pending s) ≡ last f (x ∷ s.queue) = ap (λ (l : List Transmission). last f (l ++ s.queue)) w in
        omega (arith, last_tail f x s.queue)

    -- the handle is owed less by the result that it gets
    owed_less : (h : ℕ) → h < 8 → owed_room (concluded s x status kept ts) h + count (λ t. eqb t.owner h) (x ∷ []) + 0 ≤ owed_room s h
    unfolding room_owed
    owed_less h l = omega (arith, left_sum (room_for h) (room_owned h l), begun_sum status ts (λ v. bit (owned_by h v)), begun_owed status ts h)

    -- a bus result that is taken
    pub bus_result_ends : (counts : Counts) → status ≢ 0 → Ends s (call_bus_result status counts ts) (concluded s x status kept ts)
    unfolding waiting_as
    bus_result_ends counts d = record {
      sent = x ∷ [];
      over = [];
      by = record {
        status = status;
        final = d;
        sent_at = ts;
        result_of = result_of;
        reply_of = timeout_entry;
        results = λ t. result_shows t.sequence status kept t.message ts;
        replies = λ v. shown_reply (timeout_entry_shows v) (omega arith);
        wanted = λ v _. refl;
        result_times = λ t. refl;
        reply_times = λ v. refl;
      };
      ending = refl;
      clocked = omega arith;
      comes = λ h l. comes result_of timeout_entry h l s copied copied (concluded s x status kept ts) (x ∷ []) [] r aside refl refl (owed_less h l);
      closes = λ h. refl;
      modes = aside.modes;
      inboxes = length-set copied.inboxes x.owner _ ∙ aside.inboxes ∙ r.inboxes;
      queued = aside.fits r.queued;
      wired = omega (arith, ap (λ (l : List Transmission). length (drop 1 l)) w);
      sends = λ f z. omega (arith, left_sum f z);
      waits = λ f z. omega (arith, begun_sum status ts f);
      older = λ f z. omega arith;
      nearer = λ f z. left_near f z;
      timed = omega (arith, begun_sum status ts spent, begun_timed status ts, r.timed);
      late = λ h n b. let z : b - 0 ≡ b = omega arith in rw z (omega (arith, begun_sum status ts (awaited_as (λ v. ltb b v.left) h n), begun_late status ts h n b));
    }
