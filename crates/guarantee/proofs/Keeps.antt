-- Every call keeps the invariant.
-- Assumes nothing.
use Prim.Native.Nat.{ℕ, ◌+◌, ◌≤◌}
use mathlib.Core.Bool.{Bool, true, false, ◌&&◌, not}
use mathlib.Core.List.{List, [], ◌∷◌, ◌++◌}
use mathlib.Core.Path.{◌≡◌, refl, ap, ap₂, ◌∙◌, sym}
use native.Mathlib.Omega.{arith}
use lib.Dec.{eqb, ltb}
use lib.ListN.{length, set, length-set}
use Rattle.constants.specs.Kernel.{CEC-TX-STATUS-OK}
use Rattle.entry.specs.declared.Entry.{Entry}
use Rattle.guarantee.proofs.BusResultEnds.{wait_proper}
use Rattle.guarantee.proofs.ByCases.{by_cases}
use Rattle.guarantee.proofs.Cases.{Cases, Quiet, calm}
use Rattle.guarantee.proofs.ClosedKept.{closed_kept, reply_owned, numbered_owned}
use Rattle.guarantee.proofs.Ends.{Ends, Timeless, begins}
use Rattle.guarantee.proofs.Invariant.{Inv, is_proper, improper, improper_wait, spent}
use Rattle.guarantee.proofs.QueuedKept.{queued_kept}
use Rattle.handle.specs.declared.Handle.{Handle}
use Rattle.inbox.specs.Inboxes.{inbox_of}
use Rattle.lists.specs.Elements.{set_rel}
use Rattle.lists.specs.Sums.{sum, sum-le}
use Rattle.lists.specs.Tests.{bit, split, both, clash}
use Rattle.rules.proofs.Numbers.{carried_by}
use Rattle.rules.proofs.SameModes.{same_many, same_open}
use Rattle.rules.specs.Call.{Call, Answer}
use Rattle.rules.specs.Handles.{is_open, has_bit}
use Rattle.rules.specs.Open.{opened_handle}
use Rattle.rules.specs.Owed.{pending, owed_room, replies_wanted}
use Rattle.rules.specs.State.{State, closed_handle, with_handles, with_inboxes, with_queue, with_wire}
use Rattle.rules.specs.Step.{step}
use Rattle.transmission.specs.Transmission.{reply_for, numbered}
use Rattle.transmission.specs.declared.Transmission.{Transmission}
use Rattle.wait.specs.Wait
use Rattle.wait.specs.Wait.{owned_by}
use Rattle.wait.specs.declared.Wait.{Wait}

-- what is pending and the waits are the same, no inbox has more, and no handle is closed
same_kept : (s t : State) → Inv s → length t.handles ≡ 8 → length t.inboxes ≡ 8 → length t.queue ≤ 18 → length t.wire ≤ 1 → pending t ≡ pending s → t.waits ≡ s.waits
    → ((h : ℕ) → length (inbox_of t.inboxes h) ≤ length (inbox_of s.inboxes h)) → ((h : ℕ) → is_open t h ≡ false → is_open s h ≡ false) → Inv t
same_kept s t r handles inboxes queue wire p w less shut =
    let owed : (h : ℕ) → owed_room t h ≡ owed_room s h = λ h. rw (p, w) in
    record {
      handles = handles;
      inboxes = inboxes;
      queued = queue;
      wired = wire;
      transmissions = ap (sum improper) p ∙ r.transmissions;
      waiting = ap (sum improper_wait) w ∙ r.waiting;
      timed = ap (sum spent) w ∙ r.timed;
      once = λ n d. rw (p, w) (r.once n d);
      asks = λ h l. rw (p, w) (r.asks h l);
      room = λ h l. omega (arith, r.room h l, less h, owed h);
      none = λ h l e. omega (arith, r.none h l (shut h e), less h, owed h);
    }

-- modes, settings and noted addresses
quiet_kept : (s : State) (c : Call) (a : Answer) (t : State) → Inv s → Quiet s c a t → Inv (calm s t)
quiet_kept s c a t r q =
    same_kept s (calm s t) r (q.handles ∙ r.handles) r.inboxes r.queued r.wired refl refl (λ h. omega arith) (λ h e. sym (q.still h) ∙ e)

-- an open
opened_kept : (s : State) (i : ℕ) (p : Bool) → Inv s → Inv (with_handles s (set s.handles i (opened_handle p)))
opened_kept s i p r =
    same_kept s (with_handles s (set s.handles i (opened_handle p))) r (length-set s.handles i (opened_handle p) ∙ r.handles) r.inboxes r.queued r.wired refl refl (λ h. omega arith)
    (λ h e. set_rel (λ (x y : Handle). x.is_open ≡ false → y.is_open ≡ false) (λ x z. z) s.handles i h (opened_handle p) closed_handle (λ z. clash refl z) e)

-- a receive
received_kept : (s : State) (g : ℕ) (x : Entry) (es : List Entry) → inbox_of s.inboxes g ≡ x ∷ es → Inv s → Inv (with_inboxes s (set s.inboxes g es))
received_kept s g x es i r =
    same_kept s (with_inboxes s (set s.inboxes g es)) r r.handles (length-set s.inboxes g es ∙ r.inboxes) r.queued r.wired refl refl
    (λ h. set_rel (λ (a b : List Entry). length a ≤ length b) (λ a. omega arith) s.inboxes g h es [] (omega (arith, ap length i)))
    (λ h e. e)

-- a bus start moves the head of the queue to the wire
started_kept : (s : State) (x : Transmission) (q : List Transmission) → s.wire ≡ [] → s.queue ≡ x ∷ q → Inv s → Inv (with_queue (with_wire s (x ∷ [])) q)
started_kept s x q a b r =
    same_kept s (with_queue (with_wire s (x ∷ [])) q) r r.handles r.inboxes (omega (arith, r.queued, ap length b)) (omega arith) (sym (ap₂ ◌++◌ a b)) refl (λ h. omega arith) (λ h e. e)

-- the wait that begins is proper, of the number of its transmission, and of a handle that wanted a reply
begins_proper : (status ts : ℕ) (x : Transmission) → begins improper_wait status ts x ≤ improper x
begins_proper status ts x =
    split (has_bit CEC-TX-STATUS-OK status && x.wants_reply)
    (λ e. rw e (split (is_proper x)
    (λ p. omega (arith, (wait_proper x ts (rw p) (both (has_bit CEC-TX-STATUS-OK status) x.wants_reply e).1).1))
    (λ p. rw p (less (ltb x.owner 8 && not (eqb x.sequence 0))))))
    (λ e. rw e (omega arith))
  where
    less : (b : Bool) → bit (not b) ≤ 1
    less true = omega arith
    less false = omega arith

begins_numbered : (n status ts : ℕ) (x : Transmission) → begins (λ w. bit (Wait.numbered n w)) status ts x ≤ bit (numbered n x)
begins_numbered n status ts x = split (has_bit CEC-TX-STATUS-OK status && x.wants_reply) (λ e. rw e (omega arith)) (λ e. rw e (omega arith))

begins_asked : (h status ts : ℕ) (x : Transmission) → begins (λ w. bit (owned_by h w)) status ts x ≤ reply_for h x
begins_asked h status ts x =
    split x.wants_reply
    (λ q. split (has_bit CEC-TX-STATUS-OK status)
    (λ e. split (eqb x.owner h) (λ o. simp (e, q, o) (omega arith)) (λ o. simp (e, q, o) (omega arith)))
    (λ e. rw e (omega arith)))
    (λ q. split (has_bit CEC-TX-STATUS-OK status) (λ e. rw (e, q) (omega arith)) (λ e. rw e (omega arith)))

-- a call that ends transmissions and waits: what waits afterwards waited before, or comes of what was sent
most_waits : (s t : State) (c : Call) (e : Ends s c t) (f : Wait → ℕ) (g : Transmission → ℕ) → Timeless f → ((status ts : ℕ) (x : Transmission) → begins f status ts x ≤ g x)
    → sum f t.waits ≤ sum f s.waits + sum g e.sent
most_waits s t c e f g z k = omega (arith, e.waits f z, sum-le (begins f e.by.status e.by.sent_at) g e.sent (k e.by.status e.by.sent_at))

ended_kept : (s t : State) (c : Call) → Inv s → Ends s c t → Inv t
unfolding replies_wanted carried_by
ended_kept s t c r e = record {
  handles = same_many s t e.modes ∙ r.handles;
  inboxes = e.inboxes;
  queued = e.queued;
  wired = e.wired;
  transmissions = omega (arith, r.transmissions, e.sends improper (λ m. refl));
  waiting = omega (arith, r.waiting, r.transmissions, e.sends improper (λ m. refl), most_waits s t c e improper_wait improper (λ ms w. refl) begins_proper);
  timed = e.timed;
  once = λ n d. omega (
    arith,
    r.once n d,
    e.sends (λ x. bit (numbered n x)) (numbered_owned n d),
    most_waits s t c e (λ w. bit (Wait.numbered n w)) (λ x. bit (numbered n x)) (λ ms w. refl) (begins_numbered n),
  );
  asks = λ h l. omega (arith, r.asks h l, e.sends (reply_for h) (reply_owned h l), most_waits s t c e (λ w. bit (owned_by h w)) (reply_for h) (λ ms w. refl) (begins_asked h));
  room = λ h l. (e.comes h l).room;
  none = λ h l z. (e.comes h l).none (sym (same_open s t e.modes h) ∙ z);
}

-- every call
kept_cases : (s : State) → Inv s → Cases s (λ c o. Inv o.state)
kept_cases s r = record {
  when_quiet = λ c a t q _. quiet_kept s c a t r q;
  when_opened = λ i p _ _ _. opened_kept s i p r;
  when_closed = λ g l _ _. closed_kept s g l r;
  when_queued = λ g x l o f w m _. queued_kept s g x l o f w m r;
  when_received = λ g x es _ _ i _. received_kept s g x es i r;
  when_started = λ x q a b _. started_kept s x q a b r;
  when_ended = λ c t e. ended_kept s t c r e;
}

pub keeps : (s : State) (c : Call) → Inv s → Inv (step s c).state
keeps s c r = by_cases s r (λ c o. Inv o.state) (kept_cases s r) c
