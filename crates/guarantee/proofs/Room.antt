-- Results, replies and waits always have their room, in every state that calls lead to from a fresh adapter.
-- Assumes nothing.
use Prim.Native.Nat.{ℕ, ◌+◌, ◌≤◌, ◌<◌}
use mathlib.Core.Bool.{false}
use mathlib.Core.List.{List, [], ◌∷◌, ◌++◌}
use mathlib.Core.Path.{◌≡◌, refl, ap}
use native.Mathlib.Omega.{arith}
use lib.Dec.{eqb, ltb}
use lib.ListN.{length}
use borrow.Author.Tests.{eqb-true, ltb-true}
use Rattle.entry.specs.Entry.{result_copy, message_copy}
use Rattle.entry.specs.declared.Entry.{Entry}
use Rattle.guarantee.proofs.BusResultEnds.{wait_fits}
use Rattle.guarantee.proofs.Invariant.{Inv, improper_wait}
use Rattle.guarantee.proofs.Reached.{reached}
use Rattle.guarantee.proofs.TimeEnds.{sum_time}
use Rattle.guarantee.proofs.UnconfigureEnds.{owed_each}
use Rattle.guarantee.specs.Room.{HasRoom, handle_waits, Room, AlwaysRoom}
use Rattle.inbox.specs.Inboxes.{inbox_of}
use Rattle.lists.specs.Sums.{sum_one_of, sum-le, count}
use Rattle.lists.specs.Tests.{bit, split, eqb_refl}
use Rattle.rules.proofs.Aside.{Aside, copies_aside, aside_owed}
use Rattle.rules.proofs.Entries.{result_copy_shows, message_copy_shows}
use Rattle.rules.proofs.Mail.{post, posts_boxes, posts_length}
use Rattle.rules.specs.Deliver.{each}
use Rattle.rules.specs.Handles.{is_monitor}
use Rattle.rules.specs.Incoming.{monitors}
use Rattle.rules.specs.Owed.{pending, room_owed, owed_room, replies_wanted}
use Rattle.rules.specs.State.{State, fresh, with_waits}
use Rattle.rules.specs.Step.{after}
use Rattle.rules.specs.Time.{overdue, remaining, time_out, timeout_entry}
use Rattle.rules.specs.Unconfigure.{abort_transmit, abort_wait, unset, aborted_result, abort_entry}
use Rattle.transmission.specs.Transmission.{room_for}
use Rattle.transmission.specs.declared.Transmission.{Transmission}
use Rattle.wait.specs.Wait.{owned_by}
use Rattle.wait.specs.declared.Wait.{Wait}

-- entries to several handles: where there is room for all those to one of them, each of these finds room
each_room : {A : Type 0} (to : A → ℕ) (entry : A → Entry) (s : State) (xs past : List A) (x : A) (rest : List A) → xs ≡ past ++ x ∷ rest → to x < length s.inboxes
    → length (inbox_of s.inboxes (to x)) + count (λ y. eqb (to y) (to x)) xs ≤ 16 → HasRoom (to x) (each (post to entry) s past)
each_room to entry s xs past x rest e l r =
    let o = sum_one_of (λ y. bit (eqb (to y) (to x))) xs past x rest e in
    let b = ap bit (eqb_refl (to x)) in
    omega (arith, posts_length to entry (to x) s past l (omega arith))

module _ (s : State) (r : Inv s) where
  -- a wait is of a handle
  wait_home : (w : Wait) → improper_wait w ≡ 0 → w.owner < 8
  wait_home w z =
      split (ltb w.owner 8)
      (λ e. ltb-true w.owner 8 e)
      (λ e. absurd (let y = rw e at z in omega arith))

  -- copies leave the room that is owed
  copied_room : (c : State) → Aside s c → (h : ℕ) → h < 8 → 1 ≤ owed_room s h → HasRoom h c
  copied_room c a h l o = omega (arith, a.room h l (r.room h l), aside_owed s c a h l)

  -- room is owed for each transmission that is pending, and for each wait
  owed_transmit : (past : List Transmission) (t : Transmission) (rest : List Transmission) → pending s ≡ past ++ t ∷ rest → 1 ≤ owed_room s t.owner
  unfolding room_owed
  owed_transmit past t rest e = omega (arith, sum_one_of (room_for t.owner) (pending s) past t rest e, owed_each t.owner t, ap bit (eqb_refl t.owner))

  owed_wait : (past : List Wait) (w : Wait) (rest : List Wait) → s.waits ≡ past ++ w ∷ rest → 1 ≤ owed_room s w.owner
  unfolding room_owed
  owed_wait past w rest e = omega (arith, sum_one_of (λ v. bit (owned_by w.owner v)) s.waits past w rest e, ap bit (eqb_refl w.owner))

  -- the owner of a wait is a handle
  home : (past : List Wait) (w : Wait) (rest : List Wait) → s.waits ≡ past ++ w ∷ rest → w.owner < 8
  home past w rest e = wait_home w (omega (arith, sum_one_of improper_wait s.waits past w rest e, r.waiting))

  -- the transmissions and waits of a handle fit its inbox together
  fits : (h : ℕ) → h < 8 → length (inbox_of s.inboxes h) + count (λ (t : Transmission). eqb t.owner h) (pending s) + count (owned_by h) s.waits ≤ 16
  unfolding room_owed
  fits h l = omega (arith, r.room h l, sum-le (λ (t : Transmission). bit (eqb t.owner h)) (room_for h) (pending s) (owed_each h))

  -- when time ends waits
  timeout_room : (ms : ℕ) (past : List Wait) (w : Wait) (rest : List Wait) → overdue ms s.waits ≡ past ++ w ∷ rest → HasRoom w.owner (each time_out (with_waits s (remaining ms s.waits)) past)
  timeout_room ms past w rest e =
      let own = sum_time ms improper_wait (λ k v. refl) s.waits in
      let l = wait_home w (omega (arith, sum_one_of improper_wait (overdue ms s.waits) past w rest e, r.waiting)) in
      each_room (λ (v : Wait). v.owner) timeout_entry (with_waits s (remaining ms s.waits)) (overdue ms s.waits) past w rest e (omega (arith, r.inboxes))
      (omega (arith, fits w.owner l, sum_time ms (λ v. bit (owned_by w.owner v)) (λ k v. refl) s.waits))

  -- when an unconfigure ends transmissions, and then waits
  transmit_room : (past : List Transmission) (t : Transmission) (rest : List Transmission) → pending s ≡ past ++ t ∷ rest → t.owner < 8 → HasRoom t.owner (each abort_transmit (unset s) past)
  transmit_room past t rest e l =
      each_room (λ (x : Transmission). x.owner) aborted_result (unset s) (pending s) past t rest e (omega (arith, r.inboxes))
      (omega (arith, fits t.owner l))

  wait_room : (past : List Wait) (w : Wait) (rest : List Wait) → s.waits ≡ past ++ w ∷ rest → HasRoom w.owner (each abort_wait (each abort_transmit (unset s) (pending s)) past)
  wait_room past w rest e =
      let l = home past w rest e in
      let to : Transmission → ℕ = λ x. x.owner in
      let f = fits w.owner l in
      let n = posts_length to aborted_result w.owner (unset s) (pending s) (omega (arith, r.inboxes)) (omega arith) in
      each_room (λ (v : Wait). v.owner) abort_entry (each abort_transmit (unset s) (pending s)) s.waits past w rest e (omega (arith, posts_boxes to aborted_result (unset s) (pending s), r.inboxes))
      (omega arith)

  -- a handle's waits are among the replies that it wants; a number over 7 has none
  few_waits : (h : ℕ) → count (owned_by h) s.waits ≤ handle_waits
  unfolding replies_wanted
  few_waits h =
      split (ltb h 8)
      (λ e. omega (arith, r.asks h (ltb-true h 8 e)))
      (λ e. omega (arith, r.waiting, sum-le (λ (w : Wait). bit (owned_by h w)) improper_wait s.waits (nobody e)))
    where
      nobody : ltb h 8 ≡ false → (w : Wait) → bit (owned_by h w) ≤ improper_wait w
      nobody e w = split (eqb w.owner h) (λ o. rw (o, eqb-true w.owner h o, e) (omega arith)) (λ o. rw o (omega arith))

  -- wherever the invariant holds
  room : Room s
  room = record {
    owed = r.room;
    result = λ t e l status counts ts.
        copied_room _ (copies_aside is_monitor (result_copy status counts t.message ts) (result_copy_shows status counts t.message ts).sequence s) t.owner l
        (owed_transmit [] t s.queue (ap (λ (l : List Transmission). l ++ s.queue) e));
    wait = λ t e w. omega (arith, wait_fits s t r e w);
    reply = λ past w rest e m ts. copied_room _ (copies_aside (monitors s m) (message_copy m ts) (message_copy_shows m ts).sequence s) w.owner (home past w rest e) (owed_wait past w rest e);
    timeout = timeout_room;
    aborted_transmit = transmit_room;
    aborted_wait = wait_room;
    queue = r.queued;
    wire = r.wired;
    waits = few_waits;
  }

-- so in every state that calls lead to
pub always_room : AlwaysRoom
always_room c calls = room (after (fresh c) calls) (reached c calls)
