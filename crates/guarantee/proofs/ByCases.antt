-- Every step is one of the cases. Only this file opens the definitions of the calls.
-- Assumes nothing.
use Prim.Native.Nat.{ℕ, ◌≤◌, ◌<◌}
use mathlib.Core.Bool.{Bool, true, false, ◌&&◌, not}
use mathlib.Core.List.{List, [], ◌∷◌}
use mathlib.Core.Logic.{◌≢◌}
use mathlib.Core.Path.{◌≡◌, refl}
use native.Mathlib.Omega.{arith}
use lib.Dec.{eqb, ltb}
use lib.ListN.{length, get_or, set, drop, length-set}
use borrow.Author.Tests.{eqb-true, eqb-false, not-true, not-false, lt-ltb}
use Rattle.constants.specs.Kernel.{EBADF, EMFILE, EAGAIN, EBUSY, EINVAL, CEC-TX-STATUS-NACK}
use Rattle.entry.specs.Entry.{no_entry}
use Rattle.entry.specs.declared.Counts.{Counts}
use Rattle.entry.specs.declared.Entry.{Entry}
use Rattle.guarantee.proofs.BusResultEnds.{bus_result_ends}
use Rattle.guarantee.proofs.Cases.{Cases, Quiet, calm, enqueued, step_from, same_came, closed_came, received_came}
use Rattle.guarantee.proofs.Invariant.{Inv, open_below}
use Rattle.guarantee.proofs.MessageEnds.{message_ends, ends_then}
use Rattle.guarantee.proofs.ModesKept.{mode_held, same_held}
use Rattle.guarantee.proofs.TimeEnds.{time_ends}
use Rattle.guarantee.proofs.UnconfigureEnds.{unconfigure_ends}
use Rattle.guarantee.specs.Modes.{ModesHeld}
use Rattle.guarantee.specs.Seen.{milliseconds, opens_to, done_by, is_close, is_receive, is_bus_result, entry_given, gives_to}
use Rattle.handle.specs.declared.Handle.{Handle}
use Rattle.inbox.specs.Inboxes.{inbox_of}
use Rattle.lists.specs.Elements.{set_rel}
use Rattle.lists.specs.Places.{first_le, first_passes}
use Rattle.lists.specs.Tests.{split, both, clash}
use Rattle.lists.specs.Vector.{put}
use Rattle.message.specs.Message.{message}
use Rattle.rules.proofs.Accepted.{Roomy, all_passed}
use Rattle.rules.proofs.Aside.{active_aside, clock_aside}
use Rattle.rules.proofs.Checks.{passed}
use Rattle.rules.proofs.SameModes.{SameModes, modes_refl, same_many, same_open}
use Rattle.rules.specs.BusResult.{do_bus_result, is_final, kept_counts, concluded}
use Rattle.rules.specs.BusStart.{do_bus_start}
use Rattle.rules.specs.Call.{Call, Request, Answer, Outcome, finish, unless, refused, done, accepted, received, started}
use Rattle.rules.specs.Call.{call_open, call_close, call_mode, call_transmit, call_receive, call_bus_start, call_bus_result, call_message, call_time, call_configure, call_unconfigure, call_listing, call_lookup, call_active_address}
use Rattle.rules.specs.Close.{do_close}
use Rattle.rules.specs.Configure.{do_configure, kept_settings}
use Rattle.rules.specs.Handles.{handle_at, is_open}
use Rattle.rules.specs.Listing.{do_listing}
use Rattle.rules.specs.Lookup.{do_lookup}
use Rattle.rules.specs.Mode.{do_mode, in_mode, mode_refusal}
use Rattle.rules.specs.Number.{next_sequence}
use Rattle.rules.specs.Open.{do_open, lowest_closed, open_done}
use Rattle.rules.specs.Receive.{do_receive}
use Rattle.rules.specs.State.{State, closed_handle, with_handles, with_inboxes, with_queue, with_wire, with_last, with_settings, with_clock}
use Rattle.rules.specs.Step.{step}
use Rattle.rules.specs.Time.{do_time}
use Rattle.rules.specs.Tracker.{do_message}
use Rattle.rules.specs.Transmit.{do_transmit, is_self_poll, polled, queued}
use Rattle.rules.specs.Unconfigure.{do_unconfigure}
use Rattle.transmission.specs.Transmission.{head_of}
use Rattle.transmission.specs.declared.Transmission.{Transmission}

-- a status that is final is not 0
final_some : (status : ℕ) → is_final status ≡ true → status ≢ 0
unfolding is_final
final_some status e p = clash (rw p at e) refl

module _ (s : State) (r : Inv s) (P : Call → Outcome → Type 0) (k : Cases s P) where
  -- nothing is opened, closed, given or ended, and no time passes
  abbrev Mute : Call → Answer → Type 0
  Mute c a = (h : ℕ) → (opens_to h a ≡ false) × (done_by (is_close h c) a ≡ false) × (entry_given (is_receive h c) a ≡ []) × (done_by (is_bus_result c) a ≡ false) × (milliseconds c ≡ 0)

  -- the state may change in modes, last number, settings and noted addresses
  quietly : (c : Call) (a : Answer) (t : State) → length t.handles ≡ length s.handles → ((h : ℕ) → is_open t h ≡ is_open s h) → (ModesHeld s → ModesHeld t)
      → Mute c a → ((n : ℕ) → gives_to n a ≡ true → next_sequence s ≡ n) → P c (finish a (calm s t))
  quietly c a t l o m z n =
      let q : Quiet s c a t = record {
        handles = l;
        still = o;
        modes = m;
        no_open = λ h. (z h).0;
        no_close = λ h. (z h).1;
        no_gift = λ h. (z h).2;
        no_end = (z 0).3;
        no_time = (z 0).4;
        sequence = n;
      } in
      k.when_quiet c a t q (λ h. same_came h (step_from s c (finish a (calm s t))) refl (q.no_gift h))

  -- not in modes
  unmoved : (c : Call) (a : Answer) (t : State) → SameModes s t → Mute c a → ((n : ℕ) → gives_to n a ≡ true → next_sequence s ≡ n) → P c (finish a (calm s t))
  unmoved c a t m = quietly c a t (same_many s t m) (same_open s t m) (same_held s t m)

  -- a refused call
  refuses : (c : Call) (e : ℕ) → milliseconds c ≡ 0 → P c (finish (refused e) s)
  refuses c e z = unmoved c (refused e) s (modes_refl s) (λ h. (refl, refl, refl, refl, z)) (λ n q. clash q refl)

  -- a call with checks
  checked : (c : Call) (e : ℕ) (o : Outcome) → milliseconds c ≡ 0 → (e ≡ 0 → P c o) → P c (unless e s o)
  unfolding unless
  checked c e o z p = split (eqb e 0) (λ q. rw q (p (eqb-true e 0 q))) (λ q. rw q (refuses c e z))

  -- an open takes a number below 8 that was closed
  open_case : (p : Bool) → eqb (lowest_closed s) (length s.handles) ≡ false → P (call_open p) (open_done s p)
  open_case p q =
      let i = lowest_closed s in
      let l : i < length s.handles = omega (arith, first_le (λ (x : Handle). not x.is_open) s.handles, eqb-false i (length s.handles) q) in
      let c : is_open s i ≡ false = not-true (is_open s i) (first_passes (λ (x : Handle). not x.is_open) s.handles closed_handle l) in
      k.when_opened i p (omega (arith, r.handles)) c (λ h. same_came h (step_from s (call_open p) (open_done s p)) refl refl)

  -- a mode that is taken leaves every handle open or closed
  mode_case : (g mode : ℕ) → mode_refusal s g mode ≡ 0 → P (call_mode g mode) (finish done (with_handles s (set s.handles g (in_mode (handle_at s g) mode))))
  mode_case g mode z =
      let v = in_mode (handle_at s g) mode in
      quietly (call_mode g mode) done (with_handles s (set s.handles g v)) (length-set s.handles g v)
      (λ h. set_rel (λ (x y : Handle). x.is_open ≡ y.is_open) (λ x. refl) s.handles g h v closed_handle refl)
      (mode_held s g mode z)
      (λ h. (refl, refl, refl, refl, refl))
      (λ n q. clash q refl)

  -- a poll answered at once is given the next number
  polled_case : (g : ℕ) (x : Request) → P (call_transmit g x) (polled s)
  polled_case g x =
      unmoved (call_transmit g x) (accepted (next_sequence s) CEC-TX-STATUS-NACK) (with_last s (next_sequence s)) (modes_refl s) (λ h. (refl, refl, refl, refl, refl)) (eqb-true (next_sequence s))

  -- a transmit that is queued found a place
  queued_case : (g : ℕ) (x : Request) → is_open s g ≡ true → Roomy s g x → P (call_transmit g x) (queued s g x)
  queued_case g x o f =
      rw (lt-ltb (length s.queue) 18 f.place)
      (k.when_queued g x (open_below s g r o) o f.place f.replies f.room (λ h. same_came h (step_from s (call_transmit g x) (finish (accepted (next_sequence s) 0) (enqueued s g x))) refl refl))

  -- a receive takes the oldest entry
  receive_case : (g : ℕ) (l : List Entry) → is_open s g ≡ true → inbox_of s.inboxes g ≡ l → eqb (length l) 0 ≡ false
      → P (call_receive g) (finish (received (get_or l 0 no_entry)) (with_inboxes s (set s.inboxes g (drop 1 l))))
  receive_case g [] o e n = clash refl n
  receive_case g (x ∷ es) o e n =
      let l = open_below s g r o in
      k.when_received g x es l o e (received_came s g x es (omega (arith, r.inboxes)) e)

  -- a bus start found the wire free and a head
  start_case : (w q : List Transmission) → s.wire ≡ w → s.queue ≡ q → ltb 0 (length w) ≡ false → eqb (length q) 0 ≡ false
      → P call_bus_start (finish (started (head_of q).message) (with_queue (with_wire s (put 1 w (head_of q))) (drop 1 q)))
  start_case (x ∷ w) q a b c d = clash (lt-ltb 0 (length (x ∷ w)) (omega arith)) c
  start_case [] [] a b c d = clash refl d
  start_case [] (x ∷ q) a b c d = k.when_started x q a b (λ h. same_came h (step_from s call_bus_start (finish (started x.message) (with_queue (with_wire s (x ∷ [])) q))) refl refl)

  -- a bus result found a message on the wire
  result_case : (status : ℕ) (counts : Counts) (ts : ℕ) (w : List Transmission) → s.wire ≡ w → length w ≤ 1 → ltb 0 (length w) ≡ true → is_final status ≡ true
      → P (call_bus_result status counts ts) (finish done (with_clock (concluded s (head_of w) status (kept_counts status counts) ts) ts))
  result_case status counts ts [] e l c f = clash c refl
  result_case status counts ts (x ∷ []) e l c f =
      let call = call_bus_result status counts ts in
      k.when_ended call _ (ends_then s _ _ call (bus_result_ends s x r e status (kept_counts status counts) ts counts (final_some status f)) (clock_aside _ ts))
  result_case status counts ts (x ∷ (y ∷ w)) e l c f = absurd (omega arith)

  -- every call
  pub by_cases : (c : Call) → P c (step s c)
  unfolding do_open do_close do_mode do_transmit do_receive do_bus_start do_bus_result do_message do_time do_configure do_unconfigure do_listing do_lookup
  by_cases (call_open p) = checked (call_open p) _ _ refl (λ z. open_case p (passed (eqb (lowest_closed s) (length s.handles)) EMFILE 0 (omega arith) z).0)
  by_cases (call_close g) = checked (call_close g) _ _ refl (λ z.
      let o = not-false (is_open s g) (passed (not (is_open s g)) EBADF 0 (omega arith) z).0 in
      k.when_closed g (open_below s g r o) o (closed_came s g))
  by_cases (call_mode g mode) = checked (call_mode g mode) _ _ refl (λ z. mode_case g mode z)
  by_cases (call_transmit g x) = checked (call_transmit g x) _ _ refl (λ z.
      let a = all_passed s g x z in
      split (is_self_poll s x) (λ q. rw q (polled_case g x)) (λ q. rw q (queued_case g x a.opens (a.fits q))))
  by_cases (call_receive g) = checked (call_receive g) _ _ refl (λ z.
      let a = passed (not (is_open s g)) EBADF _ (omega arith) z in
      let b = passed (eqb (length (inbox_of s.inboxes g)) 0) EAGAIN 0 (omega arith) a.1 in
      receive_case g (inbox_of s.inboxes g) (not-false (is_open s g) a.0) refl b.0)
  by_cases call_bus_start = checked call_bus_start _ _ refl (λ z.
      let a = passed (ltb 0 (length s.wire)) EBUSY _ (omega arith) z in
      let b = passed (eqb (length s.queue) 0) EAGAIN 0 (omega arith) a.1 in
      start_case s.wire s.queue refl refl a.0 b.0)
  by_cases (call_bus_result status counts ts) = checked (call_bus_result status counts ts) _ _ refl (λ z.
      let a = passed (not (ltb 0 (length s.wire) && is_final status)) EINVAL _ (omega arith) z in
      let b = both (ltb 0 (length s.wire)) (is_final status) (not-false (ltb 0 (length s.wire) && is_final status) a.0) in
      result_case status counts ts s.wire refl r.wired b.0 b.1)
  by_cases (call_message n bytes ts) = checked (call_message n bytes ts) _ _ refl (λ z.
      let c = call_message n bytes ts in
      k.when_ended c _ (ends_then s _ _ c (message_ends s r (message n bytes) n bytes ts _ _) (active_aside _ _ ts)))
  by_cases (call_time ms) = k.when_ended (call_time ms) _ (time_ends ms s r)
  by_cases (call_configure x) = checked (call_configure x) _ _ refl (λ z. unmoved _ _ (with_settings s (kept_settings x)) (modes_refl s) (λ h. (refl, refl, refl, refl, refl)) (λ n q. clash q refl))
  by_cases call_unconfigure = k.when_ended call_unconfigure _ (unconfigure_ends s r)
  by_cases (call_listing rows) = checked (call_listing rows) _ _ refl (λ z. unmoved _ _ s (modes_refl s) (λ h. (refl, refl, refl, refl, refl)) (λ n q. clash q refl))
  by_cases (call_lookup a) = checked (call_lookup a) _ _ refl (λ z. unmoved _ _ s (modes_refl s) (λ h. (refl, refl, refl, refl, refl)) (λ n q. clash q refl))
  by_cases call_active_address = unmoved _ _ s (modes_refl s) (λ h. (refl, refl, refl, refl, refl)) (λ n q. clash q refl)
