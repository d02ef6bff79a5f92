-- The active address after any call, and over any list of calls (document 02, W-205).
-- Assumes nothing.
use Prim.Native.Nat.{ℕ}
use mathlib.Core.Bool.{Bool, true, cond, ◌&&◌}
use mathlib.Core.List.{List, [], ◌∷◌}
use mathlib.Core.Logic.{◌⊎◌, inl, inr}
use mathlib.Core.Path.{◌≡◌, refl, ap, ◌∙◌}
use native.Mathlib.Omega.{arith}
use lib.Dec.{eqb}
use borrow.Author.Tests.{eqb-true}
use Rattle.constants.specs.Kernel.{EBUSY, CEC-LOG-ADDR-BROADCAST, CEC-PHYS-ADDR-INVALID}
use Rattle.entry.specs.Entry.{message_copy}
use Rattle.entry.specs.declared.Entry.{Entry}
use Rattle.handle.specs.declared.Handle.{Handle}
use Rattle.lists.specs.Tests.{split, both, clash}
use Rattle.message.specs.Message.{message, destination}
use Rattle.message.specs.declared.Message.{Message}
use Rattle.route.specs.Address.{is_well_formed}
use Rattle.rules.proofs.Aside.{copies_aside, notes_aside, answers_aside, followed_aside, refused_message_aside}
use Rattle.rules.proofs.Checks.{passed}
use Rattle.rules.proofs.Deliveries.{each_delivers}
use Rattle.rules.proofs.Entries.{message_copy_shows}
use Rattle.rules.proofs.Refused.{refused_same}
use Rattle.rules.specs.BusResult.{do_bus_result}
use Rattle.rules.specs.BusStart.{do_bus_start}
use Rattle.rules.specs.Call.{Call, Outcome, unless, refused, call_open, call_close, call_mode, call_transmit, call_receive, call_bus_start, call_bus_result, call_message, call_time, call_configure, call_unconfigure, call_listing, call_lookup, call_active_address}
use Rattle.rules.specs.Close.{do_close}
use Rattle.rules.specs.Configure.{do_configure}
use Rattle.rules.specs.Core.{answers, notes}
use Rattle.rules.specs.Deliver.{copies, copy_to, copy_to_by, copies_by, each, handle_numbers}
use Rattle.rules.specs.Derived.{room_taken}
use Rattle.rules.specs.Handles.{handle_at, in_role, is_monitor, is_configured}
use Rattle.rules.specs.Incoming.{incoming_refusal, monitors, stops, replied, followed, handled, heard_with, heard}
use Rattle.rules.specs.Listing.{do_listing}
use Rattle.rules.specs.Lookup.{do_lookup}
use Rattle.rules.specs.Mode.{do_mode}
use Rattle.rules.specs.Open.{do_open}
use Rattle.rules.specs.Owed.{pending}
use Rattle.rules.specs.Receive.{do_receive}
use Rattle.rules.specs.State.{State, Capabilities, fresh, with_waits, with_active, with_clock}
use Rattle.rules.specs.Step.{step, after}
use Rattle.rules.specs.Time.{do_time, overdue, remaining, timeout_entry, time_out}
use Rattle.rules.specs.Tracker.{names_active, named_address, sets_active, clears_active, tracked, active_after_message, active_after_call, Tracks, do_message}
use Rattle.rules.specs.Transmit.{do_transmit, is_self_poll}
use Rattle.rules.specs.Unconfigure.{do_unconfigure, abort_transmit, abort_wait, unset}
use Rattle.waits.specs.Waits.{Taken, match_taken}

-- copies leave it
each_active : {A : Type 0} (f : State → A → State) → ((s : State) (x : A) → (f s x).active ≡ s.active) → (s : State) (xs : List A) → (each f s xs).active ≡ s.active
each_active f k s [] = refl
each_active f k s (x ∷ xs) = each_active f k (f s x) xs ∙ k s x

copy_to_active : (e : Entry) (s : State) (h : ℕ) → (copy_to e s h).active ≡ s.active
unfolding copy_to_by
copy_to_active e s h = split (eqb (room_taken s h) 16) (λ q. rw q) (λ q. rw q)

copies_active : (p : Handle → Bool) (e : Entry) (s : State) → (copies p e s).active ≡ s.active
unfolding copies_by
copies_active p e s =
    each_active (λ t h. cond (p (handle_at t h)) (copy_to e t h) t)
    (λ t h. split (p (handle_at t h)) (λ q. rw q (copy_to_active e t h)) (λ q. rw q))
    s
    handle_numbers

-- so does a call that is refused, or that leaves it when it is done
kept : (n : ℕ) (s : State) (o : Outcome) → o.state.active ≡ s.active → (unless n s o).state.active ≡ s.active
unfolding unless
kept n s o q = split (eqb n 0) (λ e. rw e q) (λ e. rw e)

-- a message that is accepted is heard
message_moves : (s : State) (n : ℕ) (bytes : List ℕ) (ts : ℕ) → (step s (call_message n bytes ts)).state.active ≡ active_after_call s (call_message n bytes ts)
unfolding do_message unless
message_moves s n bytes ts = split (eqb (incoming_refusal s.clock n ts) 0) (λ q. rw q) (λ q. rw q)

-- "hears every accepted incoming message while configured", "Unconfigure clears the tracker"; no other call moves it
pub tracker_moves : (s : State) (c : Call) → (step s c).state.active ≡ active_after_call s c
unfolding do_open do_close do_mode do_transmit do_receive do_bus_start do_bus_result do_time do_configure do_unconfigure do_listing do_lookup
tracker_moves s (call_open p) = kept _ s _ refl
tracker_moves s (call_close h) = kept _ s _ refl
tracker_moves s (call_mode h mode) = kept _ s _ refl
tracker_moves s (call_transmit h r) = kept _ s _ (split (is_self_poll s r) (λ q. rw q) (λ q. rw q))
tracker_moves s (call_receive h) = kept _ s _ refl
tracker_moves s call_bus_start = kept _ s _ refl
tracker_moves s (call_bus_result status counts ts) = kept _ s _ (copies_active _ _ s)
tracker_moves s (call_message n bytes ts) = message_moves s n bytes ts
tracker_moves s (call_time ms) = each_active time_out (λ t w. refl) _ (overdue ms s.waits)
tracker_moves s (call_configure x) = kept _ s _ refl
tracker_moves s call_unconfigure = each_active abort_wait (λ t w. refl) _ s.waits ∙ each_active abort_transmit (λ t x. refl) (unset s) (pending s)
tracker_moves s (call_listing rows) = kept _ s _ refl
tracker_moves s (call_lookup a) = kept _ s _ refl
tracker_moves s call_active_address = refl

-- after unconfigure there is none
pub unconfigured_none : (s : State) → (step s call_unconfigure).state.active ≡ CEC-PHYS-ADDR-INVALID
unconfigured_none s = tracker_moves s call_unconfigure

-- a message that is refused leaves the tracker
pub refused_unheard : (s : State) (n : ℕ) (bytes : List ℕ) (ts e : ℕ) → (step s (call_message n bytes ts)).answer ≡ refused e → (step s (call_message n bytes ts)).state.active ≡ s.active
refused_unheard s n bytes ts e q = ap (λ (t : State). t.active) (refused_same s (call_message n bytes ts) e q)

-- ---- over any list of calls
-- steps 3 to 6 of a message leave the settings
handled_settings : (s : State) (said : Bool) (reply : List ℕ) (t : Taken) (m : Message) (ts : ℕ) → (handled s said reply t m ts).settings ≡ s.settings
handled_settings s said reply t m ts =
    let a = replied s t m ts in
    let b = notes a m in
    let c = answers b said reply in
    let d = followed c said t m ts in
    (refused_message_aside d said t m).settings
    ∙ (followed_aside c said t m ts).settings
    ∙ (answers_aside b said reply).settings
    ∙ (notes_aside a m).settings
    ∙ split t.found (λ q. rw q) (λ q. rw q)

-- and so do all six
heard_settings : (s : State) (said : Bool) (reply : List ℕ) (m : Message) (ts : ℕ) → (heard_with s said reply m ts).settings ≡ s.settings
unfolding heard_with
heard_settings s said reply m ts =
    let c = copies (in_role (monitors s m)) (message_copy m ts) s in
    let a = copies_aside (monitors s m) (message_copy m ts) (message_copy_shows m ts).sequence s in
    split (stops s m)
    (λ q. rw q a.settings)
    (λ q. rw q (handled_settings c said reply (match_taken m s.waits) m ts ∙ a.settings))

-- what the tracker hears is well formed, or none
tracked_well : (active : ℕ) (m : Message) → (active ≡ CEC-PHYS-ADDR-INVALID) ⊎ (is_well_formed active ≡ true) → (tracked active m ≡ CEC-PHYS-ADDR-INVALID) ⊎ (is_well_formed (tracked active m) ≡ true)
unfolding tracked
tracked_well active m k =
    split (sets_active m)
    (λ q. rw q (inr (both (names_active m && eqb (destination m.bytes) CEC-LOG-ADDR-BROADCAST) (is_well_formed (named_address m)) q).1))
    (λ q. rw q (split (clears_active active m) (λ r. rw r (inl refl)) (λ r. rw r k)))

module _ (s : State) (k : Tracks s) where
  -- the settings and the tracker as they were
  same : (t : State) → t.settings ≡ s.settings → t.active ≡ s.active → Tracks t
  same t p q = record { well_formed = rw q k.well_formed; unconfigured = rw (p, q) k.unconfigured }

  -- none
  none : (t : State) → t.active ≡ CEC-PHYS-ADDR-INVALID → Tracks t
  none t q = record { well_formed = inl q; unconfigured = λ _. q }

  checked : (n : ℕ) (o : Outcome) → (n ≡ 0 → Tracks o.state) → Tracks (unless n s o).state
  unfolding unless
  checked n o p = split (eqb n 0) (λ e. rw e (p (eqb-true n 0 e))) (λ e. rw e k)

  -- a message: unconfigured it is not heard
  message_tracks : (t : State) (m : Message) (ts : ℕ) → t.settings ≡ s.settings → Tracks (with_clock (with_active t (active_after_message s m)) ts)
  message_tracks t m ts p =
      split (is_configured s)
      (λ q. record { well_formed = rw q (tracked_well s.active m k.well_formed); unconfigured = λ r. clash q (rw p at r) })
      (λ q. same (with_clock (with_active t (active_after_message s m)) ts) p (rw q))

  step_tracks : (c : Call) → Tracks (step s c).state
  unfolding do_open do_close do_mode do_transmit do_receive do_bus_start do_bus_result do_message do_time do_configure do_unconfigure do_listing do_lookup
  step_tracks (call_open p) = checked _ _ (λ _. same _ refl refl)
  step_tracks (call_close h) = checked _ _ (λ _. same _ refl refl)
  step_tracks (call_mode h mode) = checked _ _ (λ _. same _ refl refl)
  step_tracks (call_transmit h r) = checked _ _ (λ _. split (is_self_poll s r) (λ q. rw q (same _ refl refl)) (λ q. rw q (same _ refl refl)))
  step_tracks (call_receive h) = checked _ _ (λ _. same _ refl refl)
  step_tracks call_bus_start = checked _ _ (λ _. same _ refl refl)
  step_tracks (call_bus_result status counts ts) = checked _ _ (λ _. same _ (copies_aside is_monitor _ refl s).settings (copies_active _ _ s))
  step_tracks (call_message n bytes ts) = checked _ _ (λ _. message_tracks (heard s (message n bytes) ts) (message n bytes) ts (heard_settings s _ _ (message n bytes) ts))
  step_tracks (call_time ms) = rw (each_delivers (λ w. w.owner) timeout_entry (with_waits s (remaining ms s.waits)) (overdue ms s.waits)) (same _ refl refl)
  step_tracks (call_configure x) = checked _ _ (λ z. none _ (k.unconfigured (passed (is_configured s) EBUSY _ (omega arith) z).0))
  step_tracks call_unconfigure = none _ (unconfigured_none s)
  step_tracks (call_listing rows) = checked _ _ (λ _. k)
  step_tracks (call_lookup a) = checked _ _ (λ _. k)
  step_tracks call_active_address = k

after_tracks : (s : State) → Tracks s → (cs : List Call) → Tracks (after s cs)
after_tracks s k [] = k
after_tracks s k (c ∷ cs) = after_tracks (step s c).state (step_tracks s k c) cs

-- from a fresh adapter on, the active address is well formed or none, and none while unconfigured
pub always_tracks : (c : Capabilities) (cs : List Call) → Tracks (after (fresh c) cs)
unfolding fresh
always_tracks c cs = after_tracks (fresh c) (record { well_formed = inl refl; unconfigured = λ _. refl }) cs
