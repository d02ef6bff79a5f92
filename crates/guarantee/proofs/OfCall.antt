-- What comes with a call shows that call's time, in every history (document 02, W-208).
-- Assumes nothing.
use Prim.Native.Nat.{ℕ, zero, suc, ◌-◌, ◌<◌}
use mathlib.Core.Bool.{false}
use mathlib.Core.List.{List, [], ◌∷◌}
use mathlib.Core.Path.{◌≡◌, refl, ap}
use native.Mathlib.Omega.{arith}
use lib.Dec.{eqb}
use lib.ListN.{length, get_or}
use lib.Seq.{drop-append_seam}
use Rattle.entry.specs.Entry.{no_entry}
use Rattle.entry.specs.declared.Counts.{Counts}
use Rattle.entry.specs.declared.Entry.{Entry}
use Rattle.guarantee.proofs.ByCases.{by_cases}
use Rattle.guarantee.proofs.Cases.{Silent, step_from, same_came}
use Rattle.guarantee.proofs.Ends.{is_ending}
use Rattle.guarantee.proofs.EveryEntry.{All, Grows, grows_same, grows_trans, message_grows, concluded_grows, time_grows, unconfigured_grows}
use Rattle.guarantee.proofs.Invariant.{Inv}
use Rattle.guarantee.proofs.Parts.{parted}
use Rattle.guarantee.proofs.Reached.{reached}
use Rattle.guarantee.specs.Seen.{came, is_close}
use Rattle.guarantee.specs.Timestamps.{TimesOfStep, AlwaysOfCall}
use Rattle.inbox.specs.Inboxes.{inbox_of}
use Rattle.lists.specs.Sums.{sum_zero}
use Rattle.lists.specs.Tests.{split, clash}
use Rattle.message.specs.Message.{message}
use Rattle.rules.proofs.Timestamps.{reply_times_lem}
use Rattle.rules.specs.BusResult.{concluded, do_bus_result, kept_counts}
use Rattle.rules.specs.Call.{Call, finish, unless, refused, done}
use Rattle.rules.specs.Call.{call_open, call_close, call_mode, call_transmit, call_receive, call_bus_start, call_bus_result, call_message, call_time, call_configure, call_unconfigure, call_listing, call_lookup, call_active_address}
use Rattle.rules.specs.Features.{answer_for, is_answered}
use Rattle.rules.specs.Incoming.{heard}
use Rattle.rules.specs.State.{State, fresh, with_active, with_clock}
use Rattle.rules.specs.Step.{after, step, step_of}
use Rattle.rules.specs.Time.{do_time}
use Rattle.rules.specs.Timestamps.{ShowsTimes, times_in}
use Rattle.rules.specs.Tracker.{active_after_message, do_message}
use Rattle.rules.specs.Unconfigure.{do_unconfigure}
use Rattle.transmission.specs.Transmission.{head_of}
use Rattle.wait.specs.Wait.{no_wait}

-- an entry of a list
all-at : (Q : Entry → Type 0) (es : List Entry) → All Q es → (i : ℕ) → i < length es → Q (get_or es i no_entry)
all-at Q [] a i l = absurd (omega arith)
all-at Q (e ∷ es) a zero l = a.0
all-at Q (e ∷ es) a (suc i) l = all-at Q es a.1 i (omega arith)

module _ (Q : Entry → Type 0) (s : State) (c : Call) (h : ℕ) where
  -- what comes with a call that is done is what is new in the inbox
  came_done : (t : State) → is_close h c ≡ false → Grows Q s t → All Q (came h (step_from s c (finish done t)))
  came_done t q g =
      let z : length (inbox_of s.inboxes h) - 0 ≡ length (inbox_of s.inboxes h) = omega arith in
      rw (q, (g h).grown, z, drop-append_seam (inbox_of s.inboxes h) (g h).more) (g h).all

  -- nothing comes with one that is refused
  came_checked : (n : ℕ) (t : State) → is_close h c ≡ false → Grows Q s t → All Q (came h (step_from s c (unless n s (finish done t))))
  unfolding unless
  came_checked n t q g =
      split (eqb n 0)
      (λ e. rw e (came_done t q g))
      (λ e. rw e (rw (same_came h (step_from s c (finish (refused n) s)) refl refl) tt))

-- with a bus result
result_of_lem : (s : State) (status : ℕ) (counts : Counts) (ts h : ℕ) → All (ShowsTimes ts 0) (came h (step_of s (call_bus_result status counts ts)))
unfolding do_bus_result
result_of_lem s status counts ts h =
    let Q = ShowsTimes ts 0 in
    let t = concluded s (head_of s.wire) status (kept_counts status counts) ts in
    came_checked Q s (call_bus_result status counts ts) h _ (with_clock t ts) refl
    (grows_trans Q s t (with_clock t ts) (concluded_grows Q s (head_of s.wire) status (kept_counts status counts) ts (λ n. (refl, refl))) (grows_same Q t (with_clock t ts) refl))

-- with a message
message_of_lem : (s : State) (n : ℕ) (bytes : List ℕ) (ts h : ℕ) → All (λ e. e.rx_ts ≡ ts) (came h (step_of s (call_message n bytes ts)))
unfolding do_message
message_of_lem s n bytes ts h =
    let Q : Entry → Type 0 = λ e. e.rx_ts ≡ ts in
    let m = message n bytes in
    let t = heard s m ts in
    let u = with_clock (with_active t (active_after_message s m)) ts in
    came_checked Q s (call_message n bytes ts) h _ u refl
    (grows_trans Q s t u (message_grows Q s (is_answered s m) (answer_for s.settings m) m ts refl (λ i _. (reply_times_lem (get_or s.waits i no_wait) m ts).1)) (grows_same Q t u refl))

-- nothing comes with a call that ends nothing
silent : (s : State) → Inv s → (c : Call) → is_ending c ≡ false → Silent s c (step s c)
silent s r c =
    by_cases s r (λ d o. is_ending d ≡ false → Silent s d o)
    (record {
      when_quiet = λ d a t q z _. z;
      when_opened = λ i p _ _ z _. z;
      when_closed = λ g _ _ z _. z;
      when_queued = λ g x _ _ _ _ _ z _. z;
      when_received = λ g x es _ _ _ z _. z;
      when_started = λ x q a b z _. z;
      when_ended = λ d t e q. clash e.ending q;
    })
    c

module _ (s : State) (r : Inv s) (h : ℕ) where
  abbrev Unreceived : Entry → Type 0
  Unreceived e = e.rx_ts ≡ 0

  none_of : (c : Call) → is_ending c ≡ false → All Unreceived (came h (step_of s c))
  none_of c q = rw (silent s r c q h) tt

  -- with any other call
  other_of : (c : Call) → times_in c ≡ [] → All Unreceived (came h (step_of s c))
  unfolding do_time do_unconfigure
  other_of (call_open p) q = none_of (call_open p) refl
  other_of (call_close g) q = none_of (call_close g) refl
  other_of (call_mode g mode) q = none_of (call_mode g mode) refl
  other_of (call_transmit g x) q = none_of (call_transmit g x) refl
  other_of (call_receive g) q = none_of (call_receive g) refl
  other_of call_bus_start q = none_of call_bus_start refl
  other_of (call_bus_result status counts ts) q = let z = ap length q in absurd (omega arith)
  other_of (call_message n bytes ts) q = let z = ap length q in absurd (omega arith)
  other_of (call_time ms) q = came_done Unreceived s (call_time ms) h _ refl (time_grows Unreceived s (λ _. 0) (λ n w. refl) (sum_zero (λ _. 0) s.waits (λ _. refl)) (λ w _. refl) ms)
  other_of (call_configure x) q = none_of (call_configure x) refl
  other_of call_unconfigure q = came_done Unreceived s call_unconfigure h _ refl (unconfigured_grows Unreceived s (λ _. 0) (sum_zero (λ _. 0) s.waits (λ _. refl)) (λ w _. refl) (λ x. refl))
  other_of (call_listing rows) q = none_of (call_listing rows) refl
  other_of (call_lookup a) q = none_of (call_lookup a) refl
  other_of call_active_address q = none_of call_active_address refl

times_of_step : (s : State) → Inv s → (c : Call) → TimesOfStep (step_of s c)
times_of_step s r c = record {
  results = λ status counts ts q. rw q (λ h i l. all-at (ShowsTimes ts 0) (came h (step_of s (call_bus_result status counts ts))) (result_of_lem s status counts ts h) i l);
  messages = λ n bytes ts q. rw q (λ h i l. all-at (λ e. e.rx_ts ≡ ts) (came h (step_of s (call_message n bytes ts))) (message_of_lem s n bytes ts h) i l);
  others = λ q h i l. all-at (λ e. e.rx_ts ≡ 0) (came h (step_of s c)) (other_of s r h c q) i l;
}

pub always_of_call : AlwaysOfCall
always_of_call c calls past x rest e =
    let p = parted (fresh c) calls past x rest e in
    rw p.here (times_of_step (after (fresh c) p.before) (reached c p.before) p.call)
