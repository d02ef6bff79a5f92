-- The times that entries show, and that accepted times never fall (document 02, W-208).
-- Assumes nothing.
use Prim.Native.Nat.{ℕ, ◌≤◌, ◌<◌}
use mathlib.Core.Bool.{Bool, ◌&&◌, not}
use mathlib.Core.List.{List, [], ◌∷◌, ◌++◌}
use mathlib.Core.Logic.{◌⊎◌, inl, inr}
use mathlib.Core.Path.{◌≡◌, refl, ap, ◌∙◌, sym}
use native.Mathlib.Omega.{arith}
use lib.Dec.{eqb, leb, ltb}
use lib.ListN.{length}
use borrow.Author.Tests.{eqb-true, lt-ltb, le-ltb, ltb-false}
use Rattle.constants.specs.Kernel.{EINVAL}
use Rattle.lists.specs.Tests.{cond_same, split}
use Rattle.message.specs.Message.{opcode, is_feature_abort}
use Rattle.message.specs.declared.Message.{Message}
use Rattle.rules.proofs.Checks.{passed, unless_refused}
use Rattle.rules.proofs.Deliveries.{each_delivers}
use Rattle.rules.specs.BusResult.{bus_result_refusal, do_bus_result, is_final, wait_for}
use Rattle.rules.specs.BusStart.{do_bus_start}
use Rattle.rules.specs.Call.{Call, Answer, Outcome, check, unless, refused, done, opened, accepted, received, started, listed, address}
use Rattle.rules.specs.Call.{call_open, call_close, call_mode, call_transmit, call_receive, call_bus_start, call_bus_result, call_message, call_time, call_configure, call_unconfigure, call_listing, call_lookup, call_active_address}
use Rattle.rules.specs.Clock.{clock_refusal}
use Rattle.rules.specs.Close.{do_close}
use Rattle.rules.specs.Configure.{do_configure}
use Rattle.rules.specs.Deliver.{each}
use Rattle.rules.specs.Incoming.{incoming_refusal, reply_entry}
use Rattle.rules.specs.Listing.{do_listing}
use Rattle.rules.specs.Lookup.{do_lookup}
use Rattle.rules.specs.Mode.{do_mode}
use Rattle.rules.specs.Open.{do_open}
use Rattle.rules.specs.Owed.{pending}
use Rattle.rules.specs.Receive.{do_receive}
use Rattle.rules.specs.State.{State, fresh, with_waits}
use Rattle.rules.specs.Step.{step, run}
use Rattle.rules.specs.Time.{do_time, overdue, remaining, timeout_entry}
use Rattle.rules.specs.Timestamps.{ShowsTimes, TimesByKind, times_in, time_in, accepted_times, clock_after, ClockMoves, EarlyRefused, times_of, NeverFall, AlwaysRising}
use Rattle.rules.specs.Tracker.{do_message}
use Rattle.rules.specs.Transmit.{do_transmit, is_self_poll}
use Rattle.rules.specs.Unconfigure.{do_unconfigure, aborted_result, abort_transmit, abort_entry, unset}
use Rattle.wait.specs.declared.Wait.{Wait}

-- ---- what each kind of entry shows
pub reply_times_lem : (w : Wait) (m : Message) (ts : ℕ) → ShowsTimes w.tx_ts ts (reply_entry w m ts)
reply_times_lem w m ts = split (is_feature_abort (opcode m.bytes)) (λ e. rw e (refl, refl)) (λ e. rw e (refl, refl))

pub times_by_kind : TimesByKind
times_by_kind = record {
  results = λ n status c m ts. (refl, refl);
  result_copies = λ status c m ts. (refl, refl);
  message_copies = λ m ts. (refl, refl);
  replies = λ t sent m ts. reply_times_lem (wait_for t sent) m ts;
  timeouts = λ t sent. (refl, refl);
  aborted_waits = λ t sent. (refl, refl);
  aborted_results = λ t. (refl, refl);
  none = (refl, refl);
}

-- ---- the check
-- a time that is not below the last one passes, an equal one too
pub on_time : (clock ts : ℕ) → clock ≤ ts → clock_refusal clock ts ≡ 0
unfolding check
on_time clock ts l = rw (le-ltb ts clock l)

-- one that is below is EINVAL, whatever the call's own check says: that is EINVAL too
early : (b : Bool) (clock ts : ℕ) → ts < clock → check b EINVAL (clock_refusal clock ts) ≡ EINVAL
unfolding check
early b clock ts l = rw (lt-ltb ts clock l) (cond_same b EINVAL)

-- and an accepted one is not
pub within : (b : Bool) (clock ts : ℕ) → check b EINVAL (clock_refusal clock ts) ≡ 0 → clock ≤ ts
within b clock ts z = let a = passed b EINVAL (clock_refusal clock ts) (omega arith) z in ltb-false ts clock (passed (ltb ts clock) EINVAL 0 (omega arith) a.1).0

refused_early : (s : State) (o : Outcome) (n : ℕ) → n ≡ EINVAL → unless n s o ≡ unless EINVAL s o
refused_early s o n e = ap (λ (k : ℕ). unless k s o) e

pub early_refused : EarlyRefused
unfolding do_bus_result do_message
early_refused = record {
  results = λ s status counts ts l. refused_early s _ _ (early (not (ltb 0 (length s.wire) && is_final status)) s.clock ts l) ∙ unless_refused s _ EINVAL (omega arith);
  messages = λ s n bytes ts l. refused_early s _ _ (early (not (leb 1 n && leb n 16)) s.clock ts l) ∙ unless_refused s _ EINVAL (omega arith);
}

-- ---- the clock after a call
-- a call that carries no time has none accepted
none_accepted : (c : Call) (a : Answer) → times_in c ≡ [] → accepted_times c a ≡ []
none_accepted c (refused e) q = refl
none_accepted c done q = q
none_accepted c (opened h) q = refl
none_accepted c (accepted n status) q = refl
none_accepted c (received e) q = refl
none_accepted c (started m) q = refl
none_accepted c (listed rows) q = refl
none_accepted c (address a) q = refl

module _ (s : State) where
  -- the outcome of a call leaves the clock, if the call carries no time
  stays : (c : Call) (o : Outcome) → times_in c ≡ [] → o.state.clock ≡ s.clock → o.state.clock ≡ clock_after s.clock (accepted_times c o.answer)
  stays c o n q = q ∙ ap (clock_after s.clock) (sym (none_accepted c o.answer n))

  -- a call with checks
  checked : (c : Call) (n : ℕ) (o : Outcome) → o.state.clock ≡ clock_after s.clock (accepted_times c o.answer) → (unless n s o).state.clock ≡ clock_after s.clock (accepted_times c (unless n s o).answer)
  unfolding unless
  checked c n o q = split (eqb n 0) (λ e. rw e q) (λ e. rw e)

  -- elapsed time, and unconfigure
  pub elapsed_clock : (ms : ℕ) → (step s (call_time ms)).state.clock ≡ s.clock
  unfolding do_time
  elapsed_clock ms = ap (λ (t : State). t.clock) (each_delivers (λ w. w.owner) timeout_entry (with_waits s (remaining ms s.waits)) (overdue ms s.waits))

  pub unconfigured_clock : (step s call_unconfigure).state.clock ≡ s.clock
  unfolding do_unconfigure
  unconfigured_clock =
      ap (λ (t : State). t.clock) (each_delivers (λ w. w.owner) abort_entry (each abort_transmit (unset s) (pending s)) s.waits)
      ∙ ap (λ (t : State). t.clock) (each_delivers (λ t. t.owner) aborted_result (unset s) (pending s))

pub clock_moves : ClockMoves
unfolding do_open do_close do_mode do_transmit do_receive do_bus_start do_bus_result do_message do_configure do_listing do_lookup
clock_moves s (call_open p) = checked s (call_open p) _ _ refl
clock_moves s (call_close h) = checked s (call_close h) _ _ refl
clock_moves s (call_mode h mode) = checked s (call_mode h mode) _ _ refl
clock_moves s (call_transmit h r) = checked s (call_transmit h r) _ _ (split (is_self_poll s r) (λ q. rw q) (λ q. rw q))
clock_moves s (call_receive h) = checked s (call_receive h) _ _ refl
clock_moves s call_bus_start = checked s call_bus_start _ _ refl
clock_moves s (call_bus_result status counts ts) = checked s (call_bus_result status counts ts) _ _ refl
clock_moves s (call_message n bytes ts) = checked s (call_message n bytes ts) _ _ refl
clock_moves s (call_time ms) = stays s (call_time ms) (step s (call_time ms)) refl (elapsed_clock s ms)
clock_moves s (call_configure x) = checked s (call_configure x) _ _ refl
clock_moves s call_unconfigure = stays s call_unconfigure (step s call_unconfigure) refl (unconfigured_clock s)
clock_moves s (call_listing rows) = checked s (call_listing rows) _ _ refl
clock_moves s (call_lookup a) = checked s (call_lookup a) _ _ refl
clock_moves s call_active_address = refl

-- ---- over a history
-- what is accepted is not below the clock
rising_if : (c : Call) (n ts : ℕ) (s : State) (o : Outcome) → times_in c ≡ ts ∷ [] → o.answer ≡ done → (n ≡ 0 → s.clock ≤ ts) → NeverFall s.clock (accepted_times c (unless n s o).answer)
unfolding unless
rising_if c n ts s o q d l = split (eqb n 0) (λ e. rw (e, d, q) (l (eqb-true n 0 e), tt)) (λ e. rw e tt)

rising_none : (c : Call) (s : State) → times_in c ≡ [] → NeverFall s.clock (accepted_times c (step s c).answer)
rising_none c s q = rw (none_accepted c (step s c).answer q) tt

rising : (s : State) (c : Call) → NeverFall s.clock (accepted_times c (step s c).answer)
unfolding do_bus_result do_message
rising s (call_open p) = rising_none (call_open p) s refl
rising s (call_close h) = rising_none (call_close h) s refl
rising s (call_mode h mode) = rising_none (call_mode h mode) s refl
rising s (call_transmit h r) = rising_none (call_transmit h r) s refl
rising s (call_receive h) = rising_none (call_receive h) s refl
rising s call_bus_start = rising_none call_bus_start s refl
rising s (call_bus_result status counts ts) = rising_if (call_bus_result status counts ts) (bus_result_refusal s status ts) ts s _ refl refl (within (not (ltb 0 (length s.wire) && is_final status)) s.clock ts)
rising s (call_message n bytes ts) = rising_if (call_message n bytes ts) (incoming_refusal s.clock n ts) ts s _ refl refl (within (not (leb 1 n && leb n 16)) s.clock ts)
rising s (call_time ms) = rising_none (call_time ms) s refl
rising s (call_configure x) = rising_none (call_configure x) s refl
rising s call_unconfigure = rising_none call_unconfigure s refl
rising s (call_listing rows) = rising_none (call_listing rows) s refl
rising s (call_lookup a) = rising_none (call_lookup a) s refl
rising s call_active_address = rising_none call_active_address s refl

-- times, and then others
rising_append : (least : ℕ) (xs ys : List ℕ) → NeverFall least xs → NeverFall (clock_after least xs) ys → NeverFall least (xs ++ ys)
rising_append least [] ys a b = b
rising_append least (x ∷ xs) ys a b = (a.0, rising_append x xs ys a.1 b)

-- from any state on
pub rising_from : (s : State) (cs : List Call) → NeverFall s.clock (times_of (run s cs))
rising_from s [] = tt
rising_from s (c ∷ cs) =
    rising_append s.clock (accepted_times c (step s c).answer) (times_of (run (step s c).state cs)) (rising s c)
    (rw (← clock_moves s c) (rising_from (step s c).state cs))

pub always_rising : AlwaysRising
unfolding fresh
always_rising c calls = rising_from (fresh c) calls

-- so the clock never falls, and no call that changes anything carries a later time than it leaves
clock_least : (least : ℕ) (xs : List ℕ) → NeverFall least xs → least ≤ clock_after least xs
clock_least least [] a = omega arith
clock_least least (x ∷ xs) a = omega (arith, a.0, clock_least x xs a.1)

pub clock_rises : (s : State) (c : Call) → s.clock ≤ (step s c).state.clock
clock_rises s c = rw (clock_moves s c) (clock_least s.clock (accepted_times c (step s c).answer) (rising s c))

carried_if : (n : ℕ) (s : State) (o : Outcome) (ts : ℕ) → ts ≤ o.state.clock → ((unless n s o).state ≡ s) ⊎ (ts ≤ (unless n s o).state.clock)
unfolding unless
carried_if n s o ts l = split (eqb n 0) (λ e. inr (rw e l)) (λ e. inl (rw e))

pub carried : (s : State) (c : Call) → ((step s c).state ≡ s) ⊎ (time_in c ≤ (step s c).state.clock)
unfolding do_bus_result do_message
carried s (call_open p) = inr (omega arith)
carried s (call_close h) = inr (omega arith)
carried s (call_mode h mode) = inr (omega arith)
carried s (call_transmit h r) = inr (omega arith)
carried s (call_receive h) = inr (omega arith)
carried s call_bus_start = inr (omega arith)
carried s (call_bus_result status counts ts) = carried_if (bus_result_refusal s status ts) s _ ts (omega arith)
carried s (call_message n bytes ts) = carried_if (incoming_refusal s.clock n ts) s _ ts (omega arith)
carried s (call_time ms) = inr (omega arith)
carried s (call_configure x) = inr (omega arith)
carried s call_unconfigure = inr (omega arith)
carried s (call_listing rows) = inr (omega arith)
carried s (call_lookup a) = inr (omega arith)
carried s call_active_address = inr (omega arith)
