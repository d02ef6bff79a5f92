-- A refused call leaves the state as it was, for every call and every refusal (document 01, "Numbers given back").
-- Assumes nothing.
use Prim.Native.Nat.{ℕ}
use mathlib.Core.List.{List}
use mathlib.Core.Path.{◌≡◌}
use native.Mathlib.Omega.{arith}
use lib.Dec.{eqb}
use Rattle.handle.specs.declared.Row.{Row}
use Rattle.lists.specs.Tests.{split}
use Rattle.rules.proofs.Checks.{unless_same}
use Rattle.rules.specs.BusResult.{do_bus_result}
use Rattle.rules.specs.BusStart.{do_bus_start}
use Rattle.rules.specs.Call.{Call, unless, refused, listed, call_open, call_close}
use Rattle.rules.specs.Call.{call_mode, call_transmit, call_receive, call_bus_start, call_bus_result, call_message, call_time, call_configure, call_unconfigure, call_listing, call_lookup, call_active_address}
use Rattle.rules.specs.Close.{do_close}
use Rattle.rules.specs.Configure.{do_configure}
use Rattle.rules.specs.Listing.{do_listing, listing_refusal, filled_rows, rows_after}
use Rattle.rules.specs.Lookup.{do_lookup}
use Rattle.rules.specs.Mode.{do_mode}
use Rattle.rules.specs.Open.{do_open}
use Rattle.rules.specs.Receive.{do_receive}
use Rattle.rules.specs.State.{State}
use Rattle.rules.specs.Step.{step}
use Rattle.rules.specs.Time.{do_time}
use Rattle.rules.specs.Tracker.{do_message}
use Rattle.rules.specs.Transmit.{do_transmit, is_self_poll}
use Rattle.rules.specs.Unconfigure.{do_unconfigure}

-- two answers that differ in their kind
pub differ : {P : Type 0} → ◌≡◌ {A = ℕ} 0 1 → P
differ z = absurd (omega arith)

pub refused_same : (s : State) (c : Call) (e : ℕ) → (step s c).answer ≡ refused e → (step s c).state ≡ s
unfolding do_open do_close do_mode do_transmit do_receive do_bus_start do_bus_result do_message do_time do_configure do_unconfigure do_listing do_lookup
refused_same s (call_open p) e q = unless_same s _ _ e (λ k r. differ cc) q
refused_same s (call_close h) e q = unless_same s _ _ e (λ k r. differ cc) q
refused_same s (call_mode h m) e q = unless_same s _ _ e (λ k r. differ cc) q
refused_same s (call_transmit h r) e q = unless_same s _ _ e (λ k. split (is_self_poll s r) (λ f. rw f (λ z. differ cc)) (λ f. rw f (λ z. differ cc))) q
refused_same s (call_receive h) e q = unless_same s _ _ e (λ k r. differ cc) q
refused_same s call_bus_start e q = unless_same s _ _ e (λ k r. differ cc) q
refused_same s (call_bus_result status counts ts) e q = unless_same s _ _ e (λ k r. differ cc) q
refused_same s (call_message n bytes ts) e q = unless_same s _ _ e (λ k r. differ cc) q
refused_same s (call_time ms) e q = differ cc
refused_same s (call_configure x) e q = unless_same s _ _ e (λ k r. differ cc) q
refused_same s call_unconfigure e q = differ cc
refused_same s (call_listing rows) e q = unless_same s _ _ e (λ k r. differ cc) q
refused_same s (call_lookup a) e q = unless_same s _ _ e (λ k r. differ cc) q
refused_same s call_active_address e q = differ cc

-- a refused listing leaves the lent rows
pub refused_rows : (s : State) (rows : List Row) (e : ℕ) → (do_listing s rows).answer ≡ refused e → rows_after s rows ≡ rows
unfolding do_listing rows_after unless
refused_rows s rows e q =
    split (eqb (listing_refusal rows) 0)
    (λ f. let z : listed (filled_rows s rows) ≡ refused e = rw f at q in differ cc)
    (λ f. rw f)
