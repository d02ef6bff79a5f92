-- The flow under a number, for every call.
-- Assumes nothing.
use Prim.Native.Nat.{ℕ, ◌+◌, ◌-◌, ◌≤◌, ◌<◌}
use mathlib.Core.Bool.{Bool, false, cond}
use mathlib.Core.List.{[], ◌∷◌, ◌++◌}
use mathlib.Core.Logic.{◌≢◌}
use mathlib.Core.Path.{◌≡◌, refl, ap₂, sym}
use native.Mathlib.Omega.{arith}
use lib.Dec.{eqb}
use borrow.Author.Tests.{eqb-true}
use Rattle.constants.specs.Kernel.{CEC-TX-STATUS-OK}
use Rattle.guarantee.proofs.Brought.{silent_brought, ended_results, ended_replies, ended_oks}
use Rattle.guarantee.proofs.ByCases.{by_cases}
use Rattle.guarantee.proofs.Carried.{sent_as, awaited_as, always, sending_as, waiting_as, placed, sent_owned}
use Rattle.guarantee.proofs.Cases.{Cases, InSilence, enqueued}
use Rattle.guarantee.proofs.ClosedFlow.{close_flow}
use Rattle.guarantee.proofs.Ends.{Ends, begins}
use Rattle.guarantee.proofs.Flow.{Flow, wanting, unwanting, longer, next_given, still_flow}
use Rattle.guarantee.proofs.Invariant.{Inv}
use Rattle.guarantee.proofs.QueuedKept.{pending_queued, sum_queued}
use Rattle.guarantee.specs.Seen.{is_result, is_reply_entry, is_ok_result}
use Rattle.lists.specs.Last.{last_more}
use Rattle.lists.specs.Sums.{sum, sum-le, sum_plus}
use Rattle.lists.specs.Tests.{split, clash, and-false}
use Rattle.rules.specs.Call.{Call, Request, finish, done, accepted, call_transmit}
use Rattle.rules.specs.Handles.{has_bit}
use Rattle.rules.specs.Number.{next_sequence}
use Rattle.rules.specs.Owed.{pending}
use Rattle.rules.specs.State.{State}
use Rattle.rules.specs.Step.{step}
use Rattle.rules.specs.Transmit.{transmission_of}
use Rattle.transmission.specs.declared.Transmission.{Transmission}

module _ (h n : ℕ) (l : h < 8) (d : n ≢ 0) (s : State) (r : Inv s) where
  -- ---- transmit: one that is given another number is of another number
  queued_other : (g : ℕ) (x : Request) (q : Transmission → Bool) → eqb (next_sequence s) n ≡ false → sent_as q h n (transmission_of (next_sequence s) g x) ≡ 0
  queued_other g x q e = rw (e, and-false)

  queued_flow : (g : ℕ) (x : Request) → InSilence s (Flow h n s) (call_transmit g x) (finish (accepted (next_sequence s) 0) (enqueued s g x))
  unfolding sending_as waiting_as placed
  queued_flow g x z =
      let c = call_transmit g x in
      let o = finish (accepted (next_sequence s) 0) (enqueued s g x) in
      let zr = silent_brought (is_result n) h s c o z in
      let zp = silent_brought (is_reply_entry n) h s c o z in
      let zo = silent_brought (is_ok_result n) h s c o z in
      let same : (q : Transmission → Bool) → eqb (next_sequence s) n ≡ false → sum (sent_as q h n) (pending (enqueued s g x)) ≡ sum (sent_as q h n) (pending s) =
      λ q e. omega (arith, sum_queued (sent_as q h n) s g x, queued_other g x q e) in
      record {
        results_of = omega arith;
        results = λ e. omega (arith, same always e);
        all_results = λ e _. omega (arith, same always e);
        nearer = λ e _. rw (pending_queued s g x, last_more (sent_as always h n) (pending s) (transmission_of (next_sequence s) g x ∷ []) (omega (arith, queued_other g x always e))) (omega arith);
        alike = λ q e. omega (arith, same q e);
        replies_of = omega arith;
        replies = omega arith;
        wanted_replies = λ e. omega (arith, same wanting e);
        all_replies = λ _. omega arith;
        time = λ b. let y : b - 0 ≡ b = omega arith in rw y (omega arith);
        given = λ e. next_given h n s r (eqb-true (next_sequence s) n e);
        closing = λ k. clash k refl;
      }

  -- ---- what ends transmissions and waits: a wait begins of a result with the OK bit, of a transmission that wants a reply, and of each such
  abbrev begun : ℕ → ℕ → Transmission → ℕ
  begun = begins (awaited_as always h n)

  abbrev oks : ℕ → Transmission → ℕ
  oks status x = cond (has_bit CEC-TX-STATUS-OK status) (sent_as always h n x) 0

  begun_of : (status ts : ℕ) (x : Transmission) → (begun status ts x ≤ oks status x) × (begun status ts x ≤ sent_as wanting h n x) × (oks status x ≤ begun status ts x + sent_as unwanting h n x)
  begun_of status ts x =
      split (has_bit CEC-TX-STATUS-OK status)
      (λ e. split x.wants_reply (λ q. rw (e, q) (omega arith)) (λ q. rw (e, q) (omega arith)))
      (λ e. rw e (omega arith))

  -- the flow with a call that ends transmissions and waits
  ended_flow : (c : Call) (t : State) → Ends s c t → Flow h n s c (finish done t)
  unfolding sending_as waiting_as placed
  ended_flow c t e =
      let st = e.by.status in
      let at = e.by.sent_at in
      let zr = ended_results s c t e h l n d in
      let zp = ended_replies s c t e h l n d in
      let zo = ended_oks s c t e h l n d in
      let own : (q : Transmission → Bool) → sum (sent_as q h n) (pending t) + sum (sent_as q h n) e.sent ≡ sum (sent_as q h n) (pending s) = λ q. e.sends (sent_as q h n) (sent_owned q h n l) in
      let wait = e.waits (awaited_as always h n) (λ ms w. refl) in
      record {
        results_of = omega (arith, own always);
        results = λ _. omega (arith, own always);
        all_results = λ _ _. omega (arith, own always);
        nearer = λ _ _. e.nearer (sent_as always h n) (sent_owned always h n l);
        alike = λ q _. omega (arith, own q);
        replies_of = omega (arith, e.older (awaited_as always h n) (λ ms w. refl));
        replies = omega (arith, sum-le (begun st at) (oks st) e.sent (λ x. (begun_of st at x).0));
        wanted_replies = λ _. omega (arith, own wanting, sum-le (begun st at) (sent_as wanting h n) e.sent (λ x. (begun_of st at x).1));
        all_replies = λ _. omega (
          arith,
          own unwanting,
          sum-le (oks st) (λ x. begun st at x + sent_as unwanting h n x) e.sent (λ x. (begun_of st at x).2),
          sum_plus (begun st at) (sent_as unwanting h n) e.sent,
        );
        time = λ b. omega (arith, e.late h n b, own (longer b));
        given = λ q. clash q refl;
        closing = λ k. clash k (e.closes h);
      }

  -- ---- every call
  flow_cases : Cases s (Flow h n s)
  flow_cases = record {
    when_quiet = λ c a t q z. still_flow h n s r c _ z refl refl q.no_time q.no_end (q.no_close h) (q.sequence n);
    when_opened = λ i p _ _ z. still_flow h n s r _ _ z refl refl refl refl refl (λ q. clash q refl);
    when_closed = λ g _ _ z. close_flow h n l s g z;
    when_queued = λ g x _ _ _ _ _ z. queued_flow g x z;
    when_received = λ g x es _ _ _ z. still_flow h n s r _ _ z refl refl refl refl refl (λ q. clash q refl);
    when_started = λ x q a b z. still_flow h n s r _ _ z (sym (ap₂ ◌++◌ a b)) refl refl refl refl (λ q. clash q refl);
    when_ended = λ c t e. ended_flow c t e;
  }

  pub flow : (c : Call) → Flow h n s c (step s c)
  flow c = by_cases s r (Flow h n s) flow_cases c
