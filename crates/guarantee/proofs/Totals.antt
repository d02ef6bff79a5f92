-- Totals over the calls of a history, for a handle and a number: what the transmissions and waits at its start bring.
-- Assumes nothing.
use Prim.Native.Nat.{ℕ, ◌+◌, ◌-◌, ◌≤◌, ◌<◌}
use mathlib.Core.Bool.{Bool, true, ◌||◌}
use mathlib.Core.List.{List, [], ◌∷◌}
use mathlib.Core.Logic.{◌≢◌}
use mathlib.Core.Path.{◌≡◌, refl, ap}
use native.Mathlib.Omega.{arith}
use lib.Dec.{eqb}
use lib.ListN.{length, get_or-eq_default}
use lib.Seq.{drop-nil}
use borrow.Author.Tests.{eqb-false, lt-ltb}
use Rattle.entry.specs.declared.Entry.{Entry}
use Rattle.guarantee.proofs.Brought.{brought, ok_less}
use Rattle.guarantee.proofs.Carried.{is_of, sent_as, awaited_as, always, sending_as, waiting_as, sending, waiting, placed, sent_once, sending_less}
use Rattle.guarantee.proofs.Flow.{wanting, unwanting, longer, later}
use Rattle.guarantee.proofs.Flows.{flow}
use Rattle.guarantee.proofs.Invariant.{Inv, spent, few_pending}
use Rattle.guarantee.proofs.Keeps.{keeps}
use Rattle.guarantee.specs.Seen.{came, gave, opens, closes, gives, gives_to, done_by, is_close, is_result, is_reply_entry, is_ok_result, came_to, bus_results, closings, elapsed, own, milliseconds}
use Rattle.inbox.specs.Inboxes.{inbox_of}
use Rattle.lists.specs.Last.{last_none, last_le}
use Rattle.lists.specs.Sums.{sum-le, sum_plus, count}
use Rattle.lists.specs.Tests.{split, none_bit}
use Rattle.rules.specs.Call.{Call}
use Rattle.rules.specs.Owed.{pending}
use Rattle.rules.specs.State.{State}
use Rattle.rules.specs.Step.{after, Step, step, step_of, run}
use Rattle.transmission.specs.declared.Transmission.{Transmission}
use Rattle.wait.specs.declared.Wait.{Wait}

-- nothing comes to a number over 7
nobody_came : (g : ℕ) (x : Step) → 8 ≤ g → length x.after.inboxes ≡ 8 → came g x ≡ []
nobody_came g x l e =
    split (opens g x || closes g x)
    (λ q. rw q)
    (λ q. rw (q, get_or-eq_default x.after.inboxes [] {n = g} (omega arith)) (drop-nil (length (inbox_of x.before.inboxes g) - length (gave g x))))

pub nobody : (p : Entry → Bool) (g n : ℕ) → 8 ≤ g → (s : State) (cs : List Call) → Inv s → came_to p g (own n (run s cs)) ≡ 0
nobody p g n l s [] r = refl
nobody p g n l s (c ∷ cs) r =
    let k = keeps s c r in
    let z = ap (count p) (nobody_came g (step_of s c) l k.inboxes) in
    let ih = nobody p g n l (step s c).state cs k in
    split (gives_to n (step s c).answer) (λ e. rw e (omega arith)) (λ e. rw e (omega arith))

module _ (h n : ℕ) (l : h < 8) (d : n ≢ 0) where
  -- ---- up to the next call that is given the number
  -- results: at most as many as are to be sent, and all of them once as many bus results came as it takes
  pub own_results : (s : State) (cs : List Call) → Inv s → came_to (is_result n) h (own n (run s cs)) ≤ sending h n s
  unfolding brought
  own_results s [] r = omega arith
  own_results s (c ∷ cs) r =
      let f = flow h n l d s r c in
      let ih = own_results (step s c).state cs (keeps s c r) in
      split (gives_to n (step s c).answer)
      (λ e. rw e (omega (arith, f.results_of)))
      (λ e. rw e (omega (arith, f.results e)))

  -- what has no place is not to be sent
  none_placed : (s : State) → placed h n s ≡ 0 → sending h n s ≡ 0
  unfolding placed sending_as
  none_placed s e = last_none (sent_as always h n) (pending s) e

  -- all of them come once as many bus results came as it takes
  pub all_results_lem : (s : State) (cs : List Call) → Inv s → closings h (run s cs) ≡ 0 → placed h n s ≤ bus_results (run s cs) → came_to (is_result n) h (own n (run s cs)) ≡ sending h n s
  unfolding brought
  all_results_lem s [] r z b = omega (arith, none_placed s (omega arith))
  all_results_lem s (c ∷ cs) r z b =
      let f = flow h n l d s r c in
      let k = none_bit (done_by (is_close h c) (step s c).answer) (omega arith) in
      split (gives_to n (step s c).answer)
      (λ e. rw e (omega (arith, (f.given e).0, f.results_of)))
      (λ e. rw e (omega (arith, f.all_results e k, all_results_lem (step s c).state cs (keeps s c r) (omega arith) (omega (arith, f.nearer e k)))))

  -- the nineteen
  pub placed_most : (s : State) → Inv s → placed h n s ≤ 19
  unfolding placed
  placed_most s r = omega (arith, last_le (sent_as always h n) (pending s) (sent_once h n), few_pending s r)

  -- replies: at most as many as wait or are to be sent and want one
  pub own_replies : (s : State) (cs : List Call) → Inv s → came_to (is_reply_entry n) h (own n (run s cs)) ≤ waiting h n s + sending_as wanting h n s
  unfolding brought
  own_replies s [] r = omega arith
  own_replies s (c ∷ cs) r =
      let f = flow h n l d s r c in
      let ih = own_replies (step s c).state cs (keeps s c r) in
      split (gives_to n (step s c).answer)
      (λ e. rw e (omega (arith, f.replies_of)))
      (λ e. rw e (omega (arith, f.wanted_replies e)))

  -- every wait has time left
  timed_wait : (w : Wait) → awaited_as always h n w ≤ awaited_as (later 0) h n w + spent w
  timed_wait w =
      split (eqb w.left 0)
      (λ e. rw e (split (is_of h n w) (λ q. rw q (omega arith)) (λ q. rw q (omega arith))))
      (λ e. rw (e, lt-ltb 0 w.left (omega (arith, eqb-false w.left 0 e))) (omega arith))

  -- so where none has more than 0 left, none waits
  none_later : (s : State) → Inv s → waiting_as (later 0) h n s ≡ 0 → waiting h n s ≡ 0
  unfolding waiting_as
  none_later s r z =
      omega (
        arith,
        r.timed,
        sum-le (awaited_as always h n) (λ w. awaited_as (later 0) h n w + spent w) s.waits timed_wait,
        sum_plus (awaited_as (later 0) h n) spent s.waits,
      )

  -- with nothing to be sent, all that wait have their replies once the time left has passed
  pub all_replies_lem : (s : State) (cs : List Call) (b : ℕ) → Inv s → sending h n s ≡ 0 → waiting_as (later b) h n s ≡ 0 → b ≤ elapsed (run s cs) → closings h (run s cs) ≡ 0
      → came_to (is_reply_entry n) h (own n (run s cs)) ≡ waiting h n s
  unfolding brought
  all_replies_lem s [] b r q w t z =
      let e : b ≡ 0 = omega arith in
      omega (arith, none_later s r (rw e at w))
  all_replies_lem s (c ∷ cs) b r q w t z =
      let f = flow h n l d s r c in
      let k = none_bit (done_by (is_close h c) (step s c).answer) (omega arith) in
      let o = ok_less n h s c (step s c) in
      split (gives_to n (step s c).answer)
      (λ e. rw e (omega (arith, (f.given e).1, f.replies_of)))
      (λ e. rw e (
      let a = all_replies_lem (step s c).state cs (b - milliseconds c) (keeps s c r) (omega (arith, f.results e)) (omega (arith, f.time b, sending_less (longer b) h n s)) (omega arith) (omega arith) in
      omega (arith, f.replies, f.all_replies k, f.results_of, sending_less unwanting h n s)))

  -- after a close of the handle there are neither
  pub closed_results : (s : State) (c : Call) (cs : List Call) → Inv s → done_by (is_close h c) (step s c).answer ≡ true → came_to (is_result n) h (own n (run s (c ∷ cs))) ≡ 0
  unfolding brought
  closed_results s c cs r k =
      let f = (flow h n l d s r c).closing k in
      let a = own_results (step s c).state cs (keeps s c r) in
      split (gives_to n (step s c).answer) (λ e. rw e (omega (arith, f.2))) (λ e. rw e (omega (arith, f.0, f.2)))

  pub closed_replies : (s : State) (c : Call) (cs : List Call) → Inv s → done_by (is_close h c) (step s c).answer ≡ true → came_to (is_reply_entry n) h (own n (run s (c ∷ cs))) ≡ 0
  unfolding brought
  closed_replies s c cs r k =
      let f = (flow h n l d s r c).closing k in
      let a = own_replies (step s c).state cs (keeps s c r) in
      let w = sending_less wanting h n (step s c).state in
      split (gives_to n (step s c).answer) (λ e. rw e (omega (arith, f.3))) (λ e. rw e (omega (arith, f.0, f.1, f.3)))

  -- ---- as long as the number is not given again: results come of those to be sent, which stay as they were asked for
  pub kept_results : (s : State) (cs : List Call) → Inv s → count (gives n) (run s cs) ≡ 0 → sending h n (after s cs) + came_to (is_result n) h (run s cs) ≤ sending h n s
  unfolding brought
  kept_results s [] r z = omega arith
  kept_results s (c ∷ cs) r z =
      let e = none_bit (gives_to n (step s c).answer) (omega arith) in
      omega (arith, (flow h n l d s r c).results e, kept_results (step s c).state cs (keeps s c r) (omega arith))

  pub kept_alike : (q : Transmission → Bool) (s : State) (cs : List Call) → Inv s → count (gives n) (run s cs) ≡ 0 → sending_as q h n (after s cs) ≤ sending_as q h n s
  kept_alike q s [] r z = omega arith
  kept_alike q s (c ∷ cs) r z =
      let e = none_bit (gives_to n (step s c).answer) (omega arith) in
      omega (arith, (flow h n l d s r c).alike q e, kept_alike q (step s c).state cs (keeps s c r) (omega arith))

  -- waits come of results with the OK bit
  pub kept_waits : (s : State) (cs : List Call) → Inv s → waiting h n (after s cs) + came_to (is_reply_entry n) h (run s cs) ≤ waiting h n s + came_to (is_ok_result n) h (run s cs)
  unfolding brought
  kept_waits s [] r = omega arith
  kept_waits s (c ∷ cs) r = omega (arith, (flow h n l d s r c).replies, kept_waits (step s c).state cs (keeps s c r))

  -- results with the OK bit are results
  pub kept_oks : (s : State) (cs : List Call) → came_to (is_ok_result n) h (run s cs) ≤ came_to (is_result n) h (run s cs)
  unfolding brought
  kept_oks s [] = omega arith
  kept_oks s (c ∷ cs) = omega (arith, ok_less n h s c (step s c), kept_oks (step s c).state cs)
