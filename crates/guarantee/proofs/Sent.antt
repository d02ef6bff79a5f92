-- The sent time that a reply entry shows is that of its own transmit's result, over any calls (document 02, W-208).
-- Assumes nothing.
use Prim.Native.Nat.{ℕ, ◌+◌, ◌≤◌, ◌<◌}
use mathlib.Core.Bool.{Bool, true, false, cond, not, ◌&&◌}
use mathlib.Core.List.{List, [], ◌∷◌}
use mathlib.Core.Logic.{◌≢◌}
use mathlib.Core.Path.{◌≡◌, refl}
use native.Mathlib.Omega.{arith}
use lib.Dec.{eqb}
use Rattle.constants.specs.Kernel.{CEC-TX-STATUS-OK}
use Rattle.entry.specs.declared.Entry.{Entry}
use Rattle.guarantee.proofs.Began.{Began, after_transmit}
use Rattle.guarantee.proofs.Brought.{brought, silent_brought, other_number, ended_brought, none_kept, result_is, result_not, reply_is, reply_not}
use Rattle.guarantee.proofs.ByCases.{by_cases}
use Rattle.guarantee.proofs.Carried.{awaited_as, waiting_as, waiting_less}
use Rattle.guarantee.proofs.Cases.{Cases, Silent}
use Rattle.guarantee.proofs.Ends.{Ends, begins}
use Rattle.guarantee.proofs.Fate.{fate, no_handle}
use Rattle.guarantee.proofs.Invariant.{Inv}
use Rattle.guarantee.proofs.Keeps.{keeps}
use Rattle.guarantee.specs.Seen.{came, gives_to, is_result, came_to, came_to_any, own}
use Rattle.guarantee.specs.Timestamps.{result_at, shows_other_time, AlwaysSent}
use Rattle.lists.specs.Spread.{upto_most}
use Rattle.lists.specs.Sums.{sum, sum-le, sum_plus, sum_same, sum_keep_le, count}
use Rattle.lists.specs.Tests.{bit, split}
use Rattle.rules.proofs.Mail.{Numbered}
use Rattle.rules.specs.Call.{Call, Request, Outcome, finish, done}
use Rattle.rules.specs.Deliver.{handle_numbers}
use Rattle.rules.specs.Handles.{has_bit}
use Rattle.rules.specs.State.{State}
use Rattle.rules.specs.Step.{Step, step, run}
use Rattle.transmission.specs.declared.Transmission.{Transmission}
use Rattle.wait.specs.Wait.{owned_by}
use Rattle.wait.specs.declared.Wait.{Wait}

-- a result that shows another time than ts, and a wait that began with one
abbrev other_result : ℕ → ℕ → Entry → Bool
other_result n ts e = is_result n e && not (eqb e.tx_ts ts)

abbrev other_began : ℕ → Wait → Bool
other_began ts w = not (eqb w.tx_ts ts)

-- an entry that ends a wait and shows another time comes of a wait that began with another, and such a wait of a result that showed it
record TimeFlow (ts h n : ℕ) (s : State) (c : Call) (o : Outcome) : Type 0 where
  pub brings : brought (shows_other_time n ts) h s c o ≤ waiting_as (other_began ts) h n s
  pub awaits : waiting_as (other_began ts) h n o.state + brought (shows_other_time n ts) h s c o ≤ waiting_as (other_began ts) h n s + brought (other_result n ts) h s c o

module _ (ts h n : ℕ) (l : h < 8) (d : n ≢ 0) where
  shown_numbered : Numbered (λ e. bit (shows_other_time n ts e))
  shown_numbered e z = rw (other_number n e d z)

  result_numbered : Numbered (λ e. bit (other_result n ts e))
  result_numbered e z = rw (other_number n e d z)

  -- of a wait: a whether it is of the handle, b whether it has the number, c whether it began with ts
  wait_weight : (a b c : Bool) → cond a (bit (b && not c)) 0 ≡ cond (a && b) (bit (not c)) 0
  wait_weight true true c = refl
  wait_weight true false c = refl
  wait_weight false b c = refl

  -- and of a transmission: o whether its wait begins
  sent_weight : (a b c o : Bool) → cond o (cond (a && b) (bit (not c)) 0) 0 ≤ cond a (bit (b && not c)) 0
  sent_weight true true c true = omega arith
  sent_weight true true c false = omega arith
  sent_weight true false c true = omega arith
  sent_weight true false c false = omega arith
  sent_weight false b c true = omega arith
  sent_weight false b c false = omega arith

  module _ (s : State) (r : Inv s) where
    -- nothing comes, and no wait begins
    still : (c : Call) (o : Outcome) → Silent s c o → sum (awaited_as (other_began ts) h n) o.state.waits ≤ sum (awaited_as (other_began ts) h n) s.waits → TimeFlow ts h n s c o
    unfolding waiting_as
    still c o z w = record {
      brings = omega (arith, silent_brought (shows_other_time n ts) h s c o z);
      awaits = omega (arith, silent_brought (shows_other_time n ts) h s c o z);
    }

    module _ (c : Call) (t : State) (e : Ends s c t) where
      -- a result ends no wait, and what ends a wait is no result
      no_reply : (x : Transmission) → bit (shows_other_time n ts (e.by.result_of x)) ≡ 0
      no_reply x = omega (arith, result_not s c t e h l n d x, less (is_reply x) (not (eqb (e.by.result_of x).tx_ts ts)))
        where
          is_reply : Transmission → Bool
          is_reply y = eqb (e.by.result_of y).sequence n && not (eqb (e.by.result_of y).rx_status 0)

          less : (a b : Bool) → bit (a && b) ≤ bit a
          less true true = omega arith
          less true false = omega arith
          less false b = omega arith

      no_result : (w : Wait) → bit (other_result n ts (e.by.reply_of w)) ≡ 0
      no_result w = rw (reply_not s c t e h l n d w)

      -- what ends a wait shows the time with which it began
      of_wait : (w : Wait) → cond (owned_by h w) (bit (shows_other_time n ts (e.by.reply_of w))) 0 ≡ awaited_as (other_began ts) h n w
      of_wait w = rw (reply_is s c t e h l n d w, e.by.reply_times w) (wait_weight (eqb w.owner h) (eqb w.sequence n) (eqb w.tx_ts ts))

      -- a wait begins with the time that the result shows
      of_sent : (x : Transmission) → begins (awaited_as (other_began ts) h n) e.by.status e.by.sent_at x ≤ cond (eqb x.owner h) (bit (other_result n ts (e.by.result_of x))) 0
      of_sent x =
          rw (result_is s c t e h l n d x, e.by.result_times x)
          (sent_weight (eqb x.owner h) (eqb x.sequence n) (eqb e.by.sent_at ts) (has_bit CEC-TX-STATUS-OK e.by.status && x.wants_reply))

      shown_sum : brought (shows_other_time n ts) h s c (finish done t) ≡ sum (awaited_as (other_began ts) h n) e.over
      shown_sum =
          omega (
            arith,
            ended_brought s c t e h l (shows_other_time n ts) shown_numbered,
            none_kept s c t e h l (λ (x : Transmission). eqb x.owner h) (λ x. bit (shows_other_time n ts (e.by.result_of x))) e.sent no_reply,
            sum_same (λ w. cond (owned_by h w) (bit (shows_other_time n ts (e.by.reply_of w))) 0) (awaited_as (other_began ts) h n) e.over of_wait,
          )

      ended : TimeFlow ts h n s c (finish done t)
      unfolding waiting_as
      ended = record {
        brings = omega (arith, shown_sum, e.older (awaited_as (other_began ts) h n) (λ ms w. refl));
        awaits = omega (
          arith,
          shown_sum,
          e.waits (awaited_as (other_began ts) h n) (λ ms w. refl),
          ended_brought s c t e h l (other_result n ts) result_numbered,
          none_kept s c t e h l (owned_by h) (λ w. bit (other_result n ts (e.by.reply_of w))) e.over no_result,
          sum-le (begins (awaited_as (other_began ts) h n) e.by.status e.by.sent_at) (λ x. cond (eqb x.owner h) (bit (other_result n ts (e.by.result_of x))) 0) e.sent of_sent,
        );
      }

    time_cases : Cases s (TimeFlow ts h n s)
    time_cases = record {
      when_quiet = λ c a t q z. still c _ z (omega arith);
      when_opened = λ i p _ _ z. still _ _ z (omega arith);
      when_closed = λ g _ _ z. still _ _ z (sum_keep_le (awaited_as (other_began ts) h n) (λ w. not (owned_by g w)) s.waits);
      when_queued = λ g x _ _ _ _ _ z. still _ _ z (omega arith);
      when_received = λ g x es _ _ _ z. still _ _ z (omega arith);
      when_started = λ x q a b z. still _ _ z (omega arith);
      when_ended = λ c t e. ended c t e;
    }

    time_flow : (c : Call) → TimeFlow ts h n s c (step s c)
    time_flow c = by_cases s r (TimeFlow ts h n s) time_cases c

  -- so it is over any calls, up to the next one that is given the number
  total : (s : State) (cs : List Call) → Inv s → came_to (shows_other_time n ts) h (own n (run s cs)) ≤ waiting_as (other_began ts) h n s + came_to (other_result n ts) h (own n (run s cs))
  unfolding brought
  total s [] r = omega arith
  total s (c ∷ cs) r =
      let f = time_flow s r c in
      split (gives_to n (step s c).answer)
      (λ e. rw e (omega (arith, f.brings)))
      (λ e. rw e (omega (arith, f.awaits, total (step s c).state cs (keeps s c r))))

-- results by the time that they show
both_ways : (a b : Bool) → bit (a && b) + bit (a && not b) ≡ bit a
both_ways true true = refl
both_ways true false = refl
both_ways false b = refl

results_split : (n ts : ℕ) (xs : List Step) → came_to_any (result_at n ts) xs + came_to_any (other_result n ts) xs ≡ came_to_any (is_result n) xs
results_split n ts xs =
    omega (
      arith,
      sum_plus (λ h. came_to (result_at n ts) h xs) (λ h. came_to (other_result n ts) h xs) handle_numbers,
      sum_same (λ h. came_to (result_at n ts) h xs + came_to (other_result n ts) h xs) (λ h. came_to (is_result n) h xs) handle_numbers (λ h. to h),
    )
  where
    entries : (es : List Entry) → count (result_at n ts) es + count (other_result n ts) es ≡ count (is_result n) es
    entries es =
        omega (
          arith,
          sum_plus (λ e. bit (result_at n ts e)) (λ e. bit (other_result n ts e)) es,
          sum_same (λ e. bit (result_at n ts e) + bit (other_result n ts e)) (λ e. bit (is_result n e)) es (λ e. both_ways (is_result n e) (eqb e.tx_ts ts)),
        )

    to : (h : ℕ) → came_to (result_at n ts) h xs + came_to (other_result n ts) h xs ≡ came_to (is_result n) h xs
    to h =
        omega (
          arith,
          sum_plus (λ x. count (result_at n ts) (came h x)) (λ x. count (other_result n ts) (came h x)) xs,
          sum_same (λ x. count (result_at n ts) (came h x) + count (other_result n ts) (came h x)) (λ x. count (is_result n) (came h x)) xs (λ x. entries (came h x)),
        )

-- what comes to one handle comes to all
one_of_all : (p : Entry → Bool) (g : ℕ) (xs : List Step) → g < 8 → came_to p g xs ≤ came_to_any p xs
one_of_all p g xs l = omega (arith, upto_most (λ h. came_to p h xs) g 8 l)

-- after a transmit that is accepted and queued: at most one result comes, and where it shows ts no reply entry shows another
abbrev SentShownAfter : ℕ → List Step → Type 0
SentShownAfter n later = (ts : ℕ) → 1 ≤ came_to_any (result_at n ts) (own n later) → came_to_any (shows_other_time n ts) (own n later) ≡ 0

sent_after : (h : ℕ) (x : Request) (n : ℕ) (s : State) → Inv s → Began h x n s → (cs : List Call) → SentShownAfter n (run s cs)
sent_after h x n s r b cs ts k =
    let xs = own n (run s cs) in
    let other : came_to_any (other_result n ts) xs ≡ 0 = omega (arith, k, results_split n ts xs, (fate h x n s r b cs).one_result_at_most) in
    no_handle (shows_other_time n ts) xs (λ g l.
    omega (arith, total ts g n l b.some s cs r, waiting_less (other_began ts) g n s, b.quiet g, one_of_all (other_result n ts) g xs l, other))

pub always_sent : AlwaysSent
always_sent c calls past x later e h r n k a ts q =
    omega (arith, after_transmit (λ (g : ℕ) (y : Request) (i : ℕ) (ys : List Step). SentShownAfter i ys) sent_after c calls past x later e h r n k a ts q)
