-- What ends a wait without a reply shows the opcode that its transmit wanted, over any calls (document 02, W-207).
-- Assumes nothing.
use Prim.Native.Nat.{ℕ, ◌+◌, ◌≤◌, ◌<◌}
use mathlib.Core.Bool.{Bool, true, false, cond, not, ◌&&◌}
use mathlib.Core.List.{List, [], ◌∷◌}
use mathlib.Core.Logic.{◌≢◌}
use mathlib.Core.Path.{◌≡◌, refl}
use native.Mathlib.Omega.{arith}
use lib.Dec.{eqb}
use borrow.Author.Tests.{eqb-true, eqb-false}
use Rattle.constants.specs.Kernel.{CEC-TX-STATUS-OK, CEC-RX-STATUS-OK}
use Rattle.guarantee.proofs.Began.{Began, after_transmit}
use Rattle.guarantee.proofs.Brought.{brought, silent_brought, other_number, ended_brought, none_kept, reply_is}
use Rattle.guarantee.proofs.ByCases.{by_cases}
use Rattle.guarantee.proofs.Carried.{sent_as, awaited_as, sending_as, waiting_as, sent_owned, sending_less, waiting_less}
use Rattle.guarantee.proofs.Cases.{Cases, Silent}
use Rattle.guarantee.proofs.Ends.{Ends, begins}
use Rattle.guarantee.proofs.Fate.{no_handle}
use Rattle.guarantee.proofs.Flow.{other_sent, other_awaited}
use Rattle.guarantee.proofs.Flows.{flow}
use Rattle.guarantee.proofs.Invariant.{Inv}
use Rattle.guarantee.proofs.Keeps.{keeps}
use Rattle.guarantee.specs.Opcodes.{shows_other, AlwaysWanted}
use Rattle.guarantee.specs.Seen.{gives_to, came_to, came_to_any, own}
use Rattle.lists.specs.Sums.{sum, sum-le, sum_keep_le}
use Rattle.lists.specs.Tests.{bit, split, and-false}
use Rattle.rules.proofs.Mail.{Numbered}
use Rattle.rules.specs.Call.{Call, Request, Outcome, finish, done}
use Rattle.rules.specs.Handles.{has_bit}
use Rattle.rules.specs.State.{State}
use Rattle.rules.specs.Step.{Step, step, run}
use Rattle.transmission.specs.declared.Transmission.{Transmission}
use Rattle.wait.specs.Wait.{owned_by}
use Rattle.wait.specs.declared.Wait.{Wait}

-- an entry that shows another opcode than k comes of a wait that wanted another, and such a wait of such a transmission
record OtherFlow (k h n : ℕ) (s : State) (c : Call) (o : Outcome) : Type 0 where
  pub brings : brought (shows_other n k) h s c o ≤ waiting_as (other_awaited k) h n s
  pub awaits : waiting_as (other_awaited k) h n o.state ≤ waiting_as (other_awaited k) h n s + sending_as (other_sent k) h n s

module _ (k h n : ℕ) (l : h < 8) (d : n ≢ 0) where
  other_numbered : Numbered (λ e. bit (shows_other n k e))
  other_numbered e z = rw (other_number n e d z)

  -- of the entry by which a wait ends: a whether it has the number, b the OK bit, c whether it shows k, and w whether the wait wanted k
  other_less : (a b c w : Bool) → (b ≡ false → c ≡ w) → bit (a && not b && not c) ≤ cond a (bit (not w)) 0
  other_less false b c w f = omega arith
  other_less true true c w f = omega arith
  other_less true false c w f = rw (f refl) (omega arith)

  module _ (s : State) (r : Inv s) where
    -- nothing comes, and no wait begins
    still : (c : Call) (o : Outcome) → Silent s c o → sum (awaited_as (other_awaited k) h n) o.state.waits ≤ sum (awaited_as (other_awaited k) h n) s.waits → OtherFlow k h n s c o
    unfolding waiting_as
    still c o z w = record { brings = omega (arith, silent_brought (shows_other n k) h s c o z); awaits = omega arith }

    module _ (c : Call) (t : State) (e : Ends s c t) where
      -- a result is no such entry
      of_result : (x : Transmission) → bit (shows_other n k (e.by.result_of x)) ≡ 0
      of_result x = rw ((e.by.results x).received, and-false)

      -- of a wait comes one only if it wanted another opcode
      of_wait : (w : Wait) → cond (owned_by h w) (bit (shows_other n k (e.by.reply_of w))) 0 ≤ awaited_as (other_awaited k) h n w
      of_wait w =
          split (owned_by h w)
          (λ q. rw (q, reply_is s c t e h l n d w) (other_less (eqb w.sequence n) (has_bit CEC-RX-STATUS-OK (e.by.reply_of w).rx_status) (eqb (e.by.reply_of w).reply k) (eqb w.reply k) (λ b. rw (e.by.wanted w b))))
          (λ q. rw q (omega arith))

      -- a wait wants what its transmission wanted
      of_sent : (x : Transmission) → begins (awaited_as (other_awaited k) h n) e.by.status e.by.sent_at x ≤ sent_as (other_sent k) h n x
      of_sent x = split (has_bit CEC-TX-STATUS-OK e.by.status && x.wants_reply) (λ q. rw q (omega arith)) (λ q. rw q (omega arith))

      ended : OtherFlow k h n s c (finish done t)
      unfolding waiting_as sending_as
      ended = record {
        brings = omega (
          arith,
          ended_brought s c t e h l (shows_other n k) other_numbered,
          none_kept s c t e h l (λ (x : Transmission). eqb x.owner h) (λ x. bit (shows_other n k (e.by.result_of x))) e.sent of_result,
          sum-le (λ w. cond (owned_by h w) (bit (shows_other n k (e.by.reply_of w))) 0) (awaited_as (other_awaited k) h n) e.over of_wait,
          e.older (awaited_as (other_awaited k) h n) (λ ms w. refl),
        );
        awaits = omega (
          arith,
          e.waits (awaited_as (other_awaited k) h n) (λ ms w. refl),
          sum-le (begins (awaited_as (other_awaited k) h n) e.by.status e.by.sent_at) (sent_as (other_sent k) h n) e.sent of_sent,
          e.sends (sent_as (other_sent k) h n) (sent_owned (other_sent k) h n l),
        );
      }

    other_cases : Cases s (OtherFlow k h n s)
    other_cases = record {
      when_quiet = λ c a t q z. still c _ z (omega arith);
      when_opened = λ i p _ _ z. still _ _ z (omega arith);
      when_closed = λ g _ _ z. still _ _ z (sum_keep_le (awaited_as (other_awaited k) h n) (λ w. not (owned_by g w)) s.waits);
      when_queued = λ g x _ _ _ _ _ z. still _ _ z (omega arith);
      when_received = λ g x es _ _ _ z. still _ _ z (omega arith);
      when_started = λ x q a b z. still _ _ z (omega arith);
      when_ended = λ c t e. ended c t e;
    }

    other_flow : (c : Call) → OtherFlow k h n s c (step s c)
    other_flow c = by_cases s r (OtherFlow k h n s) other_cases c

  -- where nothing under the number wants another opcode no entry shows one, up to the next call that is given the number
  none_other : (s : State) (cs : List Call) → Inv s → waiting_as (other_awaited k) h n s ≡ 0 → sending_as (other_sent k) h n s ≡ 0 → came_to (shows_other n k) h (own n (run s cs)) ≡ 0
  unfolding brought
  none_other s [] r w q = refl
  none_other s (c ∷ cs) r w q =
      let f = other_flow s r c in
      split (gives_to n (step s c).answer)
      (λ e. rw e (omega (arith, f.brings)))
      (λ e. rw e (omega (arith, f.brings, none_other (step s c).state cs (keeps s c r) (omega (arith, f.awaits)) (omega (arith, (flow h n l d s r c).alike (other_sent k) e)))))

-- so it is after a transmit that is accepted and queued, of its handle and of every other
wanted_after : (h : ℕ) (x : Request) (n : ℕ) (s : State) → Inv s → Began h x n s → (cs : List Call) → came_to_any (shows_other n x.reply) (own n (run s cs)) ≡ 0
wanted_after h x n s r b cs =
    no_handle (shows_other n x.reply) (own n (run s cs)) (λ g l.
    none_other x.reply g n l b.some s cs r
    (omega (arith, waiting_less (other_awaited x.reply) g n s, b.quiet g))
    (split (eqb g h)
    (λ e. rw (eqb-true g h e) b.wanted)
    (λ e. omega (arith, sending_less (other_sent x.reply) g n s, b.others g (eqb-false g h e)))))

pub always_wanted : AlwaysWanted
always_wanted c calls past x later e h r n k a =
    omega (arith, after_transmit (λ (g : ℕ) (y : Request) (i : ℕ) (ys : List Step). came_to_any (shows_other i y.reply) (own i ys) ≡ 0) wanted_after c calls past x later e h r n k a)
