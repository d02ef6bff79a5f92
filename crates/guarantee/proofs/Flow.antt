-- What a call does to the transmissions and the waits of a handle under a number, and what comes of them.
-- Assumes nothing.
use Prim.Native.Nat.{ℕ, ◌+◌, ◌-◌, ◌≤◌}
use mathlib.Core.Bool.{Bool, true, false, not}
use mathlib.Core.Path.{◌≡◌, ap}
use native.Mathlib.Omega.{arith}
use lib.Dec.{eqb, ltb}
use Rattle.guarantee.proofs.Brought.{brought, silent_brought}
use Rattle.guarantee.proofs.Carried.{sent_as, awaited_as, always, sending_as, waiting_as, sending, waiting, placed, unused}
use Rattle.guarantee.proofs.Cases.{Silent}
use Rattle.guarantee.proofs.Invariant.{Inv, next_unused}
use Rattle.guarantee.specs.Seen.{gives_to, done_by, is_close, is_bus_result, milliseconds, is_result, is_reply_entry, is_ok_result}
use Rattle.lists.specs.Sums.{sum}
use Rattle.lists.specs.Tests.{bit, clash}
use Rattle.rules.specs.Call.{Call, Outcome}
use Rattle.rules.specs.Number.{next_sequence}
use Rattle.rules.specs.Owed.{pending}
use Rattle.rules.specs.State.{State}
use Rattle.transmission.specs.declared.Transmission.{Transmission}
use Rattle.wait.specs.declared.Wait.{Wait}

-- a transmission that wants a reply, and one that does not
abbrev pub wanting : Transmission → Bool
wanting t = t.wants_reply

abbrev pub unwanting : Transmission → Bool
unwanting t = not t.wants_reply

-- another opcode than k wanted, by a transmission and by a wait
abbrev pub other_sent : ℕ → Transmission → Bool
other_sent k t = not (eqb t.reply k)

abbrev pub other_awaited : ℕ → Wait → Bool
other_awaited k w = not (eqb w.reply k)

-- more time than b: the timeout of a transmission, the time left of a wait
abbrev pub longer : ℕ → Transmission → Bool
longer b t = ltb b t.timeout

abbrev pub later : ℕ → Wait → Bool
later b w = ltb b w.left

pub record Flow (h n : ℕ) (s : State) (c : Call) (o : Outcome) : Type 0 where
  -- a result comes of a transmission that was to be sent; each ends with one, if the handle is not closed
  pub results_of : brought (is_result n) h s c o ≤ sending h n s
  pub results : gives_to n o.answer ≡ false → sending h n o.state + brought (is_result n) h s c o ≤ sending h n s
  pub all_results : gives_to n o.answer ≡ false → done_by (is_close h c) o.answer ≡ false → sending h n o.state + brought (is_result n) h s c o ≡ sending h n s
  -- each bus result brings it nearer
  pub nearer : gives_to n o.answer ≡ false → done_by (is_close h c) o.answer ≡ false → placed h n o.state ≤ placed h n s - bit (done_by (is_bus_result c) o.answer)
  -- it stays as it was asked for
  pub alike : (q : Transmission → Bool) → gives_to n o.answer ≡ false → sending_as q h n o.state ≤ sending_as q h n s
  -- a reply comes of a wait, and a wait of a result with the OK bit, if a reply was wanted; each wait ends with one, if the handle is not closed
  pub replies_of : brought (is_reply_entry n) h s c o ≤ waiting h n s
  pub replies : waiting h n o.state + brought (is_reply_entry n) h s c o ≤ waiting h n s + brought (is_ok_result n) h s c o
  pub wanted_replies : gives_to n o.answer ≡ false → waiting h n o.state + sending_as wanting h n o.state + brought (is_reply_entry n) h s c o ≤ waiting h n s + sending_as wanting h n s
  pub all_replies : done_by (is_close h c) o.answer ≡ false → waiting h n s + brought (is_ok_result n) h s c o ≤ waiting h n o.state + brought (is_reply_entry n) h s c o + sending_as unwanting h n s
  -- its time left falls by the time that passes, from the timeout on
  pub time : (b : ℕ) → waiting_as (later (b - milliseconds c)) h n o.state ≤ waiting_as (later b) h n s + sending_as (longer b) h n s
  -- the number is given only where nothing carries it
  pub given : gives_to n o.answer ≡ true → (sending h n s ≡ 0) × (waiting h n s ≡ 0)
  -- a close of the handle leaves nothing, and nothing comes with it
  pub closing : done_by (is_close h c) o.answer ≡ true → (sending h n o.state ≡ 0) × (waiting h n o.state ≡ 0) × (brought (is_result n) h s c o ≡ 0) × (brought (is_reply_entry n) h s c o ≡ 0)

module _ (h n : ℕ) (s : State) (r : Inv s) where
  -- the next number is new
  pub next_given : next_sequence s ≡ n → (sending h n s ≡ 0) × (waiting h n s ≡ 0)
  next_given p = rw (← p) (unused h (next_sequence s) s (next_unused s r))

  -- nothing is sent, begun or ended
  pub still_flow : (c : Call) (o : Outcome) → Silent s c o → pending o.state ≡ pending s → o.state.waits ≡ s.waits → milliseconds c ≡ 0
      → done_by (is_bus_result c) o.answer ≡ false → done_by (is_close h c) o.answer ≡ false → (gives_to n o.answer ≡ true → next_sequence s ≡ n) → Flow h n s c o
  unfolding sending_as waiting_as placed
  still_flow c o z p w t e k g =
      let zr = silent_brought (is_result n) h s c o z in
      let zp = silent_brought (is_reply_entry n) h s c o z in
      let zo = silent_brought (is_ok_result n) h s c o z in
      let same : (f : Transmission → ℕ) → sum f (pending o.state) ≡ sum f (pending s) = λ f. ap (sum f) p in
      let wait : (f : Wait → ℕ) → sum f o.state.waits ≡ sum f s.waits = λ f. ap (sum f) w in
      record {
        results_of = omega arith;
        results = λ _. omega (arith, same (sent_as always h n));
        all_results = λ _ _. omega (arith, same (sent_as always h n));
        nearer = λ _ _. rw (e, p) (omega arith);
        alike = λ q _. omega (arith, same (sent_as q h n));
        replies_of = omega arith;
        replies = omega (arith, wait (awaited_as always h n));
        wanted_replies = λ _. omega (arith, wait (awaited_as always h n), same (sent_as wanting h n));
        all_replies = λ _. omega (arith, wait (awaited_as always h n));
        time = λ b. let y : b - milliseconds c ≡ b = omega arith in rw y (omega (arith, wait (awaited_as (later b) h n)));
        given = λ q. next_given (g q);
        closing = λ q. clash q k;
      }
