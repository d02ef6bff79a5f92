-- The state that a transmit leads to which is accepted and queued: it alone carries its number, as it was asked for.
-- Assumes nothing.
use Prim.Native.Nat.{ℕ, ◌<◌}
use mathlib.Core.Bool.{Bool, true, false}
use mathlib.Core.List.{List, [], ◌∷◌, ◌++◌}
use mathlib.Core.Logic.{◌≢◌}
use mathlib.Core.Path.{◌≡◌, refl, ap, ◌∙◌, sym}
use native.Mathlib.Omega.{arith}
use borrow.Author.Tests.{ne_eqb, le-ltb}
use Rattle.guarantee.proofs.Carried.{sent_as, always, sending_as, waiting_as, sending, waiting, unused, sending_less}
use Rattle.guarantee.proofs.Cases.{enqueued}
use Rattle.guarantee.proofs.Flow.{wanting, unwanting, other_sent, longer}
use Rattle.guarantee.proofs.Invariant.{Inv, open_below, next_unused, next_some}
use Rattle.guarantee.proofs.Keeps.{keeps}
use Rattle.guarantee.proofs.Parts.{parted}
use Rattle.guarantee.proofs.QueuedKept.{sum_queued}
use Rattle.guarantee.proofs.Reached.{reached}
use Rattle.lists.specs.Tests.{bit, eqb_refl}
use Rattle.rules.proofs.Accepted.{transmit_queued}
use Rattle.rules.specs.Call.{Call, Request, accepted, call_transmit}
use Rattle.rules.specs.Handles.{is_open}
use Rattle.rules.specs.Number.{next_sequence}
use Rattle.rules.specs.State.{State, Capabilities, fresh, with_queue, with_last}
use Rattle.rules.specs.Step.{after, Step, step, run}
use Rattle.rules.specs.Transmit.{transmission_of, wants_reply, timeout_of}
use Rattle.transmission.specs.declared.Transmission.{Transmission}

pub record Began (h : ℕ) (x : Request) (n : ℕ) (s : State) : Type 0 where
  pub home : h < 8
  pub some : n ≢ 0
  pub one : sending h n s ≡ 1
  pub others : (g : ℕ) → g ≢ h → sending g n s ≡ 0
  pub quiet : (g : ℕ) → waiting g n s ≡ 0
  pub unasked : wants_reply x ≡ false → sending_as wanting h n s ≡ 0
  pub asked : wants_reply x ≡ true → sending_as unwanting h n s ≡ 0
  pub wanted : sending_as (other_sent x.reply) h n s ≡ 0
  pub timeout : sending_as (longer (timeout_of x)) h n s ≡ 0

module _ (s : State) (r : Inv s) (h : ℕ) (x : Request) where
  -- of handle g under its number there is what passes the test of the new one
  new_sending : (q : Transmission → Bool) (g : ℕ) → sending_as q g (next_sequence s) (enqueued s h x) ≡ sent_as q g (next_sequence s) (transmission_of (next_sequence s) h x)
  unfolding sending_as
  new_sending q g =
      omega (arith, sum_queued (sent_as q g (next_sequence s)) s h x, sending_less q g (next_sequence s) s, (unused g (next_sequence s) s (next_unused s r)).0)

  -- of its own handle there is one, if it passes the test
  own_new : (q : Transmission → Bool) (b : Bool) → q (transmission_of (next_sequence s) h x) ≡ b → sending_as q h (next_sequence s) (enqueued s h x) ≡ bit b
  own_new q b e = new_sending q h ∙ rw (eqb_refl h, eqb_refl (next_sequence s), e)

  -- nothing waits under its number
  new_waiting : (g : ℕ) → waiting g (next_sequence s) (enqueued s h x) ≡ 0
  unfolding waiting_as
  new_waiting g = (unused g (next_sequence s) s (next_unused s r)).1

  -- so it begins
  queued_began : is_open s h ≡ true → Began h x (next_sequence s) (enqueued s h x)
  queued_began o = record {
    home = open_below s h r o;
    some = next_some s;
    one = own_new always true refl;
    others = λ g e. new_sending always g ∙ rw (ne_eqb h g (λ (p : h ≡ g). e (sym p)));
    quiet = new_waiting;
    unasked = λ w. own_new wanting false w;
    asked = λ w. own_new unwanting false (rw w);
    wanted = own_new (other_sent x.reply) false (rw (eqb_refl x.reply));
    timeout = own_new (longer (timeout_of x)) false (le-ltb (timeout_of x) (timeout_of x) (omega arith));
  }

  -- every transmit that is answered with its number and tx_status 0
  pub began : (n : ℕ) → (step s (call_transmit h x)).answer ≡ accepted n 0 → Began h x n (step s (call_transmit h x)).state
  began n e =
      let q = transmit_queued s h x n e in
      let a : (step s (call_transmit h x)).state ≡ enqueued s h x = q.did ∙ ap (λ (k : ℕ). with_last (with_queue s (s.queue ++ (transmission_of k h x ∷ []))) k) q.sequence in
      rw (a, q.sequence) (queued_began q.opens)

-- what holds of all calls from there on holds, in every history from a fresh adapter, of the calls after a transmit that was accepted and queued
pub after_transmit : (P : ℕ → Request → ℕ → List Step → Type 0) → ((h : ℕ) (x : Request) (n : ℕ) (s : State) → Inv s → Began h x n s → (cs : List Call) → P h x n (run s cs))
    → (c : Capabilities) (calls : List Call) (past : List Step) (y : Step) (later : List Step) → run (fresh c) calls ≡ past ++ y ∷ later
    → (h : ℕ) (x : Request) (n : ℕ) → y.call ≡ call_transmit h x → y.answer ≡ accepted n 0 → P h x n later
after_transmit P f c calls past y later e h x n k a =
    let p = parted (fresh c) calls past y later e in
    let s = after (fresh c) p.before in
    let i = reached c p.before in
    let call : p.call ≡ call_transmit h x = ap (λ (z : Step). z.call) (sym p.here) ∙ k in
    let answer : (step s (call_transmit h x)).answer ≡ accepted n 0 = ap (λ (z : Call). (step s z).answer) (sym call) ∙ ap (λ (z : Step). z.answer) (sym p.here) ∙ a in
    let runs : later ≡ run (step s (call_transmit h x)).state p.later = p.runs ∙ ap (λ (z : Call). run (step s z).state p.later) call in
    rw runs (f h x n (step s (call_transmit h x)).state (keeps s (call_transmit h x) i) (began s i h x n answer) p.later)
