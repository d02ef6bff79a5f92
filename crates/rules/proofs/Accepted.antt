-- What an accepted transmit had and did (document 01, "Transmit: checks in this order").
-- Assumes nothing.
use Prim.Native.Nat.{ℕ, ◌+◌, ◌≤◌, ◌<◌}
use mathlib.Core.Bool.{true, false, cond, ◌&&◌, ◌||◌, not}
use mathlib.Core.List.{[], ◌∷◌, ◌++◌}
use mathlib.Core.Path.{◌≡◌}
use native.Mathlib.Omega.{arith}
use lib.Dec.{leb, ltb}
use lib.ListN.{length}
use borrow.Author.Tests.{leb-false, ltb-false, not-false, lt-ltb}
use Rattle.constants.specs.Kernel.{EBADF, ENOTTY, EPERM, EBUSY, EINVAL, ENONET}
use Rattle.lists.specs.Tests.{split, neither}
use Rattle.rules.proofs.Checks.{passed, unless_answer}
use Rattle.rules.proofs.Refused.{differ}
use Rattle.rules.specs.Call.{Request, accepted}
use Rattle.rules.specs.Derived.{room_taken}
use Rattle.rules.specs.Handles.{is_open}
use Rattle.rules.specs.Number.{next_sequence}
use Rattle.rules.specs.Owed.{wanted_replies}
use Rattle.rules.specs.State.{State, with_queue, with_last}
use Rattle.rules.specs.Transmit.{do_transmit, transmit_refusal, transmission_of, wants_reply, is_self_poll, is_full, polled, queued, new_room}

-- a transmit of handle h that was queued under number n, from s to t
pub record Queued (s : State) (h : ℕ) (r : Request) (n : ℕ) (t : State) : Type 0 where
  pub opens : is_open s h ≡ true
  pub able : s.capabilities.transmit ≡ true
  pub place : length s.queue < 18
  pub replies : wants_reply r ≡ true → wanted_replies s h < 4
  pub room : room_taken s h + new_room r ≤ 16
  pub sequence : n ≡ next_sequence s
  pub did : t ≡ with_last (with_queue s (s.queue ++ (transmission_of n h r ∷ []))) n

-- the two last checks passed
pub record Roomy (s : State) (h : ℕ) (r : Request) : Type 0 where
  pub place : length s.queue < 18
  pub replies : wants_reply r ≡ true → wanted_replies s h < 4
  pub room : room_taken s h + new_room r ≤ 16

not_full : (s : State) (h : ℕ) (r : Request) → is_full s h r ≡ false → Roomy s h r
not_full s h r e =
    let a = neither (leb 18 (length s.queue) || wants_reply r && leb 4 (wanted_replies s h)) (ltb 16 (room_taken s h + new_room r)) e in
    let b = neither (leb 18 (length s.queue)) (wants_reply r && leb 4 (wanted_replies s h)) a.0 in
    record {
      place = leb-false 18 (length s.queue) b.0;
      replies = λ w. leb-false 4 (wanted_replies s h) (rw w at b.1);
      room = ltb-false 16 (room_taken s h + new_room r) a.1;
    }

-- all ten passed
pub record Passed (s : State) (h : ℕ) (r : Request) : Type 0 where
  pub opens : is_open s h ≡ true
  pub able : s.capabilities.transmit ≡ true
  pub fits : is_self_poll s r ≡ false → Roomy s h r

pub all_passed : (s : State) (h : ℕ) (r : Request) → transmit_refusal s h r ≡ 0 → Passed s h r
all_passed s h r q =
    let c1 = passed (not (is_open s h)) EBADF _ (omega arith) q in
    let c2 = passed (not s.capabilities.transmit) ENOTTY _ (omega arith) c1.1 in
    let c3 = passed _ EPERM _ (omega arith) c2.1 in
    let c4 = passed _ EBUSY _ (omega arith) c3.1 in
    let c5 = passed _ EINVAL _ (omega arith) c4.1 in
    let c6 = passed _ EINVAL _ (omega arith) c5.1 in
    let c7 = passed _ ENONET _ (omega arith) c6.1 in
    let c8 = passed _ EINVAL _ (omega arith) c7.1 in
    let c9 = passed _ EINVAL _ (omega arith) c8.1 in
    let c10 = passed (not (is_self_poll s r) && is_full s h r) EBUSY _ (omega arith) c9.1 in
    record {
      opens = not-false (is_open s h) c1.0;
      able = not-false s.capabilities.transmit c2.0;
      fits = λ p. not_full s h r (rw p at c10.0);
    }

pub transmit_queued : (s : State) (h : ℕ) (r : Request) (n : ℕ) → (do_transmit s h r).answer ≡ accepted n 0 → Queued s h r n (do_transmit s h r).state
unfolding do_transmit
transmit_queued s h r n q =
    let d = unless_answer s (cond (is_self_poll s r) (polled s) (queued s h r)) (transmit_refusal s h r) (accepted n 0) (λ e z. differ cc) q in
    let p = all_passed s h r d.0 in
    split (is_self_poll s r)
    (λ e. let z : accepted (next_sequence s) 0x04 ≡ accepted n 0 = rw e at d.2 in let y : ◌≡◌ {A = ℕ} 0x04 0 = cc in absurd (omega arith))
    (λ e.
    let z : accepted (next_sequence s) 0 ≡ accepted n 0 = rw e at d.2 in
    let m : n ≡ next_sequence s = cc in
    let f = p.fits e in
    record {
      opens = p.opens;
      able = p.able;
      place = f.place;
      replies = f.replies;
      room = f.room;
      sequence = m;
      did = rw (d.1, e, m, lt-ltb (length s.queue) 18 f.place);
    })
