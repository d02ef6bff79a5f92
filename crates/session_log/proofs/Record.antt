-- A record as the first bytes of a longer list, as the code holds it: the call is read from the bytes of the record alone.
-- Assumes nothing.
use Prim.Native.Nat.{ℕ, zero, suc, ◌+◌, ◌-◌, ◌≤◌, ◌<◌}
use mathlib.Core.Bool.{true, cond}
use mathlib.Core.List.{List}
use mathlib.Core.Path.{◌≡◌, refl, ap, ◌∙◌}
use native.Mathlib.Omega.{arith}
use lib.Dec.{eqb}
use lib.ListN.{take, drop}
use lib.Seq.{get_or-take, take-take}
use borrow.Author.Tests.{eqb-true}
use Rattle.lists.specs.Elements.{drop-take}
use Rattle.lists.specs.Tests.{split}
use Rattle.session_log.specs.Record.{body_length, byte_at, number_at, kind_of, call_of, open_of, mode_of, transmit_of, result_of, incoming_of, configure_of}
use Rattle.rules.specs.Call.{Call, call_close, call_receive, call_bus_start, call_time, call_unconfigure}

byte_held : (r : List ℕ) (n at : ℕ) → at < n → byte_at (take n r) at ≡ byte_at r at
byte_held r n at h = get_or-take n r at 0 h

number_held : (r : List ℕ) (n at k : ℕ) → at + k ≤ n → number_at (take n r) at k ≡ number_at r at k
number_held r n at zero h = refl
number_held r n at (suc k) h = rw (byte_held r n at (omega arith), number_held r n (at + 1) k (omega arith))

bytes_held : (r : List ℕ) (n from k : ℕ) → from + k ≤ n → take k (drop from (take n r)) ≡ take k (drop from r)
bytes_held r n from k h =
    let e : n ≡ from + (n - from) = omega arith in
    ap (λ (m : ℕ). take k (drop from (take m r))) e ∙ ap (take k) (drop-take from (n - from) r) ∙ take-take k (n - from) (drop from r) (omega arith)

-- `call_of` with the kind given apart
abbrev pub call_by : ℕ → List ℕ → Call
call_by kind r =
    cond (eqb kind 1) (open_of r)
    (cond (eqb kind 2) (call_close (byte_at r 1))
    (cond (eqb kind 3) (mode_of r)
    (cond (eqb kind 4) (transmit_of r)
    (cond (eqb kind 5) (call_receive (byte_at r 1))
    (cond (eqb kind 6) call_bus_start
    (cond (eqb kind 7) (result_of r)
    (cond (eqb kind 8) (call_time (number_at r 1 4))
    (cond (eqb kind 9) (incoming_of r)
    (cond (eqb kind 10) (configure_of r) call_unconfigure)))))))))

length_of_lem : (kind k : ℕ) → eqb kind k ≡ true → body_length kind ≡ body_length k
length_of_lem kind k e = ap body_length (eqb-true kind k e)

by_kind : (kind : ℕ) (r : List ℕ) (n : ℕ) → 1 + body_length kind ≤ n → call_by kind (take n r) ≡ call_by kind r
unfolding body_length
by_kind kind r n h =
    split (eqb kind 1) (λ e. rw (e, byte_held r n 1 (omega (arith, length_of_lem kind 1 e))))
    (λ e. rw e (split (eqb kind 2) (λ e. rw (e, byte_held r n 1 (omega (arith, length_of_lem kind 2 e))))
    (λ e. rw e (split (eqb kind 3) (λ e. let m : 6 ≤ n = omega (arith, length_of_lem kind 3 e) in rw (e, byte_held r n 1 (omega arith), number_held r n 2 4 (omega arith)))
    (λ e. rw e (split (eqb kind 4) (λ e. let m : 28 ≤ n = omega (arith, length_of_lem kind 4 e) in
    let a = byte_held r n 1 (omega arith) in
    rw (e, a, byte_held r n 2 (omega arith), bytes_held r n 3 16 (omega arith), byte_held r n 19 (omega arith), number_held r n 20 4 (omega arith), number_held r n 24 4 (omega arith)))
    (λ e. rw e (split (eqb kind 5) (λ e. rw (e, byte_held r n 1 (omega (arith, length_of_lem kind 5 e))))
    (λ e. rw e (split (eqb kind 6) (λ e. rw e)
    (λ e. rw e (split (eqb kind 7) (λ e. let m : 14 ≤ n = omega (arith, length_of_lem kind 7 e) in
    rw (e, byte_held r n 1 (omega arith), byte_held r n 2 (omega arith), byte_held r n 3 (omega arith), byte_held r n 4 (omega arith), byte_held r n 5 (omega arith), number_held r n 6 8 (omega arith)))
    (λ e. rw e (split (eqb kind 8) (λ e. rw (e, number_held r n 1 4 (omega (arith, length_of_lem kind 8 e))))
    (λ e. rw e (split (eqb kind 9) (λ e. let m : 26 ≤ n = omega (arith, length_of_lem kind 9 e) in rw (e, byte_held r n 1 (omega arith), bytes_held r n 2 16 (omega arith), number_held r n 18 8 (omega arith)))
    (λ e. rw e (split (eqb kind 10) (λ e. let m : 28 ≤ n = omega (arith, length_of_lem kind 10 e) in
    let a = number_held r n 1 2 (omega arith) in
    let b = number_held r n 3 2 (omega arith) in
    let c = bytes_held r n 11 14 (omega arith) in
    rw (e, a, b, byte_held r n 5 (omega arith), byte_held r n 6 (omega arith), number_held r n 7 3 (omega arith), byte_held r n 10 (omega arith), c)
    (rw (byte_held r n 25 (omega arith), byte_held r n 26 (omega arith), byte_held r n 27 (omega arith))))
    (λ e. rw e)))))))))))))))))))

pub kind_held : (r : List ℕ) (n : ℕ) → 0 < n → kind_of (take n r) ≡ kind_of r
kind_held r n h = byte_held r n 0 h

pub call_held : (r : List ℕ) (n : ℕ) → 1 + body_length (kind_of r) ≤ n → call_of (take n r) ≡ call_of r
unfolding call_of
call_held r n h = ap (λ (kind : ℕ). call_by kind (take n r)) (kind_held r n (omega arith)) ∙ by_kind (kind_of r) r n h
