-- The transmissions and the waits of a handle under a number, counted.
-- Assumes nothing.
use Prim.Native.Nat.{ℕ, ◌≤◌, ◌<◌}
use mathlib.Core.Bool.{Bool, true, false, cond, ◌&&◌}
use mathlib.Core.Path.{◌≡◌}
use native.Mathlib.Omega.{arith}
use lib.Dec.{eqb}
use Rattle.lists.specs.Last.{last}
use Rattle.lists.specs.Sums.{sum, sum-le}
use Rattle.lists.specs.Tests.{bit, split}
use Rattle.rules.proofs.Aside.{Owned, no_owner_lem}
use Rattle.rules.proofs.Numbers.{carried_by}
use Rattle.rules.specs.Owed.{pending}
use Rattle.rules.specs.State.{State}
use Rattle.transmission.specs.Transmission.{numbered}
use Rattle.transmission.specs.declared.Transmission.{Transmission}
use Rattle.wait.specs.Wait
use Rattle.wait.specs.declared.Wait.{Wait}

-- of handle h under number n
abbrev pub is_from : ℕ → ℕ → Transmission → Bool
is_from h n t = eqb t.owner h && eqb t.sequence n

abbrev pub is_of : ℕ → ℕ → Wait → Bool
is_of h n w = eqb w.owner h && eqb w.sequence n

-- and passing a test
abbrev pub sent_as : (Transmission → Bool) → ℕ → ℕ → Transmission → ℕ
sent_as q h n t = cond (is_from h n t) (bit (q t)) 0

abbrev pub awaited_as : (Wait → Bool) → ℕ → ℕ → Wait → ℕ
awaited_as q h n w = cond (is_of h n w) (bit (q w)) 0

-- how many are queued or on the wire, and how many wait
unfoldable pub sending_as : (Transmission → Bool) → ℕ → ℕ → State → ℕ
sending_as q h n s = sum (sent_as q h n) (pending s)

unfoldable pub waiting_as : (Wait → Bool) → ℕ → ℕ → State → ℕ
waiting_as q h n s = sum (awaited_as q h n) s.waits

-- no further test
abbrev pub always : {A : Type 0} → A → Bool
always x = true

abbrev pub sending : ℕ → ℕ → State → ℕ
sending h n s = sending_as always h n s

abbrev pub waiting : ℕ → ℕ → State → ℕ
waiting h n s = waiting_as always h n s

-- where the last of them stands among those to be sent, from 1
unfoldable pub placed : ℕ → ℕ → State → ℕ
placed h n s = last (sent_as always h n) (pending s)

-- none of them is without owner
pub sent_owned : (q : Transmission → Bool) (h n : ℕ) → h < 8 → Owned (sent_as q h n)
sent_owned q h n l m = rw (no_owner_lem h l)

-- each counts once
pub sent_once : (h n : ℕ) (t : Transmission) → sent_as always h n t ≤ 1
sent_once h n t = split (is_from h n t) (λ e. rw e (omega arith)) (λ e. rw e (omega arith))

-- a number that nothing carries is not theirs
and_less : (a b : Bool) → cond (a && b) 1 0 ≤ bit b
and_less true true = omega arith
and_less true false = omega arith
and_less false true = omega arith
and_less false false = omega arith

pub unused : (h n : ℕ) (s : State) → carried_by (pending s) s.waits n ≡ 0 → (sending h n s ≡ 0) × (waiting h n s ≡ 0)
unfolding carried_by sending_as waiting_as
unused h n s z =
    let a = sum-le (sent_as always h n) (λ t. bit (numbered n t)) (pending s) (λ t. and_less (eqb t.owner h) (eqb t.sequence n)) in
    let b = sum-le (awaited_as always h n) (λ w. bit (Wait.numbered n w)) s.waits (λ w. and_less (eqb w.owner h) (eqb w.sequence n)) in
    omega arith

-- those that pass a test are not more
test_less : (a b : Bool) → cond a (bit b) 0 ≤ cond a 1 0
test_less true true = omega arith
test_less true false = omega arith
test_less false b = omega arith

pub sending_less : (q : Transmission → Bool) (h n : ℕ) (s : State) → sending_as q h n s ≤ sending h n s
unfolding sending_as
sending_less q h n s = sum-le (sent_as q h n) (sent_as always h n) (pending s) (λ t. test_less (is_from h n t) (q t))

pub waiting_less : (q : Wait → Bool) (h n : ℕ) (s : State) → waiting_as q h n s ≤ waiting h n s
unfolding waiting_as
waiting_less q h n s = sum-le (awaited_as q h n) (awaited_as always h n) s.waits (λ w. test_less (is_of h n w) (q w))
