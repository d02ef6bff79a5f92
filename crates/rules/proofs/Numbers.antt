-- The number that a transmit is given is from 1 to 4,294,967,295 and not live: the tries suffice.
-- Assumes nothing.
use Prim.Native.Nat.{ℕ, zero, suc, ◌+◌, ◌≤◌, ◌<◌}
use mathlib.Core.Bool.{Bool, true, false}
use mathlib.Core.List.{List}
use mathlib.Core.Logic.{◌≢◌, ◌⊎◌, inl, inr}
use mathlib.Core.Path.{◌≡◌}
use native.Mathlib.Omega.{arith}
use lib.Dec.{eqb}
use lib.ListN.{length}
use borrow.Author.Tests.{eqb-true, eqb-false}
use Rattle.lists.specs.Pigeonhole.{upto, upto_add, upto_all, Distinct, hits}
use Rattle.lists.specs.Sums.{any, count, any_none, none_any}
use Rattle.lists.specs.Tests.{split, clash, neither}
use Rattle.rules.specs.Number.{greatest, candidate, first_free, sequence_after}
use Rattle.rules.specs.Owed.{is_taken}
use Rattle.transmission.specs.Transmission.{numbered}
use Rattle.transmission.specs.declared.Transmission.{Transmission}
use Rattle.wait.specs.Wait
use Rattle.wait.specs.declared.Wait.{Wait}

pub candidate_pos : (last k : ℕ) → candidate last k ≢ 0
candidate_pos last k = omega arith

pub candidate_le : (last k : ℕ) → candidate last k ≤ greatest
candidate_le last k = omega arith

pub candidate_distinct : (last k : ℕ) → k ≤ greatest → Distinct (candidate last) k
candidate_distinct last k h i j a b = omega arith

-- how many have the number
unfoldable pub carried_by : List Transmission → List Wait → ℕ → ℕ
carried_by ts ws n = count (numbered n) ts + count (Wait.numbered n) ws

module _ (ts : List Transmission) (ws : List Wait) where
  pub taken_carried : (n : ℕ) → is_taken ts ws n ≡ true → carried_by ts ws n ≢ 0
  unfolding is_taken carried_by
  taken_carried n e z =
      let a = none_any (numbered n) ts (omega arith) in
      let b = none_any (Wait.numbered n) ws (omega arith) in
      clash e (rw (a, b))

  pub free_carried : (n : ℕ) → is_taken ts ws n ≡ false → carried_by ts ws n ≡ 0
  unfolding is_taken carried_by
  free_carried n e =
      let m = neither (any (numbered n) ts) (any (Wait.numbered n) ws) e in
      omega (arith, any_none (numbered n) ts m.0, any_none (Wait.numbered n) ws m.1)

  -- k candidates are carried by at most as many as there are
  carried_most : (last k : ℕ) → k ≤ greatest → upto (λ i. carried_by ts ws (candidate last i)) k ≤ length ts + length ws
  unfolding carried_by
  carried_most last k h =
      let d = candidate_distinct last k h in
      omega (
        arith,
        hits (λ (t : Transmission). t.sequence) (candidate last) k ts d,
        hits (λ (w : Wait). w.sequence) (candidate last) k ws d,
        upto_add (λ i. count (numbered (candidate last i)) ts) (λ i. count (Wait.numbered (candidate last i)) ws) k,
      )

-- the search finds one that is free, or all that it tried are live
module _ (live : ℕ → Bool) (last : ℕ) where
  found : (more k : ℕ) → (live (first_free live last more k) ≡ false) ⊎ ((i : ℕ) → k ≤ i → i < k + suc more → live (candidate last i) ≡ true)
  found zero k =
      split (live (candidate last k))
      (λ e. inr (λ i a b. let q : i ≡ k = omega arith in rw q e))
      (λ e. inl e)
  found (suc more) k =
      let later = found more (suc k) in
      split (live (candidate last k)) (λ e. rw e (go later e)) (λ e. rw e (inl e))
    where
      go : (live (first_free live last more (suc k)) ≡ false) ⊎ ((i : ℕ) → suc k ≤ i → i < suc k + suc more → live (candidate last i) ≡ true)
          → live (candidate last k) ≡ true
          → (live (first_free live last more (suc k)) ≡ false) ⊎ ((i : ℕ) → k ≤ i → i < k + suc (suc more) → live (candidate last i) ≡ true)
      go (inl f) e = inl f
      go (inr f) e = inr (λ i a b. split (eqb i k)
          (λ q. rw (eqb-true i k q) e)
          (λ q. f i (omega (arith, eqb-false i k q)) (omega arith)))

  first_pos : (more k : ℕ) → first_free live last more k ≢ 0
  first_pos zero k = candidate_pos last k
  first_pos (suc more) k =
      let later = first_pos more (suc k) in
      split (live (candidate last k)) (λ e. rw e later) (λ e. rw e (candidate_pos last k))

  first_le : (more k : ℕ) → first_free live last more k ≤ greatest
  first_le zero k = candidate_le last k
  first_le (suc more) k =
      let later = first_le more (suc k) in
      split (live (candidate last k)) (λ e. rw e later) (λ e. rw e (candidate_le last k))

module _ (ts : List Transmission) (ws : List Wait) (last : ℕ) where
  -- the number given is not live
  pub next_free : length ts + length ws < greatest → is_taken ts ws (sequence_after ts ws last) ≡ false
  unfolding sequence_after
  next_free h = go (found (is_taken ts ws) last (length ts + length ws) 0)
    where
      n : ℕ
      n = suc (length ts + length ws)

      go : (is_taken ts ws (first_free (is_taken ts ws) last (length ts + length ws) 0) ≡ false) ⊎ ((i : ℕ) → 0 ≤ i → i < 0 + suc (length ts + length ws) → is_taken ts ws (candidate last i) ≡ true)
          → is_taken ts ws (first_free (is_taken ts ws) last (length ts + length ws) 0) ≡ false
      go (inl f) = f
      go (inr f) =
          let y = carried_most ts ws last n (omega arith) in
          let z = upto_all (λ i. carried_by ts ws (candidate last i)) n (λ i l. taken_carried ts ws (candidate last i) (f i (omega arith) (omega arith))) in
          absurd (omega arith)

  -- it is not 0
  pub next_pos : sequence_after ts ws last ≢ 0
  unfolding sequence_after
  next_pos = first_pos (is_taken ts ws) last (length ts + length ws) 0

  -- and fits 32 bits
  pub next_le : sequence_after ts ws last ≤ greatest
  unfolding sequence_after
  next_le = first_le (is_taken ts ws) last (length ts + length ws) 0
