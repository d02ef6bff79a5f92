-- The digits of an address and of its parent, and its depth.
-- Assumes nothing.
use Prim.Native.Nat.{ℕ, zero, suc, ◌+◌, ◌-◌, ◌*◌, ◌≤◌, ◌<◌}
use mathlib.Core.Path.{◌≡◌}
use native.Mathlib.Omega.{arith}
use Rattle.route.specs.Address.{depth, parent, weight_at, digit_at}
use Rattle.route.proofs.Tree.{ByDepth, by_depth, depth_le}

-- a proof by the digit and by the depth
by_digit : (P : ℕ → ℕ → ℕ → Type 0) (a : ℕ) → ByDepth a (P 0) → ByDepth a (P 1) → ByDepth a (P 2) → ByDepth a (P 3) → (i : ℕ) → i < 4 → P i (depth a) (parent a)
by_digit P a k0 k1 k2 k3 zero l = by_depth (P 0) a k0
by_digit P a k0 k1 k2 k3 (suc zero) l = by_depth (P 1) a k1
by_digit P a k0 k1 k2 k3 (suc (suc zero)) l = by_depth (P 2) a k2
by_digit P a k0 k1 k2 k3 (suc (suc (suc zero))) l = by_depth (P 3) a k3
by_digit P a k0 k1 k2 k3 (suc (suc (suc (suc i)))) l = absurd (omega arith)

-- a parent keeps the digits before the one that it clears
pub parent_keeps : (i a : ℕ) → suc i < depth a → digit_at i (parent a) ≡ digit_at i a
unfolding weight_at
parent_keeps i a l = by_digit (λ i d p. suc i < d → digit_at i p ≡ digit_at i a) a (omega arith) (omega arith) (omega arith) (omega arith) i (omega (arith, depth_le a)) l

-- an address is as deep as each non-zero digit
pub digit_depth : (i a : ℕ) → i < 4 → 1 ≤ digit_at i a → i < depth a
unfolding weight_at
digit_depth i a = by_digit (λ i d _. 1 ≤ digit_at i a → i < d) a (omega arith) (omega arith) (omega arith) (omega arith) i

-- an address is its parent with its last non-zero digit
pub record IsChild (a d p : ℕ) : Type 0 where
  pub least : 1 ≤ digit_at (d - 1) a
  pub made : p + digit_at (d - 1) a * weight_at (d - 1) ≡ a

pub is_child : (a : ℕ) → a < 65536 → 0 < depth a → IsChild a (depth a) (parent a)
unfolding weight_at
is_child a l = by_depth (λ d p. 0 < d → IsChild a d p) a (omega arith)
