-- A lookup that is not refused takes 0 to 14.
-- Assumes nothing.
use Prim.Native.Nat.{ℕ, ◌<◌}
use mathlib.Core.Path.{◌≡◌}
use native.Mathlib.Omega.{arith}
use borrow.Author.Tests.{ltb-false}
use Rattle.constants.specs.Kernel.{EINVAL}
use Rattle.rules.proofs.Checks.{passed}
use Rattle.rules.specs.Lookup.{lookup_refusal}

pub taken : (a : ℕ) → lookup_refusal a ≡ 0 → a < 15
taken a q = omega (arith, ltb-false 14 a (passed _ EINVAL 0 (λ e. omega (arith, e)) q).0)
