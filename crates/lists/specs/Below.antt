-- A test computed for all numbers below a bound, and what it says of each.
-- Assumes nothing.
use Rattle.std.specs.Prelude.{ℕ, zero, suc, ◌<◌, Bool, true, false, ◌&&◌, ◌≡◌, refl, eqb}
use Rattle.std.proofs.Common.{arith, eqb-true}
use Rattle.std.proofs.lemmas.Bool.{eqb-false}
use Rattle.lists.specs.Tests.{split, both, clash}

abbrev pub all_below : (ℕ → Bool) → ℕ → Bool
all_below p zero = true
all_below p (suc k) = p k && all_below p k

pub below : (p : ℕ → Bool) (k : ℕ) → all_below p k ≡ true → (n : ℕ) → n < k → p n ≡ true
below p zero e n h = absurd (omega arith)
below p (suc k) e n h =
    let b = both (p k) (all_below p k) e in
    split (eqb n k)
    (λ q. rw (eqb-true n k q) b.0)
    (λ q. below p k b.1 n (omega (arith, eqb-false n k q)))

-- two tests have the same answer
abbrev pub agree : Bool → Bool → Bool
agree true b = b
agree false true = false
agree false false = true

pub agreed : (a b : Bool) → agree a b ≡ true → a ≡ b
agreed true true e = refl
agreed true false e = clash e refl
agreed false true e = clash e refl
agreed false false e = refl
