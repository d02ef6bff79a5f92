-- The language's own count of set bits is the count of the places one after the other, whatever the width.
-- Assumes nothing.
use Prim.Native.Nat.{ℕ, zero, suc, ◌+◌, ◌%◌, ◌/◌, ◌^◌, ◌<◌}
use mathlib.Core.Bool.{◌&&◌}
use mathlib.Core.Path.{◌≡◌, ap, ◌∙◌}
use native.Mathlib.Nat.{div-eq_of_lt, div-one}
use native.Mathlib.Numerals.{add-one}
use native.Mathlib.Omega.{arith}
use lib.Count.{ones, ones_step}
use lib.Dec.{eqb, leb, ltb}
use lib.Pow.{shr-shr}
use borrow.Author.Tests.{eqb-true, eqb-false, ltb-true}
use Rattle.configure.specs.Mask.{set_bits}
use Rattle.lists.specs.Sums.{count}
use Rattle.lists.specs.Tests.{bit, split}
use Rattle.rules.specs.Configure.{logical_addresses, is_mask}
use Rattle.rules.specs.Handles.{has_bit}

-- the last bit of a number
last_bit : (n : ℕ) → n % 2 ≡ bit (eqb (n % 2) 1)
last_bit n =
    split (eqb (n % 2) 1)
    (λ e. rw e (eqb-true (n % 2) 1 e))
    (λ e. rw e (omega (arith, eqb-false (n % 2) 1 e)))

-- the bits below a width, and those above
ones_apart : (width n : ℕ) → ones n ≡ set_bits width n + ones (n / 2 ^ width)
ones_apart zero n = omega (arith, ap ones (div-one n))
ones_apart (suc width) n =
    let above = n / 2 ^ width in
    let halved : above / 2 ≡ n / 2 ^ suc width = shr-shr n width 1 ∙ ap (λ (k : ℕ). n / 2 ^ k) (add-one width) in
    omega (arith, ones_apart width n, ones_step above, last_bit above, ap ones halved)

-- a number of this width has none above
pub ones_all : (width n : ℕ) → n < 2 ^ width → ones n ≡ set_bits width n
unfolding ones
ones_all width n h = ones_apart width n ∙ ap (λ (above : ℕ). set_bits width n + ones above) (div-eq_of_lt h) ∙ omega arith

-- "mask of 1 to 4 bits among 0 to 14" by the count of all 16: below 2 ^ 15 both counts agree
pub mask_counted : (mask : ℕ) → (ltb mask (2 ^ 15) && leb 1 (set_bits 16 mask) && leb (set_bits 16 mask) 4) ≡ is_mask mask
mask_counted mask =
    split (ltb mask (2 ^ 15))
    (λ e.
    let h = ltb-true mask (2 ^ 15) e in
    let same : set_bits 16 mask ≡ count (λ a. has_bit (2 ^ a) mask) logical_addresses = omega (arith, ones_all 16 mask (omega arith), ones_all 15 mask h) in
    rw (e, same))
    (λ e. rw e)
