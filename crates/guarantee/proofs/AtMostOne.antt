-- At most one element of a list passes a test: laws of `set` and `without`.
-- Assumes nothing.
use Prim.Native.Nat.{ℕ, zero, suc, ◌+◌, ◌≤◌, ◌<◌}
use mathlib.Core.Bool.{Bool, true, false}
use mathlib.Core.List.{List, [], ◌∷◌}
use mathlib.Core.Path.{◌≡◌, ap}
use native.Mathlib.Omega.{arith}
use lib.ListN.{length, get_or, set}
use Rattle.lists.specs.Places.{without, sum_without}
use Rattle.lists.specs.Sums.{sum, count, any, any_none, none_any}
use Rattle.lists.specs.Tests.{bit, split}

module _ {A : Type 0} where
  -- with an element set, and without one
  sum_set : (f : A → ℕ) (l : List A) (i : ℕ) (v : A) → sum f (set l i v) ≤ f v + sum f (without i l)
  sum_set f [] i v = omega arith
  sum_set f (x ∷ l) zero v = omega arith
  sum_set f (x ∷ l) (suc i) v = omega (arith, sum_set f l i v)

  sum_fewer : (f : A → ℕ) (l : List A) (i : ℕ) → sum f (without i l) ≤ sum f l
  sum_fewer f [] i = omega arith
  sum_fewer f (x ∷ l) zero = omega arith
  sum_fewer f (x ∷ l) (suc i) = omega (arith, sum_fewer f l i)

  -- an element set that passes only where no other does
  pub one_set : (p : A → Bool) (l : List A) (i : ℕ) (v : A) → (p v ≡ true → any p (without i l) ≡ false) → count p l ≤ 1 → count p (set l i v) ≤ 1
  one_set p l i v a k =
      let f : A → ℕ = λ x. bit (p x) in
      split (p v)
      (λ e. omega (arith, sum_set f l i v, ap bit e, any_none p (without i l) (a e)))
      (λ e. omega (arith, sum_set f l i v, ap bit e, sum_fewer f l i))

  -- where one passes, no other does
  pub no_other : (p : A → Bool) (l : List A) (i : ℕ) (d : A) → i < length l → count p l ≤ 1 → p (get_or l i d) ≡ true → any p (without i l) ≡ false
  no_other p l i d h k e = none_any p (without i l) (omega (arith, sum_without (λ x. bit (p x)) i l d h, ap bit e))
