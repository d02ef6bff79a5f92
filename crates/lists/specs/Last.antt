-- The place of the last element that a weight counts: what is taken from the front of the list brings it nearer.
-- Assumes nothing.
use Rattle.std.specs.Prelude.{ℕ, suc, ◌-◌, ◌≤◌, cond, List, [], ◌∷◌, ◌++◌, map, ◌≡◌, refl, eqb, length}
use Rattle.std.proofs.Common.{arith, eqb-true}
use Rattle.lists.specs.Sums.{sum}
use Rattle.lists.specs.Tests.{split}

module _ {A : Type 0} where
  -- the place of the last, from 1; 0 where none is counted
  abbrev pub last : (A → ℕ) → List A → ℕ
  last f [] = 0
  last f (x ∷ xs) = cond (eqb (last f xs) 0) (f x) (suc (last f xs))

  -- elements that change and keep their weight
  pub last_map : (f : A → ℕ) (g : A → A) (xs : List A) → ((x : A) → f (g x) ≡ f x) → last f (map g xs) ≡ last f xs
  last_map f g [] e = refl
  last_map f g (x ∷ xs) e = simp (e x, last_map f g xs e)

  -- nothing is counted
  last_zero : (f : A → ℕ) (xs : List A) → sum f xs ≡ 0 → last f xs ≡ 0
  last_zero f [] e = refl
  last_zero f (x ∷ xs) e = rw (last_zero f xs (omega arith)) (omega arith)

  -- more that is not counted
  pub last_more : (f : A → ℕ) (xs ys : List A) → sum f ys ≡ 0 → last f (xs ++ ys) ≡ last f xs
  last_more f [] ys e = last_zero f ys e
  last_more f (x ∷ xs) ys e = simp (last_more f xs ys e)

  -- where the place is 0, nothing is counted
  pub last_none : (f : A → ℕ) (xs : List A) → last f xs ≡ 0 → sum f xs ≡ 0
  last_none f [] e = refl
  last_none f (x ∷ xs) e =
      split (eqb (last f xs) 0)
      (λ q. omega (arith, simp q at e, last_none f xs (eqb-true (last f xs) 0 q)))
      (λ q. absurd (omega (arith, simp q at e)))

  -- of a weight of 0 or 1: no farther back than the list is long, and one nearer without the head
  pub last_le : (f : A → ℕ) (xs : List A) → ((x : A) → f x ≤ 1) → last f xs ≤ length xs
  last_le f [] e = omega arith
  last_le f (x ∷ xs) e =
      split (eqb (last f xs) 0)
      (λ q. simp q (omega (arith, e x)))
      (λ q. simp q (omega (arith, last_le f xs e)))

  pub last_tail : (f : A → ℕ) (x : A) (xs : List A) → last f xs ≤ last f (x ∷ xs) - 1
  last_tail f x xs =
      split (eqb (last f xs) 0)
      (λ q. simp q (omega (arith, eqb-true (last f xs) 0 q)))
      (λ q. simp q (omega arith))
