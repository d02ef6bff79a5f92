-- Things that belong to numbers: a weight over all of them is its weights under each number together.
-- Assumes nothing.
use Rattle.std.specs.Prelude.{ℕ, zero, suc, ◌+◌, ◌≤◌, ◌<◌, cond, List, ◌≢◌, ◌≡◌, refl, eqb, leb}
use Rattle.std.proofs.Common.{sym, arith, le-leb, leb-true, eqb-true}
use Rattle.std.proofs.lemmas.Bool.{eqb-false}
use Rattle.lists.specs.Pigeonhole.{upto}
use Rattle.lists.specs.Sums.{sum, sum-le, sum_plus}
use Rattle.lists.specs.Tests.{split}

module _ {A : Type 0} (owner : A → ℕ) (f : A → ℕ) where
  -- of those that belong to number h, and of those that belong to a number from k on
  abbrev under : ℕ → A → ℕ
  under h x = cond (eqb (owner x) h) (f x) 0

  abbrev beyond : ℕ → A → ℕ
  beyond k x = cond (leb k (owner x)) (f x) 0

  beyond_next : (k : ℕ) (x : A) → beyond k x ≤ beyond (suc k) x + under k x
  beyond_next k x =
      split (leb k (owner x))
      (λ e. split (eqb (owner x) k)
      (λ q. rw (e, q) (omega arith))
      (λ q. rw (e, le-leb (suc k) (owner x) (omega (arith, leb-true k (owner x) e, eqb-false (owner x) k q))) (omega arith)))
      (λ e. rw e (omega arith))

  all_beyond : (xs : List A) → sum f xs ≤ sum (beyond 0) xs
  all_beyond xs = sum-le f (beyond 0) xs (λ x. rw (le-leb 0 (owner x) (omega arith)) (omega arith))

  -- all of them
  pub spread : (k : ℕ) (xs : List A) → sum f xs ≤ sum (beyond k) xs + upto (λ h. sum (under h) xs) k
  spread zero xs = omega (arith, all_beyond xs)
  spread (suc k) xs =
      omega (
        arith,
        spread k xs,
        sum-le (beyond k) (λ x. beyond (suc k) x + under k x) xs (beyond_next k),
        sum_plus (beyond (suc k)) (under k) xs,
      )

-- where all numbers but h have nothing, h has all
module _ (f : ℕ → ℕ) where
  upto_none : (k : ℕ) → ((g : ℕ) → g < k → f g ≡ 0) → upto f k ≡ 0
  upto_none zero e = refl
  upto_none (suc k) e = omega (arith, upto_none k (λ g l. e g (omega arith)), e k (omega arith))

  pub upto_most : (h k : ℕ) → h < k → f h ≤ upto f k
  upto_most h zero l = absurd (omega arith)
  upto_most h (suc k) l = split (eqb h k) (λ q. rw (eqb-true h k q) (omega arith)) (λ q. omega (arith, upto_most h k (omega (arith, eqb-false h k q))))

  pub upto_one : (h k : ℕ) → h < k → ((g : ℕ) → g < k → g ≢ h → f g ≡ 0) → upto f k ≡ f h
  upto_one h zero l e = absurd (omega arith)
  upto_one h (suc k) l e =
      split (eqb h k)
      (λ q. let p = eqb-true h k q in rw p (omega (arith, upto_none k (λ g m. e g (omega arith) (omega arith)))))
      (λ q. omega (arith, e k (omega arith) (λ p. eqb-false h k q (sym p)), upto_one h k (omega (arith, eqb-false h k q)) (λ g m n. e g (omega arith) n)))
