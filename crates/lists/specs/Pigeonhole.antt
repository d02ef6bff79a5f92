-- More candidates than things that have a number: one candidate is the number of none.
-- Assumes nothing.
use Rattle.std.specs.Prelude.{ℕ, zero, suc, ◌+◌, ◌≤◌, ◌<◌, List, [], ◌∷◌, ◌≢◌, ◌≡◌, refl, eqb, length}
use Rattle.std.proofs.Common.{sym, ◌∙◌, arith, ne_eqb, eqb-true}
use Rattle.lists.specs.Sums.{count}
use Rattle.lists.specs.Tests.{bit, split}

-- f 0 + .. + f (k - 1)
abbrev pub upto : (ℕ → ℕ) → ℕ → ℕ
upto f zero = 0
upto f (suc k) = f k + upto f k

upto_zero : (k : ℕ) → upto (λ i. 0) k ≡ 0
upto_zero zero = refl
upto_zero (suc k) = omega (arith, upto_zero k)

pub upto_add : (f g : ℕ → ℕ) (k : ℕ) → upto (λ i. f i + g i) k ≡ upto f k + upto g k
upto_add f g zero = refl
upto_add f g (suc k) = omega (arith, upto_add f g k)

-- each is at least 1
pub upto_all : (f : ℕ → ℕ) (k : ℕ) → ((i : ℕ) → i < k → f i ≢ 0) → k ≤ upto f k
upto_all f zero h = omega arith
upto_all f (suc k) h = omega (arith, upto_all f k (λ i l. h i (omega arith)), h k (omega arith))

-- candidates that differ
abbrev pub Distinct : (ℕ → ℕ) → ℕ → Type 0
Distinct c k = (i j : ℕ) → i < j → j < k → c i ≢ c j

module _ (c : ℕ → ℕ) (x : ℕ) where
  none_before : (k j : ℕ) → j ≤ k → ((i : ℕ) → i < k → x ≢ c i) → upto (λ i. bit (eqb x (c i))) j ≡ 0
  none_before k zero l h = refl
  none_before k (suc j) l h = rw (ne_eqb x (c j) (h j (omega arith))) (omega (arith, none_before k j (omega arith) h))

  -- at most one of them is x
  hit_once : (k : ℕ) → Distinct c k → upto (λ i. bit (eqb x (c i))) k ≤ 1
  hit_once zero d = omega arith
  hit_once (suc k) d =
      split (eqb x (c k))
      (λ e. rw e (omega (arith, none_before k k (omega arith) (λ i l. λ (p : x ≡ c i). d i k l (omega arith) (sym p ∙ eqb-true x (c k) e)))))
      (λ e. rw e (omega (arith, hit_once k (λ i j a b. d i j a (omega arith)))))

-- so the things of a list have at most as many of them as there are things
pub hits : {A : Type 0} (number : A → ℕ) (c : ℕ → ℕ) (k : ℕ) (xs : List A) → Distinct c k → upto (λ i. count (λ x. eqb (number x) (c i)) xs) k ≤ length xs
hits number c k [] d = omega (arith, upto_zero k)
hits number c k (x ∷ xs) d =
    omega (arith, hits number c k xs d, hit_once c (number x) k d, upto_add (λ i. bit (eqb (number x) (c i))) (λ i. count (λ y. eqb (number y) (c i)) xs) k)
