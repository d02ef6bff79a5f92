-- A list put in the order of a key, equals in their own order.
-- Assumes nothing.
use Rattle.std.specs.Prelude.{ℕ, suc, ◌+◌, ◌≤◌, ◌<◌, Bool, true, false, cond, List, [], ◌∷◌, ◌≡◌, refl, leb, ltb, length, get_or}
use Rattle.std.proofs.Common.{◌∙◌, arith, le-ltb, ltb-true, ltb-false, le-leb}
use Rattle.std.proofs.lemmas.Bool.{lt-leb}
use Rattle.lists.specs.Places.{least, without}
use Rattle.lists.specs.Sums.{sum, sum_split, any, any_none, none_any, any_fewer, keep}
use Rattle.lists.specs.Tests.{bit, split, clash, neither}

module _ {A : Type 0} where
  -- before the first that is not less
  abbrev insert : (A → ℕ) → A → List A → List A
  insert k x [] = x ∷ []
  insert k x (y ∷ ys) = cond (leb (k x) (k y)) (x ∷ y ∷ ys) (y ∷ insert k x ys)

  abbrev pub sort : (A → ℕ) → List A → List A
  sort k [] = []
  sort k (x ∷ xs) = insert k x (sort k xs)

  sum_insert : (f k : A → ℕ) (x : A) (ys : List A) → sum f (insert k x ys) ≡ f x + sum f ys
  sum_insert f k x [] = refl
  sum_insert f k x (y ∷ ys) =
      let ih = sum_insert f k x ys in
      split (leb (k x) (k y)) (λ e. rw e (omega arith)) (λ e. rw e (omega arith))

  pub sum_sort : (f k : A → ℕ) (xs : List A) → sum f (sort k xs) ≡ sum f xs
  sum_sort f k [] = refl
  sum_sort f k (x ∷ xs) = omega (arith, sum_insert f k x (sort k xs), sum_sort f k xs)

module _ {A : Type 0} (k : A → ℕ) where
  -- none is less than a smaller bound
  less_fewer : (a b : ℕ) (xs : List A) → b ≤ a → any (λ y. ltb (k y) a) xs ≡ false → any (λ y. ltb (k y) b) xs ≡ false
  less_fewer a b xs h e = any_fewer (λ y. ltb (k y) b) (λ y. ltb (k y) a) xs (λ y q. le-ltb (k y) b (omega (arith, ltb-false (k y) a q))) e

  -- the least is less than a bound that one is less than
  least_less : (xs : List A) (d : A) (c : ℕ) → any (λ y. ltb (k y) c) xs ≡ true → k (get_or xs (least k xs) d) < c
  least_less [] d c e = clash e refl
  least_less (x ∷ xs) d c e =
      split (any (λ y. ltb (k y) (k x)) xs)
      (λ f. rw f (split (ltb (k x) c)
      (λ g. omega (arith, ltb-true (k x) c g, least_less xs d (k x) f))
      (λ g. least_less xs d c (rw g at e))))
      (λ f. rw f (split (ltb (k x) c)
      (λ g. ltb-true (k x) c g)
      (λ g. clash (rw g at e) (less_fewer (k x) c xs (omega (arith, ltb-false (k x) c g)) f))))

  -- where the least is over a bound, all are
  pub least_over : (n : ℕ) (xs : List A) (d : A) → n < k (get_or xs (least k xs) d) → any (λ y. leb (k y) n) xs ≡ false
  least_over n [] d h = refl
  least_over n (x ∷ xs) d h =
      split (any (λ y. ltb (k y) (k x)) xs)
      (λ f. let g : n < k (get_or xs (least k xs) d) = rw f at h in
      rw (lt-leb (k x) n (omega (arith, least_less xs d (k x) f))) (least_over n xs d g))
      (λ f. let g : n < k x = rw f at h in
      rw (lt-leb (k x) n g) (any_fewer (λ y. leb (k y) n) (λ y. ltb (k y) (k x)) xs (λ y q. lt-leb (k y) n (omega (arith, ltb-false (k y) (k x) q))) f))

  -- an element that none is less than comes first
  insert_first : (x : A) (ys : List A) → any (λ y. ltb (k y) (k x)) ys ≡ false → insert k x ys ≡ x ∷ ys
  insert_first x [] e = refl
  insert_first x (y ∷ ys) e =
      let m = neither (ltb (k y) (k x)) (any (λ z. ltb (k z) (k x)) ys) e in
      rw (le-leb (k x) (k y) (omega (arith, ltb-false (k y) (k x) m.0)))

  -- the order makes no difference to a test
  any_sort : (q : A → Bool) (xs : List A) → any q xs ≡ false → any q (sort k xs) ≡ false
  any_sort q xs e = none_any q (sort k xs) (sum_sort (λ x. bit (q x)) k xs ∙ any_none q xs e)

  -- none of those kept passes a test that none of all passes
  any_keep : (p q : A → Bool) (xs : List A) → any q xs ≡ false → any q (keep p xs) ≡ false
  any_keep p q xs e = none_any q (keep p xs) (omega (arith, any_none q xs e, sum_split (λ x. bit (q x)) p xs))

  -- of those up to a bound, the least comes first, and then the rest in their order
  pub sort_least : (n : ℕ) (xs : List A) (d : A) → least k xs < length xs → k (get_or xs (least k xs) d) ≤ n
      → sort k (keep (λ y. leb (k y) n) xs) ≡ get_or xs (least k xs) d ∷ sort k (keep (λ y. leb (k y) n) (without (least k xs) xs))
  sort_least n [] d b h = absurd (omega arith)
  sort_least n (x ∷ xs) d b h =
      split (any (λ y. ltb (k y) (k x)) xs)
      (λ f. let g : k (get_or xs (least k xs) d) ≤ n = rw f at h in
      let i : suc (least k xs) < suc (length xs) = rw f at b in
      let ih = sort_least n xs d (omega arith) g in
      let l : leb (k x) (k (get_or xs (least k xs) d)) ≡ false = lt-leb (k x) (k (get_or xs (least k xs) d)) (least_less xs d (k x) f) in
      rw f (split (leb (k x) n) (λ q. rw (q, ih, l)) (λ q. rw (q, ih))))
      (λ f. let g : k x ≤ n = rw f at h in
      rw (f, le-leb (k x) n g)
      (insert_first x (sort k (keep (λ y. leb (k y) n) xs)) (any_sort (λ y. ltb (k y) (k x)) (keep (λ y. leb (k y) n) xs) (any_keep (λ y. leb (k y) n) (λ y. ltb (k y) (k x)) xs f))))
