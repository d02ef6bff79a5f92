-- Sums of a weight over a list, those that pass a test, whether one does.
-- Assumes nothing.
use Rattle.std.specs.Prelude.{ℕ, ◌+◌, ◌≤◌, ◌<◌, Bool, false, cond, ◌||◌, not, List, [], ◌∷◌, ◌++◌, map, ◌≡◌, refl, length, get_or, take}
use Rattle.std.proofs.Common.{ap, ◌∙◌, add-one, arith, take-suc}
use Rattle.lists.specs.Tests.{bit, split, neither}

module _ {A : Type 0} where
  -- the sum of a weight over a list
  abbrev pub sum : (A → ℕ) → List A → ℕ
  sum f [] = 0
  sum f (x ∷ xs) = f x + sum f xs

  pub sum_append : (f : A → ℕ) (xs ys : List A) → sum f (xs ++ ys) ≡ sum f xs + sum f ys
  sum_append f [] ys = omega arith
  sum_append f (x ∷ xs) ys = omega (arith, sum_append f xs ys)

  pub sum_same : (f g : A → ℕ) (xs : List A) → ((x : A) → f x ≡ g x) → sum f xs ≡ sum g xs
  sum_same f g [] h = refl
  sum_same f g (x ∷ xs) h = omega (arith, sum_same f g xs h, h x)

  pub sum-le : (f g : A → ℕ) (xs : List A) → ((x : A) → f x ≤ g x) → sum f xs ≤ sum g xs
  sum-le f g [] h = omega arith
  sum-le f g (x ∷ xs) h = omega (arith, sum-le f g xs h, h x)

  pub sum_zero : (f : A → ℕ) (xs : List A) → ((x : A) → f x ≡ 0) → sum f xs ≡ 0
  sum_zero f [] h = refl
  sum_zero f (x ∷ xs) h = omega (arith, sum_zero f xs h, h x)

  pub length_sum : (xs : List A) → length xs ≡ sum (λ x. 1) xs
  length_sum [] = refl
  length_sum (x ∷ xs) = omega (arith, length_sum xs)

  -- one of several has its own weight in their sum
  pub sum_one_of : (f : A → ℕ) (xs past : List A) (x : A) (rest : List A) → xs ≡ past ++ x ∷ rest → sum f xs ≡ sum f past + (f x + sum f rest)
  sum_one_of f xs past x rest e = ap (sum f) e ∙ sum_append f past (x ∷ rest)

  pub sum_plus : (f g : A → ℕ) (xs : List A) → sum (λ x. f x + g x) xs ≡ sum f xs + sum g xs
  sum_plus f g [] = refl
  sum_plus f g (x ∷ xs) = omega (arith, sum_plus f g xs)

  -- a loop over the first i elements goes on to the next
  pub sum_next : (f : A → ℕ) (l : List A) (i : ℕ) (d : A) → i < length l → sum f (take (i + 1) l) ≡ sum f (take i l) + f (get_or l i d)
  sum_next f l i d h = rw (add-one, take-suc l i d) (omega (arith, sum_append f (take i l) (get_or l i d ∷ [])))

  -- those that pass a test
  abbrev pub keep : (A → Bool) → List A → List A
  keep p [] = []
  keep p (x ∷ xs) = cond (p x) (x ∷ keep p xs) (keep p xs)

  pub sum_split : (f : A → ℕ) (p : A → Bool) (xs : List A) → sum f (keep p xs) + sum f (keep (λ x. not (p x)) xs) ≡ sum f xs
  sum_split f p [] = refl
  sum_split f p (x ∷ xs) =
      let ih = sum_split f p xs in
      split (p x) (λ e. rw e (omega arith)) (λ e. rw e (omega arith))

  pub sum_keep_le : (f : A → ℕ) (p : A → Bool) (xs : List A) → sum f (keep p xs) ≤ sum f xs
  sum_keep_le f p xs = omega (arith, sum_split f p xs)

  -- over those that pass a test, the others weigh nothing
  pub sum_keep : (f : A → ℕ) (p : A → Bool) (xs : List A) → sum f (keep p xs) ≡ sum (λ x. cond (p x) (f x) 0) xs
  sum_keep f p [] = refl
  sum_keep f p (x ∷ xs) =
      let ih = sum_keep f p xs in
      split (p x) (λ e. rw e (omega arith)) (λ e. rw e (omega arith))

  -- how many pass a test
  abbrev pub count : (A → Bool) → List A → ℕ
  count p xs = sum (λ x. bit (p x)) xs

  pub length_keep_count : (p : A → Bool) (xs : List A) → length (keep p xs) ≡ count p xs
  length_keep_count p [] = refl
  length_keep_count p (x ∷ xs) =
      let ih = length_keep_count p xs in
      split (p x) (λ e. rw e (omega arith)) (λ e. rw e (omega arith))

  -- whether one passes a test
  abbrev pub any : (A → Bool) → List A → Bool
  any p [] = false
  any p (x ∷ xs) = p x || any p xs

  pub any_append : (p : A → Bool) (xs ys : List A) → any p (xs ++ ys) ≡ (any p xs || any p ys)
  any_append p [] ys = refl
  any_append p (x ∷ xs) ys =
      let ih = any_append p xs ys in
      split (p x) (λ e. rw e) (λ e. rw e ih)

  -- none passes a test: the count is 0
  pub any_none : (p : A → Bool) (xs : List A) → any p xs ≡ false → count p xs ≡ 0
  any_none p [] e = refl
  any_none p (x ∷ xs) e =
      let n = neither (p x) (any p xs) e in
      let ih = any_none p xs n.1 in
      rw n.0 (omega arith)

  pub none_any : (p : A → Bool) (xs : List A) → count p xs ≡ 0 → any p xs ≡ false
  none_any p [] e = refl
  none_any p (x ∷ xs) e =
      split (p x) (λ q. absurd (let z = rw q at e in omega arith)) (λ q. rw q (none_any p xs (let z = rw q at e in omega arith)))

  -- a search over the first i elements that found none goes on, or finds the next
  pub any_next : (p : A → Bool) (l : List A) (i : ℕ) (d : A) → i < length l → any p (take i l) ≡ false → any p (take (i + 1) l) ≡ p (get_or l i d)
  any_next p l i d h e =
      rw (add-one, take-suc l i d, any_append, e)
      (split (p (get_or l i d)) (λ q. rw q) (λ q. rw q))

  -- none passes a test that asks for more
  pub any_fewer : (p q : A → Bool) (xs : List A) → ((x : A) → q x ≡ false → p x ≡ false) → any q xs ≡ false → any p xs ≡ false
  any_fewer p q [] h e = refl
  any_fewer p q (x ∷ xs) h e =
      let m = neither (q x) (any q xs) e in
      rw (h x m.0, any_fewer p q xs h m.1)

  -- where none passes the test: none is kept by it, and all by its opposite
  pub keep_none : (p : A → Bool) (xs : List A) → any p xs ≡ false → keep p xs ≡ []
  keep_none p [] e = refl
  keep_none p (x ∷ xs) e =
      let m = neither (p x) (any p xs) e in
      rw (m.0, keep_none p xs m.1)

  pub keep_all : (p : A → Bool) (xs : List A) → any p xs ≡ false → keep (λ x. not (p x)) xs ≡ xs
  keep_all p [] e = refl
  keep_all p (x ∷ xs) e =
      let m = neither (p x) (any p xs) e in
      rw (m.0, keep_all p xs m.1)

pub sum-map : {A B : Type 0} (f : B → ℕ) (g : A → B) (xs : List A) → sum f (map g xs) ≡ sum (λ x. f (g x)) xs
sum-map f g [] = refl
sum-map f g (x ∷ xs) = omega (arith, sum-map f g xs)
