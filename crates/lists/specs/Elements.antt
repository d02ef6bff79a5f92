-- Elements of a list: `map`, `set`, `take` and `get_or` together.
-- Assumes nothing.
use Rattle.std.specs.Prelude.{ℕ, zero, suc, ◌+◌, ◌<◌, List, [], ◌∷◌, ◌++◌, map, ◌≡◌, refl, length, get_or, set, take, drop, replicate}
use Rattle.std.proofs.Common.{ap, ◌∙◌, sym, zero-add, suc-add, arith, length-take, length-append}
use Rattle.std.proofs.lemmas.List.{length-map}
use Rattle.std.proofs.Math.Seq.{take-nil}

module _ {A B : Type 0} (f : A → B) where
  pub map-set : (l : List A) (i : ℕ) (a : A) → map f (set l i a) ≡ set (map f l) i (f a)
  map-set [] i a = refl
  map-set (x ∷ l) zero a = refl
  map-set (x ∷ l) (suc i) a = ap (λ (r : List B). f x ∷ r) (map-set l i a)

  pub map-append : (xs ys : List A) → map f (xs ++ ys) ≡ map f xs ++ map f ys
  map-append [] ys = refl
  map-append (x ∷ xs) ys = ap (λ (r : List B). f x ∷ r) (map-append xs ys)

  -- a list of the length of its image
  pub unmapped : (l : List A) (n : ℕ) → length (map f l) ≡ n → length l ≡ n
  unmapped l n p = sym (length-map l f) ∙ p

module _ {A : Type 0} where
  pub drop-take : (n m : ℕ) (l : List A) → drop n (take (n + m) l) ≡ take m (drop n l)
  drop-take zero m l = rw zero-add
  drop-take (suc n) m [] = rw (take-nil (suc n + m), take-nil m)
  drop-take (suc n) m (x ∷ l) = rw suc-add (drop-take n m l)

  -- an element that changes, and all the others, are related to what stood there
  pub set_rel : (R : A → A → Type 0) → ((x : A) → R x x) → (l : List A) (i h : ℕ) (v d : A) → R v (get_or l i d) → R (get_or (set l i v) h d) (get_or l h d)
  set_rel R q [] i h v d e = q d
  set_rel R q (x ∷ xs) zero zero v d e = e
  set_rel R q (x ∷ xs) zero (suc h) v d e = q (get_or xs h d)
  set_rel R q (x ∷ xs) (suc i) zero v d e = q x
  set_rel R q (x ∷ xs) (suc i) (suc h) v d e = set_rel R q xs i h v d e

  -- as many as there are, of the first n
  pub take_taken : (n i : ℕ) (l : List A) → i ≡ length (take n l) → take i l ≡ take n l
  take_taken n zero [] e = sym (take-nil n)
  take_taken n (suc i) [] e = absurd (omega (arith, length-take n l0))
    where
      l0 : List A
      l0 = []
  take_taken zero zero (x ∷ l) e = refl
  take_taken zero (suc i) (x ∷ l) e = absurd (omega arith)
  take_taken (suc n) zero (x ∷ l) e = absurd (omega arith)
  take_taken (suc n) (suc i) (x ∷ l) e = rw (take_taken n i l (omega arith))

  -- within the list, what stands past its end makes no difference
  pub get_d_within : (l : List A) (i : ℕ) (d e : A) → i < length l → get_or l i d ≡ get_or l i e
  get_d_within [] i d e h = absurd (omega arith)
  get_d_within (x ∷ l) zero d e h = refl
  get_d_within (x ∷ l) (suc i) d e h = get_d_within l i d e (omega arith)

  -- copies of one element, read with that element past the end
  pub get_d_replicated : (n i : ℕ) (a : A) → get_or (replicate n a) i a ≡ a
  get_d_replicated zero i a = refl
  get_d_replicated (suc n) zero a = refl
  get_d_replicated (suc n) (suc i) a = get_d_replicated n i a

  -- no list with an element is empty, and one of no length is
  pub empty_not : (xs : List A) (y : A) (ys : List A) → ◌≡◌ {A = List A} [] (xs ++ y ∷ ys) → ⊥
  empty_not xs y ys e = let z = ap length e in let n = length-append xs (y ∷ ys) in omega arith

  pub empty_list : (xs : List A) → length xs ≡ 0 → xs ≡ []
  empty_list [] e = refl
  empty_list (x ∷ xs) e = absurd (omega arith)
