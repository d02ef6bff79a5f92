-- Places in a list: the first that passes a test, the least by a key, the list without the element at a place.
-- Assumes nothing.
use Rattle.std.specs.Prelude.{ℕ, zero, suc, ◌+◌, ◌≤◌, ◌<◌, Bool, true, false, cond, ◌||◌, ◌&&◌, not, List, [], ◌∷◌, ◌++◌, ◌≡◌, refl, eqb, ltb, length, get_or, take, drop}
use Rattle.std.proofs.Common.{sym, ap, ◌∙◌, add-one, arith, length-append, take-suc, get_or-take, length-take-le, lt-ltb, ltb-true, ltb-false, eqb-true}
use Rattle.std.proofs.lemmas.Bool.{eqb-false}
use Rattle.lists.specs.Sums.{any, any_append, keep, sum}
use Rattle.lists.specs.Tests.{split, clash, neither, or-true, or-false}

module _ {A : Type 0} where
  -- the place of the first that passes a test; the length where none does
  abbrev pub first : (A → Bool) → List A → ℕ
  first p [] = 0
  first p (x ∷ xs) = cond (p x) 0 (suc (first p xs))

  -- the place of the least by a key, the first of equals
  abbrev pub least : (A → ℕ) → List A → ℕ
  least k [] = 0
  least k (x ∷ xs) = cond (any (λ y. ltb (k y) (k x)) xs) (suc (least k xs)) 0

  -- the list without the element at a place; past the end it is the list
  abbrev pub without : ℕ → List A → List A
  without i [] = []
  without zero (x ∷ xs) = xs
  without (suc i) (x ∷ xs) = x ∷ without i xs

  -- a search that passed the first i without success finds the next, or the end
  pub first_here : (p : A → Bool) (l : List A) (i n : ℕ) (d : A) → i < n → i < length l → any p (take i l) ≡ false → p (get_or l i d) ≡ true → first p (take n l) ≡ i
  first_here p [] i n d a b e q = absurd (omega arith)
  first_here p (x ∷ l) i zero d a b e q = absurd (omega arith)
  first_here p (x ∷ l) zero (suc n) d a b e q = rw q
  first_here p (x ∷ l) (suc i) (suc n) d a b e q =
      let m = neither (p x) (any p (take i l)) e in
      rw (m.0, first_here p l i n d (omega arith) (omega arith) m.1 q)

  pub first_none : (p : A → Bool) (l : List A) → any p l ≡ false → first p l ≡ length l
  first_none p [] e = refl
  first_none p (x ∷ l) e =
      let m = neither (p x) (any p l) e in
      rw (m.0, first_none p l m.1)

  pub first_le : (p : A → Bool) (l : List A) → first p l ≤ length l
  first_le p [] = omega arith
  first_le p (x ∷ l) =
      let ih = first_le p l in
      split (p x) (λ e. rw e (omega arith)) (λ e. rw e (omega arith))

  -- the first that passes does pass
  pub first_passes : (p : A → Bool) (l : List A) (d : A) → first p l < length l → p (get_or l (first p l) d) ≡ true
  first_passes p [] d h = absurd (omega arith)
  first_passes p (x ∷ l) d h =
      split (p x)
      (λ e. rw (e, e))
      (λ e. let z = rw e at h in rw e (first_passes p l d (omega arith)))

  pub least_lt : (k : A → ℕ) (l : List A) → 0 < length l → least k l < length l
  least_lt k [] h = h
  least_lt k (x ∷ []) h = omega arith
  least_lt k (x ∷ (y ∷ l)) h =
      let ih = least_lt k (y ∷ l) (omega arith) in
      split (any (λ z. ltb (k z) (k x)) (y ∷ l)) (λ e. rw e (omega arith)) (λ e. rw e (omega arith))

  pub least_none : (k : A → ℕ) (l : List A) → length l ≡ 0 → least k l ≡ 0
  least_none k [] e = refl
  least_none k (x ∷ l) e = absurd (omega arith)

  pub least_one : (k : A → ℕ) (l : List A) → least k (take 1 l) ≡ 0
  least_one k [] = refl
  least_one k (x ∷ l) = refl

  -- one more element, below all before it
  least_last : (k : A → ℕ) (v : ℕ) (l : List A) (y : A) → any (λ z. ltb (k z) v) l ≡ false → k y < v → least k (l ++ (y ∷ [])) ≡ length l
  least_last k v [] y e h = refl
  least_last k v (x ∷ l) y e h =
      let m = neither (ltb (k x) v) (any (λ z. ltb (k z) v) l) e in
      let o : ltb (k y) (k x) ≡ true = lt-ltb (k y) (k x) (omega (arith, ltb-false (k x) v m.0)) in
      let t : any (λ z. ltb (k z) (k x)) (l ++ (y ∷ [])) ≡ true = any_append (λ z. ltb (k z) (k x)) l (y ∷ []) ∙ rw o (or-true (any (λ z. ltb (k z) (k x)) l)) in
      rw (t, least_last k v l y m.1 h)

  -- one more element: it is the least, or the least is where it was
  least_step : (k : A → ℕ) (x : A) (l : List A) (y d : A)
      → (any (λ z. ltb (k z) (k x)) l ≡ true → least k (l ++ (y ∷ [])) ≡ cond (ltb (k y) (k (get_or l (least k l) d))) (length l) (least k l))
      → least k ((x ∷ l) ++ (y ∷ [])) ≡ cond (ltb (k y) (k (get_or (x ∷ l) (least k (x ∷ l)) d))) (length (x ∷ l)) (least k (x ∷ l))
  least_step k x l y d ih =
      let q : A → Bool = λ z. ltb (k z) (k x) in
      let t : any q (l ++ (y ∷ [])) ≡ (any q l || (q y || false)) = any_append q l (y ∷ []) in
      split (any q l)
      (λ e. simp (t, e, ih e) (split (ltb (k y) (k (get_or l (least k l) d))) (λ r. rw r) (λ r. rw r)))
      (λ e. split (ltb (k y) (k x))
      (λ r. simp (t, e, r, least_last k (k x) l y e (ltb-true (k y) (k x) r)))
      (λ r. simp (t, e, r)))

  least_snoc : (k : A → ℕ) (x : A) (l : List A) (y d : A)
      → least k ((x ∷ l) ++ (y ∷ [])) ≡ cond (ltb (k y) (k (get_or (x ∷ l) (least k (x ∷ l)) d))) (length (x ∷ l)) (least k (x ∷ l))
  least_snoc k x [] y d = least_step k x [] y d (λ e. clash e refl)
  least_snoc k x (z ∷ l) y d = least_step k x (z ∷ l) y d (λ _. least_snoc k z l y d)

  -- a loop over the first i elements goes on to the next
  pub least_next : (k : A → ℕ) (l : List A) (i : ℕ) (d : A) → 0 < i → i < length l
      → least k (take (i + 1) l) ≡ cond (ltb (k (get_or l i d)) (k (get_or l (least k (take i l)) d))) i (least k (take i l))
  least_next k [] i d a b = absurd (omega arith)
  least_next k (x ∷ l) zero d a b = absurd (omega arith)
  least_next k (x ∷ l) (suc i) d a b =
      let h : i < length l = omega arith in
      let n : length (take i l) ≡ i = length-take-le i l (omega arith) in
      let t : get_or (x ∷ take i l) (least k (x ∷ take i l)) d ≡ get_or (x ∷ l) (least k (x ∷ take i l)) d =
      get_or-take (suc i) (x ∷ l) (least k (x ∷ take i l)) d (let m = least_lt k (x ∷ take i l) (omega arith) in omega arith) in
      rw (add-one (suc i), take-suc l i d) (least_snoc k x (take i l) (get_or l i d) d ∙ rw (t, n))

  pub without_past : (i : ℕ) (l : List A) → length l ≤ i → without i l ≡ l
  without_past i [] h = refl
  without_past zero (x ∷ l) h = absurd (omega arith)
  without_past (suc i) (x ∷ l) h = rw (without_past i l (omega arith))

  pub without_append : (i : ℕ) (xs ys : List A) → i < length xs → without i (xs ++ ys) ≡ without i xs ++ ys
  without_append i [] ys h = absurd (omega arith)
  without_append zero (x ∷ xs) ys h = refl
  without_append (suc i) (x ∷ xs) ys h = rw (without_append i xs ys (omega arith))

  -- without the last element
  pub without_last : (i : ℕ) (l : List A) → i < length l → without i (take (suc i) l) ≡ take i l
  without_last i [] h = absurd (omega arith)
  without_last zero (x ∷ l) h = refl
  without_last (suc i) (x ∷ l) h = rw (without_last i l (omega arith))

  pub sum_without : (f : A → ℕ) (i : ℕ) (l : List A) (d : A) → i < length l → sum f (without i l) + f (get_or l i d) ≡ sum f l
  sum_without f i [] d h = absurd (omega arith)
  sum_without f zero (x ∷ l) d h = omega arith
  sum_without f (suc i) (x ∷ l) d h = omega (arith, sum_without f i l d (omega arith))

  -- one that fails a test taken out: those that pass it stay
  pub keep_without : (p : A → Bool) (i : ℕ) (xs : List A) (d : A) → p (get_or xs i d) ≡ false → keep p (without i xs) ≡ keep p xs
  keep_without p i [] d e = refl
  keep_without p zero (x ∷ xs) d e = rw e
  keep_without p (suc i) (x ∷ xs) d e = rw (keep_without p i xs d e)

  pub without_first : (l : List A) → without 0 l ≡ drop 1 l
  without_first [] = refl
  without_first (x ∷ l) = refl

  -- a loop over all elements but the one at h: one more is looked at, or left out
  pub any_others : (p : A → Bool) (l : List A) (h i : ℕ) (d : A) → i < length l
      → any p (without h (take (i + 1) l)) ≡ (any p (without h (take i l)) || not (eqb i h) && p (get_or l i d))
  any_others p l h i d b =
      let x = get_or l i d in
      let n : length (take i l) ≡ i = length-take-le i l (omega arith) in
      let t : take (suc i) l ≡ take i l ++ (x ∷ []) = take-suc l i d b in
      let more : (r : List A) → any p (r ++ (x ∷ [])) ≡ (any p r || p x) = λ r. any_append p r (x ∷ []) ∙ ap (λ (v : Bool). any p r || v) (or-false (p x)) in
      split (eqb i h)
      (λ e. let q = eqb-true i h e in
      rw (e, add-one, ← q, without_last i l b, without_past i (take i l) (omega arith)) (sym (or-false (any p (take i l)))))
      (λ e. split (ltb i h)
      (λ f. let k : i < h = ltb-true i h f in
      let past : without h (take i l ++ (x ∷ [])) ≡ take i l ++ (x ∷ []) = without_past h (take i l ++ (x ∷ [])) (omega (arith, length-append (take i l) (x ∷ []))) in
      rw (e, add-one, t, past, without_past h (take i l) (omega arith)) (more (take i l)))
      (λ f. rw (e, add-one, t, without_append h (take i l) (x ∷ []) (omega (arith, ltb-false i h f, eqb-false i h e))) (more (without h (take i l)))))
